-- The oracle theorem (demand 3): what holds after every list of reports of an oracle (01: a lab) that is true to a set of forbidden paths.
use Rattle.std.specs.Prelude.{ℕ, ◌+◌, ◌≤◌, ◌≡◌, ◌≢◌, ◌⊎◌, ◌↔◌, T, length}
use mathlib.Core.List.{List, ◌++◌, Memᴰ}
use Rattle.std.proofs.Math.Option.{none}
use Rattle.walks.specs.Walk.{weight_of}
use Rattle.walks.specs.Avoid.{Occurs, Avoids}
use Rattle.book.specs.Book.{is_path}
use Rattle.walks.specs.Best.{Feasible, Best, None}
use Rattle.limits.specs.Limits.{most_paths}
use Rattle.trial_rules.specs.Trials.{Report, passed, failed, State, standing, trials, refusal, EachAccepted, failures, Begin, begun}
use Rattle.trial_rules.specs.Lacking.{lacking, together}
use Rattle.trial_rules.specs.Claim.{Claim}

-- A report is true to R (01, 'Trials'): it passes a standing walk that avoids R, or names a path of R that stands in the standing walk.
abbrev pub TrueTo : List (List ℕ) → State → Report → Type 0
TrueTo R σ passed = Avoids R (standing σ)
TrueTo R σ (failed r) = Memᴰ r R × Occurs r (standing σ)

-- The oracle's set (01): runs, all over the book's grades, that make at most 256 different ones with the binding sheets'.
pub record OracleSet (b : Begin) (R : List (List ℕ)) : Type 0 where
  pub taken : (r : List ℕ) → Memᴰ r R → T (is_path b.graph.count r)
  pub few : length (together b.bound R) ≤ most_paths

-- The oracle is true to R: each of its accepted reports is; its refused ones may be anything.
abbrev pub TrueOracle : Begin → List (List ℕ) → List Report → Type 0
TrueOracle b R ρs = EachAccepted b.graph b.plan (TrueTo R) (begun b) ρs

module _ (b : Begin) where
  open b use {graph as g, bound as F₀, start as s, end as t}

  -- Demand 3, sentence by sentence, of the state σ that begin and then the accepted reports `done` led to. F₀ are the binding sheets'
  -- runs, R the lab's.
  pub record OracleOutcome (R : List (List ℕ)) (done : List Report) (σ : State) : Type 0 where
    -- Record and areas are as 01's rules for trials give them.
    pub rules : Claim b done σ
    -- The record's failed count is the number of failed reports that were accepted, and at most the number of the lab's runs that the
    -- binding sheets lack. Trials are failed plus passed: at most one more.
    pub failed-counted : σ.rec.failed ≡ failures done
    pub failed-bounded : σ.rec.failed ≤ length (lacking F₀ R)
    pub trials-bounded : trials σ ≤ length (lacking F₀ R) + 1
    -- While the trials are not over, no true report is refused.
    pub true-accepted : σ.rec.stage ≡ 0 → (ρ : Report) → TrueTo R σ ρ → refusal g σ ρ ≡ none
    -- A passed line-up avoids the binding sheets' runs and all the lab's runs, and every other line-up from start to end that avoids them
    -- loses at least as many litres. (It is the best under them: ties fall as in planning.)
    pub passed-avoids : σ.rec.stage ≡ 1 → Feasible g (F₀ ++ R) s t (standing σ)
    pub passed-litres : σ.rec.stage ≡ 1 → σ.rec.litres ≡ weight_of g (standing σ)
    pub passed-least : σ.rec.stage ≡ 1 → (v : List ℕ) → Feasible g (F₀ ++ R) s t v → σ.rec.litres ≤ weight_of g v
    pub passed-best : σ.rec.stage ≡ 1 → Best g (F₀ ++ R) s t (standing σ)
    -- Trials that are over end in a passed line-up or in none, and in none exactly when no line-up from start to end avoids those runs.
    pub over : σ.rec.stage ≢ 0 → (σ.rec.stage ≡ 1) ⊎ (σ.rec.stage ≡ 2)
    pub none-exactly : σ.rec.stage ≢ 0 → (σ.rec.stage ≡ 2) ↔ None g (F₀ ++ R) s t
