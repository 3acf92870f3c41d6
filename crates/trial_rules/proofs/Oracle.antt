-- The laws of what specs/Oracle.antt defines.
use Rattle.std.specs.Prelude.{ℕ, ◌+◌, ◌≤◌, ◌≡◌, Bool, true, false, cond, ◌≢◌, ◌⊎◌, T, eqb, length}
use mathlib.Core.List.{List, [], ◌∷◌, ◌++◌, Memᴰ}
use Rattle.std.proofs.Common.{inl, inr, ⊎_elim, arith, lt→ltb, length-append}
use Rattle.std.proofs.Math.Logic.{by_cases}
use Rattle.std.proofs.Math.Option.{Option, none, some}
use Rattle.std.proofs.Math.Decide.{ℕ_discrete}
use Rattle.std.specs.Float.Ieee.Fits.{and_i}
use Rattle.lists.specs.Distinct.{Distinct, distinct-length}
use Rattle.walks.proofs.Order.{≼-weight}
use Rattle.walks.specs.Avoid.{occurs, Avoids, ◌⊆◌}
use Rattle.walks.proofs.Avoid.{Occurs→occurs}
use Rattle.book.specs.Book.{is_path}
use Rattle.walks.specs.Best.{Best}
use Rattle.walks.proofs.Best.{Best-mono, None-mono, Best-not-None}
use Rattle.limits.specs.Limits.{most_paths}
use Rattle.trial_rules.specs.Trials.{Report, passed, failed, State, standing, refusal, is_named, has_room, stage_of, step, named, Begin, begun, state_after, accepted_of}
use Rattle.trial_rules.proofs.Accepted.{begin-accepted, not-refused}
use Rattle.trial_rules.specs.Lacking.{lacking, together}
use Rattle.trial_rules.proofs.Lacking.{together-is, distinct_snoc}
use Rattle.trial_rules.proofs.Invariant.{Invariant, invariant_begin, invariant_step, kept, named-failed, named-passed}
use Rattle.trial_rules.proofs.Claim.{claimed}
use Rattle.trial_rules.specs.Oracle.{TrueTo, OracleSet, TrueOracle, OracleOutcome}

at_most_one : (b : Bool) → cond b 1 0 ≤ 1
at_most_one true = omega arith
at_most_one false = omega arith

stage-not-1 : (p : Option (List ℕ)) → stage_of p ≡ 1 → ⊥
stage-not-1 none e = omega arith
stage-not-1 (some w) e = omega arith

module _ (b : Begin) (R : List (List ℕ)) (set : OracleSet b R) where
  open b use {graph as g, plan, bound as F₀, bound-set as bound, start as s, end as t}

  -- What an oracle that is true to R keeps besides the claim.
  record Sound (done : List Report) (σ : State) : Type 0 where
    rules : Invariant b done σ
    named_in : (r : List ℕ) → Memᴰ r (named done) → Memᴰ r R
    passed-clear : σ.rec.stage ≡ 1 → Avoids R (standing σ)

  sound_begin : Sound [] (begun b)
  unfolding named
  sound_begin =
      record {
        rules = invariant_begin b;
        named_in = λ r m. absurd (mathlib.Core.List.Memᴰ.not-nil m);
        passed-clear = λ e. absurd (stage-not-1 (plan F₀ s t) e);
      }

  sound_step : (done : List Report) (σ : State) (ρ : Report) → Sound done σ → refusal g σ ρ ≡ none → TrueTo R σ ρ
      → Sound (done ++ (ρ ∷ [])) (step g plan σ ρ)
  sound_step done σ passed h e q =
      record {
        rules = invariant_step b done σ passed h.rules e;
        named_in = rw named-passed h.named_in;
        passed-clear = λ _. q;
      }
  sound_step done σ (failed r) h e q =
      record {
        rules = invariant_step b done σ (failed r) h.rules e;
        named_in =
            rw (named-failed done r)
            (λ p m. ⊎_elim (h.named_in p) (λ k. mathlib.Core.List.Memᴰ.cast (mathlib.Core.List.Memᴰ.eq_of_singleton k) q.0) (mathlib.Core.List.Memᴰ.append_cases (named done) m));
        passed-clear = λ f. absurd (stage-not-1 (plan (σ.forbidden ++ (r ∷ [])) σ.rec.start σ.rec.end) f);
      }

  module _ (done : List Report) (σ : State) (h : Sound done σ) where
    -- every known path is a binding one or the oracle's
    known_in : σ.forbidden ⊆ (F₀ ++ R)
    known_in r m =
        ⊎_elim (mathlib.Core.List.Memᴰ.append_left R) (λ k. mathlib.Core.List.Memᴰ.append_right F₀ (h.named_in r k))
        (mathlib.Core.List.Memᴰ.append_cases F₀ (rw h.rules.forbidden at m))

    -- different paths of both are no more than all of them
    no_more : (F : List (List ℕ)) → Distinct F → F ⊆ (F₀ ++ R) → length F ≤ length F₀ + length (lacking F₀ R)
    no_more F d i =
        rw length-append at (distinct-length F (together F₀ R) d (λ r m. (together-is F₀ R bound.distinct).into r (i r m)))

    failed-few : σ.rec.failed ≤ length (lacking F₀ R)
    failed-few =
        let c = h.rules in
        omega (arith, no_more σ.forbidden c.valid.set.distinct known_in, c.valid.known, c.valid.sum, c.first)

    true-one : σ.rec.stage ≡ 0 → (ρ : Report) → TrueTo R σ ρ → T (is_named g σ ρ) × T (has_room σ ρ)
    true-one e passed q = (tt, tt)
    true-one e (failed r) q =
        let c = h.rules in
        let F = σ.forbidden in
        let new : Memᴰ r F → ⊥ = λ m. (c.valid.walk (λ f. omega arith)).clear r m q.1 in
        let within : (F ++ (r ∷ [])) ⊆ (F₀ ++ R) =
        λ p m. ⊎_elim (known_in p) (λ k. mathlib.Core.List.Memᴰ.cast (mathlib.Core.List.Memᴰ.eq_of_singleton k) (mathlib.Core.List.Memᴰ.append_right F₀ q.0)) (mathlib.Core.List.Memᴰ.append_cases F m) in
        let all_fit = no_more (F ++ (r ∷ [])) (distinct_snoc F r c.valid.set.distinct new) within in (
          and_i (is_path g.count r) (occurs r (standing σ)) (set.taken r q.0) (Occurs→occurs r (standing σ) q.1),
          lt→ltb σ.rec.known most_paths (omega (arith, rw length-append at all_fit, rw length-append at set.few, c.valid.known)),
        )

    sound_outcome : OracleOutcome b R done σ
    sound_outcome =
        let c = h.rules in
        let v = c.valid in
        let a = begin-accepted b in
        let best : σ.rec.stage ≡ 1 → Best g (F₀ ++ R) s t (standing σ) =
        λ e. Best-mono known_in (c.best (λ f. omega arith)) (all-clear e) in
        record {
          rules = claimed b done σ c;
          failed-counted = c.failed-count;
          failed-bounded = failed-few;
          trials-bounded = omega (arith, failed-few, passed-few);
          true-accepted =
              λ e ρ q.
              let n = true-one e ρ q in
              not-refused g σ ρ (record { area-fits = omega (arith, c.area-length, a.area-fits); valid = v; stage = e; named = n.0; room = n.1 });
          passed-avoids = λ e. (best e).feasible;
          passed-litres = λ e. v.litres (λ f. omega arith);
          passed-least = λ e w f. omega (arith, v.litres (λ k. omega arith), ≼-weight g (standing σ) w ((best e).least w f));
          passed-best = best;
          over = two_ways;
          none-exactly =
              λ ne. (λ e. None-mono known_in (c.nothing e), λ n. ⊎_elim (λ e. absurd (Best-not-None (best e) n)) (λ e. e) (two_ways ne));
        }
      where
        all-clear : σ.rec.stage ≡ 1 → Avoids (F₀ ++ R) (standing σ)
        all-clear e r m =
            ⊎_elim (λ k. (h.rules.valid.walk (λ f. omega arith)).clear r (rw h.rules.forbidden (mathlib.Core.List.Memᴰ.append_left (named done) k)))
            (h.passed-clear e r)
            (mathlib.Core.List.Memᴰ.append_cases F₀ m)

        two_ways : σ.rec.stage ≢ 0 → (σ.rec.stage ≡ 1) ⊎ (σ.rec.stage ≡ 2)
        two_ways ne = by_cases (ℕ_discrete σ.rec.stage 1) inl (λ (d : ¬ (σ.rec.stage ≡ 1)). inr (omega (arith, h.rules.valid.stage)))

        passed-few : σ.rec.passed ≤ 1
        passed-few = rw h.rules.valid.passed (at_most_one (eqb σ.rec.stage 1))

-- Demand 3: for every accepted begin, every set R, and every list of reports, passed or failed, refused ones included, from an oracle that
-- is true to R.
pub oracle : (b : Begin) (R : List (List ℕ)) → OracleSet b R → (ρs : List Report) → TrueOracle b R ρs → OracleOutcome b R (accepted_of b ρs) (state_after b ρs)
oracle b R set ρs true-to-R =
    sound_outcome b R set (accepted_of b ρs) (state_after b ρs)
    (kept b.graph b.plan (Sound b R set) (TrueTo R) (sound_step b R set) ρs [] (begun b) true-to-R (sound_begin b R set))
