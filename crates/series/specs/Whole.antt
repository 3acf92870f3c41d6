-- The claims over whole lists, as they hold of the operations: of reports made one after the other, and of `replay`.
use Rattle.std.specs.Prelude.{ℕ, ◌≡◌, Result, Ok}
use mathlib.Core.List.{List, [], ◌∷◌, ◌++◌}
use Rattle.std.proofs.Math.Option.{Option, none, some}
use Rattle.std.proofs.Math.Path.{refl, ap}
use Rattle.std.proofs.Common.{◌∙◌}
use Rattle.states.specs.Chosen.{chosen}
use Rattle.book.specs.declared.Refusal.{Refusal}
use Rattle.book.specs.Book.{Book, graph}
use Rattle.book.proofs.BookLaws.{reading-is-book}
use Rattle.book.specs.Reading.{accepted, reading}
use Rattle.rules.specs.declared.Batch.{Batch}
use Rattle.trial_record.specs.declared.Record.{Record}
use Rattle.trials.specs.declared.Rejected.{Rejected}
use Rattle.trial_rules.specs.Trials.{Report, State, path_area, begin_refusal, refusal, Valid, unless, step, after, run, Begin, begun, state_after, accepted_of}
use Rattle.trials.specs.Operations.{Leaves, answering, begun_as, beginning_of, beginning, reported_as, reporting_of, reporting, record_in}
use Rattle.trials.specs.OperationLaws.{same_step}
use Rattle.series.specs.Making.{replaying_of, replaying}
use Rattle.series.specs.Reports.{reports_of}
use Rattle.trials.specs.Replanning.{trials_of}
use Rattle.trial_rules.proofs.Invariant.{Invariant, invariant_begin, invariant_step}
use Rattle.trial_rules.specs.Claim.{Claim}
use Rattle.trial_rules.proofs.Claim.{claim}
use Rattle.trial_rules.specs.Oracle.{OracleSet, TrueOracle, OracleOutcome}
use Rattle.trial_rules.proofs.Oracle.{oracle}

-- What a state leaves: its record, and every byte of both areas.
abbrev pub leaves_of : State → Leaves Record
leaves_of σ = answering σ.rec (path_area σ) σ.area

-- A report on what begin or the report before it left.
abbrev pub report_on : List ℕ → Leaves Record → Report → Leaves Record
report_on s l ρ =
    let m = reporting s l.answer l.paths l.walk ρ in
    answering (record_in m.answer) m.paths m.walk

-- A list of them (01: each gets the begin's book, and record and areas as begin or the report before it left them).
unfoldable pub reports_on : List ℕ → Leaves Record → List Report → Leaves Record
reports_on s l [] = l
reports_on s l (ρ ∷ ρs) = reports_on s (report_on s l ρ) ρs

-- What a report leaves is in order again.
pub after-keeps : (t : Begin) (σ : State) (ρ : Report) (done : List Report) → Invariant t done σ
    → (done' : List Report) × Invariant t done' (after t.graph t.plan σ ρ)
after-keeps t σ ρ done c = go (refusal t.graph σ ρ) refl
  where
    go : (o : Option Refusal) → refusal t.graph σ ρ ≡ o → (done' : List Report) × Invariant t done' (unless o (step t.graph t.plan σ ρ) σ)
    go none e = (done ++ (ρ ∷ []), invariant_step t done σ ρ c e)
    go (some x) e = (done, c)

module _ (s : List ℕ) (b : Book) (read : reading s ≡ accepted b) where
  -- A report on a state in order leaves the state that the rules give; a refused one is as if not made.
  pub report_leaves : (σ : State) → Valid (graph b) σ → (ρ : Report) → report_on s (leaves_of σ) ρ ≡ leaves_of (after (graph b) (chosen (graph b)) σ ρ)
  report_leaves σ v ρ =
      ap next (ap (λ x. reporting_of x σ.rec (path_area σ) σ.area ρ) read ∙ same_step b σ v ρ) ∙ go (refusal (graph b) σ ρ)
    where
      next : Leaves (Result Record Rejected) → Leaves Record
      next m = answering (record_in m.answer) m.paths m.walk

      σ' : State
      σ' = step (graph b) (chosen (graph b)) σ ρ

      go : (o : Option Refusal) → next (reported_as o σ' σ.rec (path_area σ) σ.area) ≡ leaves_of (unless o σ' σ)
      go none = refl
      go (some x) = refl

  -- An accepted begin on the book.
  module _ (batch : Batch) (start end : ℕ) (paths walk : List ℕ) (ok : begin_refusal batch (graph b) start end paths walk ≡ none) where
    abbrev pub opened : Begin
    opened = trials_of b (reading-is-book s b read).well_formed batch start end paths walk ok

    pub begin_leaves : beginning s batch start end paths walk ≡ answering (Ok (begun opened).rec) (path_area (begun opened)) (begun opened).area
    begin_leaves =
        ap (λ x. beginning_of x batch start end paths walk) read ∙ ap (λ o. begun_as o (begun opened) paths walk) ok

    -- 01, 'Trials', of the operations: after every list of reports, refused ones included, the record and every byte of both areas are those
    -- that the three rules give.
    pub reports_leave : (ρs : List Report) → reports_on s (leaves_of (begun opened)) ρs ≡ leaves_of (state_after opened ρs)
    unfolding reports_on run
    reports_leave ρs = from (begun opened) ([], invariant_begin opened) ρs
      where
        from : (σ : State) → (done : List Report) × Invariant opened done σ → (τs : List Report)
            → reports_on s (leaves_of σ) τs ≡ leaves_of (run (graph b) (chosen (graph b)) σ τs)
        from σ c [] = refl
        from σ c (ρ ∷ τs) =
            ap (λ l. reports_on s l τs) (report_leaves σ c.1.valid ρ)
            ∙ from (after (graph b) (chosen (graph b)) σ ρ) (after-keeps opened σ ρ c.0 c.1) τs

    -- ... and so after every replay.
    pub replay_leaves : (reports : List ℕ)
        → replaying s batch start end reports paths walk
        ≡ answering (Ok (state_after opened (reports_of reports)).rec) (path_area (state_after opened (reports_of reports))) (state_after opened (reports_of reports)).area
    replay_leaves reports =
        ap (λ x. replaying_of x batch start end reports paths walk) read
        ∙ ap (λ o. begun_as o (state_after opened (reports_of reports)) paths walk) ok

    -- The claim about the list, and demand 3, of what a replay leaves.
    pub replay-claim : (reports : List ℕ) → Claim opened (accepted_of opened (reports_of reports)) (state_after opened (reports_of reports))
    replay-claim reports = claim opened (reports_of reports)

    pub replay-oracle : (R : List (List ℕ)) → OracleSet opened R → (reports : List ℕ) → TrueOracle opened R (reports_of reports)
        → OracleOutcome opened R (accepted_of opened (reports_of reports)) (state_after opened (reports_of reports))
    replay-oracle R set reports honest = oracle opened R set (reports_of reports) honest
