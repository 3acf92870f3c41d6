-- What the words of demand 3 come to in the theory of trials: the answers, the accepted reports, a true lab, its set, and the walks that are free.
use Rattle.std.specs.Prelude.{ℕ, ◌≡◌, length, Result, Ok, Err}
use Rattle.std.proofs.Math.Path.{refl, ap, ap₂}
use Rattle.std.proofs.Common.{sym, subst, ◌∙◌, inl, inr, ⊎_elim, arith}
use mathlib.Core.List.Memᴰ
use mathlib.Core.List.{List, [], ◌∷◌, ◌++◌, Memᴰ}
use Rattle.std.proofs.Math.Option.{Option, none, some}
use Rattle.lists.specs.Distinct.{distinct-length}
use Rattle.walks.proofs.Avoid.{Avoids-mono}
use Rattle.walks.specs.Best.{Feasible}
use Rattle.states.specs.Chosen.{chosen}
use Rattle.book.specs.declared.Refusal.{Refusal}
use Rattle.book.specs.Refusal.{number_of, refusal_by}
use Rattle.book.specs.Book.{Book, WellFormed, graph}
use Rattle.book.specs.Reading.{accepted, reading}
use Rattle.rules.specs.Binding.{known}
use Rattle.rules.specs.declared.Batch.{Batch}
use Rattle.trial_record.specs.declared.Record.{Record}
use Rattle.trial_rules.specs.Trials.{Report, passed, failed, State, path_area, oracle_tests, refusal, Valid, begin_refusal, unless, step, after, accepted as acceptedFrom, EachAccepted, Begin}
use Rattle.trial_rules.specs.Lacking.{lacking, together}
use Rattle.trial_rules.proofs.Lacking.{together-is, lacking-into, lacking-from, lacking-distinct}
use Rattle.trial_rules.proofs.Invariant.{Invariant}
use Rattle.trial_rules.specs.Oracle.{TrueTo}
use Rattle.trials.specs.declared.Rejected.{Rejected}
use Rattle.trials.specs.Operations.{Leaves, rejected, answering, begun_as, beginning, beginning_of, reported_as, reporting_of, reporting, first_state}
use Rattle.trials.specs.OperationLaws.{same_step}
use Rattle.trials.specs.Replanning.{known-set}
use Rattle.series.specs.Whole.{leaves_of, report_leaves, after-keeps, opened}
use Rattle.demands.proofs.Marks.{known→sheet, sheet→known}
use Rattle.demands.proofs.Conditions.{number-among}
use Rattle.demands.proofs.RefusalLaws.{report-tells, refusals}
use Rattle.demands.specs.Calls.{answer_on, answers_on, accepted_by, accepted_on, TrueReport, TrueLab, HowMany, OfEither, LabsOnly, Free}

-- ---- how many
-- One number at most.
pub how_many_once : {P : List ℕ → Type 0} {m n : ℕ} → HowMany P m → HowMany P n → m ≡ n
how_many_once h k =
    let more = distinct-length h.listed k.listed h.once (λ r i. (k.each r).1 ((h.each r).0 i)) in
    let less = distinct-length k.listed h.listed k.once (λ r i. (h.each r).1 ((k.each r).0 i)) in
    omega (arith, h.number, k.number)

module _ (b : Book) (w : WellFormed b) (batch : Batch) (R : List (List ℕ)) where
  abbrev F₀ : List (List ℕ)
  F₀ = known batch b.sets

  pub many_of_either : HowMany (OfEither b batch R) (length (together F₀ R))
  many_of_either =
      let d = together-is F₀ R (known-set batch b w).distinct in
      record {
        listed = together F₀ R;
        once = d.distinct;
        each =
            λ r. (
              λ m. ⊎_elim (λ k. inl (known→sheet b batch k)) inr (Memᴰ.append_cases F₀ (d.from r m)),
              ⊎_elim (λ o. d.into r (Memᴰ.append_left R (sheet→known b batch o))) (λ m. d.into r (Memᴰ.append_right F₀ m)),
            );
        number = refl;
      }

  pub many_labs_only : HowMany (LabsOnly b batch R) (length (lacking F₀ R))
  many_labs_only =
      record {
        listed = lacking F₀ R;
        once = lacking-distinct F₀ R;
        each =
            λ r. (
              λ m. ((lacking-from F₀ R r m).0, λ o. (lacking-from F₀ R r m).1 (sheet→known b batch o)),
              λ h. lacking-into F₀ R r h.0 (λ m. h.1 (known→sheet b batch m)),
            );
        number = refl;
      }

-- ---- walks that are free
module _ {b : Book} {batch : Batch} {R : List (List ℕ)} {start end : ℕ} {w : List ℕ} where
  pub free→feasible : Free b batch R start end w → Feasible (graph b) (known batch b.sets ++ R) start end w
  free→feasible f =
      let c = f.avoids_lab in
      record {
        walk = c.walk;
        starts = c.starts;
        ends = c.ends;
        clear =
            λ r m.
            ⊎_elim (λ k. f.avoids_sheets r (known→sheet b batch k)) (c.clear r)
            (Memᴰ.append_cases (known batch b.sets) m);
      }

  pub feasible→free : Feasible (graph b) (known batch b.sets ++ R) start end w → Free b batch R start end w
  feasible→free f =
      record {
        avoids_sheets = λ r o. f.clear r (Memᴰ.append_left R (sheet→known b batch o));
        avoids_lab =
            record { walk = f.walk; starts = f.starts; ends = f.ends; clear = Avoids-mono (λ r m. Memᴰ.append_right (known batch b.sets) m) f.clear };
      }

-- ---- answers
-- In a state a report is true where it is true on what the state leaves.
pub true-report : (R : List (List ℕ)) (σ : State) (ρ : Report) → TrueReport R (leaves_of σ) ρ → TrueTo R σ ρ
true-report R σ passed h = h
true-report R σ (failed r) h = h

-- A refused report hands the record back as it came and writes nothing, whatever the record and the areas are.
pub refused-kept : (s : List ℕ) (l : Leaves Record) (ρ : Report) (x : Refusal) (r : Record) → answer_on s l ρ ≡ Err (rejected x r)
    → reporting s l.answer l.paths l.walk ρ ≡ answering (Err (rejected x l.answer)) l.paths l.walk
refused-kept s l ρ x r e = (refusals s x).report-keeps l.answer l.paths l.walk ρ (r, e)

module _ (s : List ℕ) (b : Book) (read : reading s ≡ accepted b) where
  abbrev next : State → Report → State
  next σ ρ = step (graph b) (chosen (graph b)) σ ρ

  abbrev replied : Option Refusal → State → Report → Leaves (Result Record Rejected)
  replied o σ ρ = reported_as o (next σ ρ) σ.rec (path_area σ) σ.area

  -- A report on a state in order is answered by the rules' refusal, or with acceptance.
  pub report-is : (σ : State) → Valid (graph b) σ → (ρ : Report) (o : Option Refusal) → refusal (graph b) σ ρ ≡ o
      → reporting s σ.rec (path_area σ) σ.area ρ ≡ replied o σ ρ
  report-is σ v ρ o e = ap (λ x. reporting_of x σ.rec (path_area σ) σ.area ρ) read ∙ same_step b σ v ρ ∙ ap (λ x. replied x σ ρ) e

  pub answer-is : (σ : State) → Valid (graph b) σ → (ρ : Report) (o : Option Refusal) → refusal (graph b) σ ρ ≡ o
      → answer_on s (leaves_of σ) ρ ≡ (replied o σ ρ).answer
  answer-is σ v ρ o e = ap (λ (m : Leaves (Result Record Rejected)). m.answer) (report-is σ v ρ o e)

  pub only_five : (σ : State) → Valid (graph b) σ → (ρ : Report) → refusal (graph b) σ ρ ≡ refusal_by (oracle_tests (graph b) σ ρ)
      → (x : Refusal) (r : Record) → answer_on s (leaves_of σ) ρ ≡ Err (rejected x r) → Memᴰ (number_of x) (11 ∷ 16 ∷ 17 ∷ 12 ∷ 13 ∷ [])
  only_five σ v ρ only x r e =
      let tests = oracle_tests (graph b) σ ρ in
      let told = report-tells (refusal_by tests) (next σ ρ) σ.rec (path_area σ) σ.area x in
      number-among tests x (told.defined.0 (r, sym (answer-is σ v ρ _ only) ∙ e))

  -- An accepted begin on the book: the trials that it opens.
  module _ (batch : Batch) (start end : ℕ) (paths walk : List ℕ) where
    begun_ok : (σ : State) (r : Record) → (begun_as (begin_refusal batch (graph b) start end paths walk) σ paths walk).answer ≡ Ok r
        → begin_refusal batch (graph b) start end paths walk ≡ none
    begun_ok σ r e = go (begin_refusal batch (graph b) start end paths walk) e
      where
        go : (o : Option Refusal) → (begun_as o σ paths walk).answer ≡ Ok r → o ≡ none
        go none f = refl
        go (some x) f = absurd (let z : ◌≡◌ {A = ℕ} 0 1 = cc in omega arith)

    pub begin_ok : (r : Record) → (beginning s batch start end paths walk).answer ≡ Ok r → begin_refusal batch (graph b) start end paths walk ≡ none
    begin_ok r e = begun_ok (first_state b batch start end paths walk) r (sym (ap (λ x. (beginning_of x batch start end paths walk).answer) read) ∙ e)

    module _ (ok : begin_refusal batch (graph b) start end paths walk ≡ none) where
      abbrev t : Begin
      t = opened s b read batch start end paths walk ok

      -- what stands is in order
      abbrev InOrder : State → Type 0
      InOrder σ = (done : List Report) × Invariant t done σ

      abbrev then : State → Report → State
      then σ ρ = after (graph b) (chosen (graph b)) σ ρ

      -- The reports that are answered with acceptance are those that the rules accept.
      pub accepted_are : (σ : State) → InOrder σ → (ρs : List Report) → accepted_on s (leaves_of σ) ρs ≡ acceptedFrom (graph b) (chosen (graph b)) σ ρs
      unfolding answers_on accepted_by acceptedFrom
      accepted_are σ c [] = refl
      accepted_are σ c (ρ ∷ ρs) =
          ap₂ (λ a m. accepted_by (a ∷ answers_on s m ρs) (ρ ∷ ρs)) (answer-is σ c.1.valid ρ _ refl) (report_leaves s b read σ c.1.valid ρ)
          ∙ go (refusal (graph b) σ ρ) (answers_on s (leaves_of (then σ ρ)) ρs) (acceptedFrom (graph b) (chosen (graph b)) (then σ ρ) ρs) (accepted_are (then σ ρ) (after-keeps t σ ρ c.0 c.1) ρs)
        where
          go : (o : Option Refusal) (answers : List (Result Record Rejected)) (done : List Report) → accepted_by answers ρs ≡ done
              → accepted_by ((replied o σ ρ).answer ∷ answers) (ρ ∷ ρs) ≡ unless o (ρ ∷ done) done
          go none answers done e = ap (λ (l : List Report). ρ ∷ l) e
          go (some x) answers done e = e

      -- A lab that is true by the answers is true by the rules.
      pub true_lab : (R : List (List ℕ)) (σ : State) → InOrder σ → (ρs : List Report) → TrueLab R s (leaves_of σ) ρs
          → EachAccepted (graph b) (chosen (graph b)) (TrueTo R) σ ρs
      unfolding TrueLab EachAccepted
      true_lab R σ c [] h = tt
      true_lab R σ c (ρ ∷ ρs) h = (
        λ e. true-report R σ ρ (h.0 (next σ ρ).rec (answer-is σ c.1.valid ρ none e)),
        true_lab R (then σ ρ) (after-keeps t σ ρ c.0 c.1) ρs (subst (λ l. TrueLab R s l ρs) (report_leaves s b read σ c.1.valid ρ) h.1),
      )
