-- The laws of what specs/Accepted.antt defines.
use Rattle.std.specs.Prelude.{◌≤◌, ◌≡◌, length}
use mathlib.Core.List.{List, [], ◌∷◌, ◌++◌}
use Rattle.std.proofs.Math.Option.{none}
use Rattle.std.proofs.Common.{arith, length-append}
use borrow.Author.Tests.{eqb-true, eq-eqb, leb-true, le-leb, ltb-true}
use Rattle.std.proofs.lemmas.List.{length-replicate}
use Rattle.lists.specs.Test.{T→true, true→T}
use Rattle.walks.specs.Graph.{Graph}
use Rattle.book.specs.Refusal.{Test, test, refusal_by}
use Rattle.book.specs.RefusalLaws.{Hold}
use Rattle.book.proofs.RefusalLaws.{none→hold, hold→none, first-of_append}
use Rattle.limits.specs.Limits.{area_size, longest}
use Rattle.trial_rules.specs.Trials.{Report, State, path_area, area_tests, begin_tests, oracle_tests, state_tests, refusal, Valid, is_valid, Begin}
use Rattle.trial_rules.proofs.Tests.{is_valid→Valid, Valid→is_valid}
use Rattle.trial_rules.proofs.Named.{said→, →said}
use Rattle.trial_rules.specs.Accepted.{Accepted, Accepts}

pub begin-accepted : (b : Begin) → Accepted b
begin-accepted b =
    let h = none→hold (begin_tests b.batch b.graph b.start b.end b.paths b.area) b.not-refused in
    record { paths-fit = leb-true _ _ h.0; area-fits = leb-true _ _ h.1.0; start = ltb-true _ _ h.1.1.0; end = ltb-true _ _ h.1.1.1.0 }

path-area-fits : (σ : State) → area_size ≤ length (path_area σ)
path-area-fits σ = simp (length-append, length-replicate) (omega arith)

module _ (g : Graph) (σ : State) (ρ : Report) where
  pub accepts : refusal g σ ρ ≡ none → Accepts g σ ρ
  unfolding refusal
  accepts e =
      let h = none→hold (state_tests g σ ρ) e in
      let said = said→ g σ ρ h.1.1.1.1 in
      record {
        area-fits = leb-true _ _ h.1.0;
        valid = is_valid→Valid g σ (true→T _ h.1.1.0);
        stage = eqb-true _ _ h.1.1.1.0;
        named = said.0;
        room = said.1;
      }

  -- the tests of 8 and 9 hold
  in_order : longest ≤ length σ.area → Valid g σ → Hold (area_tests (path_area σ) σ.area ++ (test 9 (is_valid g σ) ∷ []))
  in_order long v = (le-leb _ _ (path-area-fits σ), (le-leb _ _ long, (T→true _ (Valid→is_valid g σ v), tt)))

  pub not-refused : Accepts g σ ρ → refusal g σ ρ ≡ none
  unfolding refusal
  not-refused h =
      let (paths-fit, (area-fits, (valid, _))) = in_order h.area-fits h.valid in
      hold→none (state_tests g σ ρ) (paths-fit, (area-fits, (valid, (eq-eqb _ _ h.stage, →said g σ ρ h.named h.room))))

  -- In a valid state with a line-up area that is long enough, only the oracle's tests are left.
  pub only-oracle : longest ≤ length σ.area → Valid g σ → refusal g σ ρ ≡ refusal_by (oracle_tests g σ ρ)
  unfolding refusal
  only-oracle long v =
      let before : List Test = area_tests (path_area σ) σ.area ++ (test 9 (is_valid g σ) ∷ []) in
      first-of_append before (oracle_tests g σ ρ) (hold→none before (in_order long v))
