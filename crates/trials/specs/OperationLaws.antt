-- Laws of a report: what an accepted one has passed, and that a report in trials is a step of theirs.
use Rattle.std.specs.Prelude.{ℕ, ◌≤◌, ◌&&◌, List, ◌∷◌, ◌++◌, ◌≡◌, T, length, drop, Result, Err}
use Rattle.std.proofs.Math.Bool.{true}
use Rattle.std.proofs.Math.Option.{none}
use Rattle.std.proofs.Math.Path.{refl, ap}
use Rattle.std.proofs.Common.{sym, ap₂, ◌∙◌, arith, take-append-drop, drop_at}
use borrow.Author.Tests.{leb-true, eq-eqb, eqb-true}
use Rattle.std.proofs.Math.Dec.{eqb}
use Rattle.std.proofs.lemmas.List.{length-map}
use Rattle.lists.specs.Test.{T→true, true→T, and-true}
use Rattle.walks.specs.Graph.{Graph}
use Rattle.book.specs.declared.Refusal.{Refusal}
use Rattle.book.specs.Refusal.{test, refusal_by}
use Rattle.book.proofs.RefusalLaws.{none→hold}
use Rattle.book.specs.Book.{Book, graph}
use Rattle.book.specs.Reading.{accepted}
use Rattle.rules.specs.Area.{written, blocks, spelled, valid}
use Rattle.limits.specs.Limits.{area_size}
use Rattle.rules.proofs.AreaLaws.{length-blocks}
use Rattle.rules.proofs.ValidLaws.{valid→Valid, written-length, written-valid, written-spells}
use Rattle.states.specs.Chosen.{chosen}
use Rattle.trial_record.specs.declared.Record.{Record}
use Rattle.trial_rules.specs.Trials.{Report, State, path_area, area_tests, said_tests, ForbiddenSet, is_forbidden_set, is_record, is_valid, Valid, refusal, step}
use Rattle.trials.specs.declared.Rejected.{Rejected}
use Rattle.trials.specs.Operations.{rejected, reported_as, reporting_of}
use Rattle.judging.specs.Judging.{state_of, report_tests}
use Rattle.trial_rules.proofs.Tests.{forbidden-set, once→Distinct, set-paths, set-once, →is_forbidden_set, Valid→is_valid, is_valid→Valid}
use Rattle.trial_rules.proofs.Named.{said→}
use Rattle.trial_rules.specs.Accepted.{Accepts}

-- ---- the runs area
-- The area of a state in order.
module _ (b : Book) (σ : State) (set : ForbiddenSet b.count σ.forbidden) (known : σ.rec.known ≡ length σ.forbidden) where
  pub area-valid : valid b.count (path_area σ) σ.rec.known ≡ true
  area-valid =
      ap (valid b.count (path_area σ)) known
      ∙ written-valid b.count σ.forbidden set.few (set-paths b.count σ.forbidden set) (set-once b.count σ.forbidden set) σ.beyond

  pub state-is : state_of σ.rec (path_area σ) σ.area ≡ σ
  state-is =
      let paths = set-paths b.count σ.forbidden set in
      let different = set-once b.count σ.forbidden set in
      ap₂ (λ F beyond. record { rec = σ.rec; forbidden = F; beyond = beyond; area = σ.area })
      (ap (λ n. spelled n (path_area σ)) known ∙ written-spells b.count σ.forbidden set.few paths different σ.beyond)
      (drop_at (written σ.forbidden) σ.beyond area_size (written-length b.count σ.forbidden set.few paths different σ.beyond))

-- ---- 9
module _ (g : Graph) (σ : State) where
  valid-parts : ForbiddenSet g.count σ.forbidden → σ.rec.known ≡ length σ.forbidden → is_record g σ ≡ true → T (is_valid g σ)
  unfolding is_valid
  valid-parts set known held =
      let is_set = T→true (is_forbidden_set g.count σ.forbidden) (→is_forbidden_set g.count σ.forbidden set) in
      let counted = eq-eqb σ.rec.known (length σ.forbidden) known in
      let every : is_forbidden_set g.count σ.forbidden && eqb σ.rec.known (length σ.forbidden) && is_record g σ ≡ true = rw (is_set, counted, held) refl in
      true→T _ every

  pub record_part : Valid g σ → is_record g σ ≡ true
  unfolding is_valid
  record_part v =
      (and-true (is_forbidden_set g.count σ.forbidden && eqb σ.rec.known (length σ.forbidden)) (is_record g σ) (T→true _ (Valid→is_valid g σ v))).1

-- ---- an accepted report
-- What it has passed.
pub record TestsPassed (b : Book) (r : Record) (paths walk : List ℕ) (ρ : Report) : Type 0 where
  pub paths-fit : area_size ≤ length paths
  pub accepts : Accepts (graph b) (state_of r paths walk) ρ
  pub area-is : path_area (state_of r paths walk) ≡ paths

module _ (b : Book) (r : Record) (paths walk : List ℕ) where
  pub passed_tests : (ρ : Report) → refusal_by (report_tests r paths walk ρ b) ≡ none → TestsPassed b r paths walk ρ
  passed_tests ρ e =
      let g = graph b in
      let σ = state_of r paths walk in
      let h = none→hold (report_tests r paths walk ρ b) e in
      let v = valid→Valid b.count paths r.known h.1.1.0 in
      let said = said→ g σ ρ h.1.1.1.1.1 in
      let area-is : path_area σ ≡ paths = ap (λ l. l ++ drop area_size paths) (sym v.bytes) ∙ take-append-drop area_size paths in
      let size : length σ.forbidden ≡ r.known = length-map (blocks r.known paths) _ ∙ length-blocks r.known paths in
      let set : ForbiddenSet b.count σ.forbidden =
      forbidden-set b.count σ.forbidden (omega (arith, v.few)) (once→Distinct σ.forbidden (true→T _ v.different)) v.paths in
      record {
        paths-fit = leb-true _ _ h.0;
        accepts =
            record {
              area-fits = leb-true _ _ h.1.0;
              valid = is_valid→Valid g σ (valid-parts g σ set (sym size) h.1.1.1.0);
              stage = eqb-true r.stage 0 h.1.1.1.1.0;
              named = said.0;
              room = said.1;
            };
        area-is = area-is;
      }

-- ---- a report in trials
module _ (b : Book) (σ : State) (v : Valid (graph b) σ) (ρ : Report) where
  same-state : state_of σ.rec (path_area σ) σ.area ≡ σ
  same-state = state-is b σ v.set v.known

  -- A report on what the trials left is refused as the rules say ...
  pub same-refusal : refusal_by (report_tests σ.rec (path_area σ) σ.area ρ b) ≡ refusal (graph b) σ ρ
  unfolding refusal
  same-refusal =
      let g = graph b in
      ap (λ (τ : State). refusal_by (area_tests (path_area σ) σ.area ++ (test 9 (valid b.count (path_area σ) σ.rec.known) ∷ test 9 (is_record g τ) ∷ test 11 (eqb σ.rec.stage 0) ∷ said_tests g τ ρ))) same-state
      ∙ rw (area-valid b σ v.set v.known, record_part g σ v, T→true (is_valid g σ) (Valid→is_valid g σ v)) refl

  -- ... and leaves what the step leaves.
  pub same_step : reporting_of (accepted b) σ.rec (path_area σ) σ.area ρ
      ≡ reported_as (refusal (graph b) σ ρ) (step (graph b) (chosen (graph b)) σ ρ) σ.rec (path_area σ) σ.area
  same_step =
      ap₂ (λ x (τ : State). reported_as x (step (graph b) (chosen (graph b)) τ ρ) σ.rec (path_area σ) σ.area) same-refusal same-state

-- ---- a refused report
-- Its answer tells what it is refused for.
pub rejected-for : (x y : Refusal) (r q : Record) → ◌≡◌ {A = Result Record Rejected} (Err (rejected x r)) (Err (rejected y q)) → x ≡ y
rejected-for x y r q e =
    let same : rejected x r ≡ rejected y q = cc in
    ap (λ (z : Rejected). z.refusal) same
