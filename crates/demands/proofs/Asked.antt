-- The laws of what specs/Asked.antt defines.
use Rattle.std.specs.Prelude.{ℕ, ◌*◌, ◌≡◌, refl, true, ◌&&◌, List, ◌++◌, ◌↔◌, leb, length, drop}
use Rattle.std.proofs.Common.{sym, ap, ap₂, subst, ◌∙◌, inl, inr, arith, eq-eqb, take-append-drop}
use Rattle.std.proofs.Math.Option.{none, some, none-ne-some}
use Rattle.std.proofs.lemmas.List.{length-map}
use Rattle.limits.specs.Limits.{area_size, longest, longest_path, most_paths}
use Rattle.lists.specs.Test.{T→true, true→T}
use Rattle.walks.specs.Graph.{Graph}
use Rattle.walks.specs.Walk.{Walk, is_walk}
use Rattle.walks.proofs.Walk.{is_walk→Walk, Walk→is_walk}
use Rattle.walks.proofs.Avoid.{occurs→Occurs, Occurs→occurs}
use Rattle.dates.proofs.CalendarLaws.{date-is}
use Rattle.book.specs.declared.Refusal.{Refusal}
use Rattle.book.specs.Refusal.{Test, order, in_order, refusal_by}
use Rattle.book.specs.Book.{Book, graph}
use Rattle.book.proofs.BookLaws.{vertices-below, below-vertices}
use Rattle.book.specs.Reading.{Reading, accepted, refused, refusal_of}
use Rattle.rules.specs.Area.{written, blocks, spelled, valid}
use Rattle.rules.proofs.AreaLaws.{length-blocks}
use Rattle.rules.specs.ValidLaws.{Valid}
use Rattle.rules.proofs.ValidLaws.{valid→Valid, written-valid}
use Rattle.rules.specs.Operations.{bind_tests}
use Rattle.rules.specs.declared.Batch.{Batch}
use Rattle.walk_check.specs.Checking.{check_tests}
use Rattle.planner.specs.Planning.{plan_tests}
use Rattle.reach.specs.Reaching.{reach_tests}
use Rattle.writing.specs.Writing.{bytes_in_order, write_tests}
use Rattle.trial_record.specs.declared.Record.{Record}
use Rattle.trial_rules.specs.Trials.{Report, passed, failed, State, standing, is_forbidden_set, is_record, is_valid, Valid as ValidState, has_length, has_vertices, is_standing, has_room, said_tests, begin_tests}
use Rattle.trial_rules.proofs.Tests.{once→Distinct, forbidden-set, →is_forbidden_set, is_valid→Valid}
use Rattle.judging.specs.Judging.{state_of, report_tests}
use Rattle.trials.specs.OperationLaws.{record_part}
use Rattle.demands.specs.Conditions.{Condition, AllHold, FirstFails, Decides}
use Rattle.demands.proofs.Conditions.{first-none, first_some, le_iff, lt_iff, eq_iff, and-iff}
use Rattle.demands.specs.Asked.{bind_conditions, check_conditions, plan_conditions, reach_conditions, begin_conditions, write_conditions, Sized, NamesGrades, Stands, Room, said_conditions, report_conditions, Good, Cause, Judges, Conditions}

-- ---- tests that decide conditions
module _ (tests : Book → List Test) (conditions : Book → List Condition) (decides : (b : Book) → Decides 0 (in_order order (tests b)) (conditions b)) where
  judges : (r : Reading) → Judges r tests conditions
  judges r = record { accepts = (good r, λ h. subst (λ q. refusal_of q tests ≡ none) (sym h.1) ((holds h.0).1 h.2)); refuses = λ x. (cause r x, from x) }
    where
      holds : (b : Book) → (refusal_by (tests b) ≡ none) ↔ AllHold (conditions b)
      holds b = first-none 0 (in_order order (tests b)) (conditions b) (decides b)

      fails : (b : Book) (x : Refusal) → (refusal_by (tests b) ≡ some x) ↔ FirstFails 0 (conditions b) x
      fails b x = first_some 0 (in_order order (tests b)) (conditions b) x (decides b)

      good : (q : Reading) → refusal_of q tests ≡ none → Good q conditions
      good (accepted b) e = (b, refl, (holds b).0 e)
      good (refused y) e = absurd (none-ne-some y (sym e))

      cause : (q : Reading) (x : Refusal) → refusal_of q tests ≡ some x → Cause q conditions x
      cause (accepted b) x e = inr (b, refl, (fails b x).0 e)
      cause (refused y) x e = let same : y ≡ x = cc in inl (ap refused same)

      from : (x : Refusal) → Cause r conditions x → refusal_of r tests ≡ some x
      from x (inl e) = ap (λ q. refusal_of q tests) e
      from x (inr (b, e, f)) = subst (λ q. refusal_of q tests ≡ some x) (sym e) ((fails b x).1 f)

-- ---- each test
Valid→valid : (v : ℕ) (area : List ℕ) (count : ℕ) → Valid v area count → valid v area count ≡ true
Valid→valid v area count h =
    let F = spelled count area in
    let size : length F ≡ count = length-map (blocks count area) _ ∙ length-blocks count area in
    let area-is : written F ++ drop area_size area ≡ area = ap (λ l. l ++ drop area_size area) (sym h.bytes) ∙ take-append-drop area_size area in
    sym (ap₂ (valid v) area-is size) ∙ written-valid v F (omega (arith, size, h.few)) h.paths h.different (drop area_size area)

valid-iff : (v : ℕ) (area : List ℕ) (count : ℕ) → (valid v area count ≡ true) ↔ Valid v area count
valid-iff v area count = (valid→Valid v area count, Valid→valid v area count)

walk-iff : (g : Graph) (w : List ℕ) → (is_walk g w ≡ true) ↔ Walk g w
walk-iff g w = (λ e. is_walk→Walk w (true→T _ e), λ h. T→true _ (Walk→is_walk w h))

-- where the runs area is valid, the record's tests decide the rest of 9
record_iff : (b : Book) (r : Record) (paths walk : List ℕ) → Valid b.count paths r.known → (is_record (graph b) (state_of r paths walk) ≡ true) ↔ ValidState (graph b) (state_of r paths walk)
unfolding is_valid
record_iff b r paths walk v = (λ e. is_valid→Valid (graph b) σ (true→T _ (ap₂ ◌&&◌ (ap₂ ◌&&◌ set (eq-eqb _ _ (sym size))) e)), record_part (graph b) σ)
  where
    σ : State
    σ = state_of r paths walk

    size : length σ.forbidden ≡ r.known
    size = length-map (blocks r.known paths) _ ∙ length-blocks r.known paths

    set : is_forbidden_set b.count σ.forbidden ≡ true
    set = T→true _ (→is_forbidden_set b.count σ.forbidden (forbidden-set b.count σ.forbidden (omega (arith, size, v.few)) (once→Distinct _ (true→T _ v.different)) v.paths))

sized-iff : (ρ : Report) → (has_length ρ ≡ true) ↔ Sized ρ
sized-iff passed = (λ _. tt, λ _. refl)
sized-iff (failed p) = and-iff (leb 2 (length p)) (leb (length p) longest_path) (le_iff 2 (length p)) (le_iff (length p) longest_path)

grades-iff : (g : Graph) (ρ : Report) → (has_vertices g ρ ≡ true) ↔ NamesGrades g ρ
grades-iff g passed = (λ _. tt, λ _. refl)
grades-iff g (failed p) = (vertices-below g.count p, below-vertices g.count p)

stands-iff : (σ : State) (ρ : Report) → (is_standing σ ρ ≡ true) ↔ Stands σ ρ
stands-iff σ passed = (λ _. tt, λ _. refl)
stands-iff σ (failed p) = (λ e. occurs→Occurs p (standing σ) (true→T _ e), λ o. T→true _ (Occurs→occurs p (standing σ) o))

room-iff : (σ : State) (ρ : Report) → (has_room σ ρ ≡ true) ↔ Room σ ρ
room-iff σ passed = (λ _. tt, λ _. refl)
room-iff σ (failed p) = lt_iff σ.rec.known most_paths

-- ---- each operation
bind-decides : (batch : Batch) (area : List ℕ) (b : Book) → Decides 0 (bind_tests batch area b) (bind_conditions batch area b)
bind-decides batch area b = (le_iff area_size (length area), (refl, refl), λ _. (date-is batch.date, (refl, refl), λ _. tt))

check-decides : (area : List ℕ) (count : ℕ) (w : List ℕ) (b : Book) → Decides 0 (check_tests area count w b) (check_conditions area count w b)
check-decides area count w b = (
  le_iff area_size (length area),
  (refl, refl),
  λ _. (
    valid-iff b.count area count,
    (refl, refl),
    λ _. (and-iff (leb (length w) longest) (is_walk (graph b) w) (le_iff (length w) longest) (walk-iff (graph b) w), (refl, refl), λ _. tt),
  ),
)

plan-decides : (paths : List ℕ) (count start end : ℕ) (walk : List ℕ) (b : Book) → Decides 0 (plan_tests paths count start end walk b) (plan_conditions paths count start end walk b)
plan-decides paths count start end walk b = (
  le_iff area_size (length paths),
  (refl, refl),
  λ _. (
    le_iff longest (length walk),
    (refl, refl),
    λ _. (lt_iff start b.count, (refl, refl), λ _. (lt_iff end b.count, (refl, refl), λ _. (valid-iff b.count paths count, (refl, refl), λ _. tt))),
  ),
)

reach-decides : (paths : List ℕ) (count start : ℕ) (table : List ℕ) (b : Book) → Decides 0 (reach_tests paths count start table b) (reach_conditions paths count start table b)
reach-decides paths count start table b = (
  le_iff area_size (length paths),
  (refl, refl),
  λ _. (le_iff (2 * b.count) (length table), (refl, refl), λ _. (lt_iff start b.count, (refl, refl), λ _. (valid-iff b.count paths count, (refl, refl), λ _. tt))),
)

begin-decides : (batch : Batch) (start end : ℕ) (paths walk : List ℕ) (b : Book) → Decides 0 (begin_tests batch (graph b) start end paths walk) (begin_conditions batch start end paths walk b)
begin-decides batch start end paths walk b = (
  le_iff area_size (length paths),
  (refl, refl),
  λ _. (
    le_iff longest (length walk),
    (refl, refl),
    λ _. (lt_iff start b.count, (refl, refl), λ _. (lt_iff end b.count, (refl, refl), λ _. (date-is batch.date, (refl, refl), λ _. tt))),
  ),
)

write-decides : (area : List ℕ) (b : Book) → Decides 0 (write_tests area b) (write_conditions area b)
write-decides area b = (le_iff (length (bytes_in_order b)) (length area), (refl, refl), λ _. tt)

pub said-decides : (g : Graph) (σ : State) (ρ : Report) → Decides 0 (said_tests g σ ρ) (said_conditions g σ ρ)
said-decides g σ ρ = (sized-iff ρ, (refl, refl), λ _. (grades-iff g ρ, (refl, refl), λ _. (stands-iff σ ρ, (refl, refl), λ _. (room-iff σ ρ, (refl, refl), λ _. tt))))

report-decides : (r : Record) (paths walk : List ℕ) (ρ : Report) (b : Book) → Decides 0 (report_tests r paths walk ρ b) (report_conditions r paths walk ρ b)
report-decides r paths walk ρ b = (
  le_iff area_size (length paths),
  (refl, refl),
  λ _. (
    le_iff longest (length walk),
    (refl, refl),
    λ _. (
      valid-iff b.count paths r.known,
      (refl, refl),
      λ v. (record_iff b r paths walk v, (refl, refl), λ _. (eq_iff r.stage 0, (refl, refl), λ _. said-decides (graph b) (state_of r paths walk) ρ)),
    ),
  ),
)

pub conditions : (r : Reading) → Conditions r
conditions r =
    record {
      bind = λ batch area. judges (bind_tests batch area) (bind_conditions batch area) (bind-decides batch area) r;
      check = λ area count w. judges (check_tests area count w) (check_conditions area count w) (check-decides area count w) r;
      plan = λ paths count start end walk.
          judges (plan_tests paths count start end walk) (plan_conditions paths count start end walk) (plan-decides paths count start end walk) r;
      reach = λ paths count start table. judges (reach_tests paths count start table) (reach_conditions paths count start table) (reach-decides paths count start table) r;
      begin = λ batch start end paths walk.
          judges (λ b. begin_tests batch (graph b) start end paths walk) (begin_conditions batch start end paths walk) (begin-decides batch start end paths walk) r;
      report = λ q paths walk ρ. judges (report_tests q paths walk ρ) (report_conditions q paths walk ρ) (report-decides q paths walk ρ) r;
      write = λ area. judges (write_tests area) (write_conditions area) (write-decides area) r;
    }
