-- 01, 'Who can cause a refusal', of each operation: what it asks of what it is handed, in 01's order, with the number of the refusal where that is
-- not so. And that the tests which its contract names decide just this.
use Rattle.std.specs.Prelude.{ℕ, ◌*◌, ◌≤◌, ◌<◌, ◌≡◌, List, [], ◌∷◌, ◌↔◌, ◌⊎◌, length}
use Rattle.std.proofs.Math.Option.{none, some}
use Rattle.limits.specs.Limits.{area_size, longest, longest_path, most_paths}
use Rattle.walks.specs.Graph.{Graph}
use Rattle.walks.specs.Walk.{Walk}
use Rattle.walks.specs.Avoid.{Occurs}
use Rattle.dates.specs.Calendar.{IsDate}
use Rattle.book.specs.declared.Refusal.{Refusal}
use Rattle.book.specs.Refusal.{Test}
use Rattle.book.specs.Book.{Book, graph, All}
use Rattle.book.specs.Reading.{Reading, accepted, refused, refusal_of}
use Rattle.rules.specs.ValidLaws.{Valid}
use Rattle.rules.specs.declared.Batch.{Batch}
use Rattle.rules.specs.Operations.{bind_tests}
use Rattle.walk_check.specs.Checking.{check_tests}
use Rattle.planner.specs.Planning.{plan_tests}
use Rattle.reach.specs.Reaching.{reach_tests}
use Rattle.writing.specs.Writing.{bytes_in_order, write_tests}
use Rattle.trial_record.specs.declared.Record.{Record}
use Rattle.trial_rules.specs.Trials.{Report, passed, failed, State, standing, Valid as ValidState, begin_tests}
use Rattle.judging.specs.Judging.{state_of, report_tests}
use Rattle.demands.specs.Conditions.{Condition, asks, AllHold, FirstFails}

-- ---- the conditions
-- 8: a runs area of 2,304 bytes or more. 15: a batch with a date.
abbrev pub bind_conditions : Batch → List ℕ → Book → List Condition
bind_conditions batch area b = asks 8 (area_size ≤ length area) ∷ asks 15 (IsDate batch.date) ∷ []

-- 9: the area's 2,304 bytes hold, as entries, that many different runs that the book's rules take, at most 256, and no other byte that is not 0.
-- 10: not over 1,600 grades, and a line-up of the book.
abbrev pub check_conditions : List ℕ → ℕ → List ℕ → Book → List Condition
check_conditions area count w b =
    asks 8 (area_size ≤ length area) ∷ asks 9 (Valid b.count area count) ∷ asks 10 ((length w ≤ longest) × Walk (graph b) w) ∷ []

-- 7: start and end below the count.
abbrev pub plan_conditions : List ℕ → ℕ → ℕ → ℕ → List ℕ → Book → List Condition
plan_conditions paths count start end walk b =
    asks 8 (area_size ≤ length paths)
    ∷ asks 8 (longest ≤ length walk)
    ∷ asks 7 (start < b.count)
    ∷ asks 7 (end < b.count)
    ∷ asks 9 (Valid b.count paths count)
    ∷ []

-- 8 of the table: two numbers for each grade.
abbrev pub reach_conditions : List ℕ → ℕ → ℕ → List ℕ → Book → List Condition
reach_conditions paths count start table b =
    asks 8 (area_size ≤ length paths) ∷ asks 8 (2 * b.count ≤ length table) ∷ asks 7 (start < b.count) ∷ asks 9 (Valid b.count paths count) ∷ []

-- 15 'just after 7' (02).
abbrev pub begin_conditions : Batch → ℕ → ℕ → List ℕ → List ℕ → Book → List Condition
begin_conditions batch start end paths walk b =
    asks 8 (area_size ≤ length paths) ∷ asks 8 (longest ≤ length walk) ∷ asks 7 (start < b.count) ∷ asks 7 (end < b.count) ∷ asks 15 (IsDate batch.date) ∷ []

-- 18: an area not 'shorter than the exact bytes needed' (02, order 6).
abbrev pub write_conditions : List ℕ → Book → List Condition
write_conditions area b = asks 18 (length (bytes_in_order b) ≤ length area) ∷ []

-- Of a named run. 16: it has 2 to 8 grades. 17: each is below the count. 12: it stands in the standing line-up. 13: there is room for one more known run.
abbrev pub Sized : Report → Type 0
Sized passed = Unit {0}
Sized (failed p) = (2 ≤ length p) × (length p ≤ longest_path)

abbrev pub NamesGrades : Graph → Report → Type 0
NamesGrades g passed = Unit {0}
NamesGrades g (failed p) = All (λ v. v < g.count) p

abbrev pub Stands : State → Report → Type 0
Stands σ passed = Unit {0}
Stands σ (failed p) = Occurs p (standing σ)

abbrev pub Room : State → Report → Type 0
Room σ passed = Unit {0}
Room σ (failed p) = σ.rec.known < most_paths

-- What is asked of what a report says.
abbrev pub said_conditions : Graph → State → Report → List Condition
said_conditions g σ ρ = asks 16 (Sized ρ) ∷ asks 17 (NamesGrades g ρ) ∷ asks 12 (Stands σ ρ) ∷ asks 13 (Room σ ρ) ∷ []

-- 9, of a record: `ValidState` has its parts. 11: a line-up stands.
abbrev pub report_conditions : Record → List ℕ → List ℕ → Report → Book → List Condition
report_conditions r paths walk ρ b =
    asks 8 (area_size ≤ length paths)
    ∷ asks 8 (longest ≤ length walk)
    ∷ asks 9 (Valid b.count paths r.known)
    ∷ asks 9 (ValidState (graph b) (state_of r paths walk))
    ∷ asks 11 (r.stage ≡ 0)
    ∷ said_conditions (graph b) (state_of r paths walk) ρ

-- ---- the statement
-- There is a book, and all is as asked; or not: the reading is refused under x, or x is for the first condition that does not hold.
abbrev pub Good : Reading → (Book → List Condition) → Type 0
Good r conditions = (b : Book) × (r ≡ accepted b) × AllHold (conditions b)

abbrev pub Cause : Reading → (Book → List Condition) → Refusal → Type 0
Cause r conditions x = (r ≡ refused x) ⊎ ((b : Book) × (r ≡ accepted b) × FirstFails 0 (conditions b) x)

pub record Judges (r : Reading) (tests : Book → List Test) (conditions : Book → List Condition) : Type 0 where
  pub accepts : (refusal_of r tests ≡ none) ↔ Good r conditions
  pub refuses : (x : Refusal) → (refusal_of r tests ≡ some x) ↔ Cause r conditions x

-- Of what was read, from bytes, from a list or from a content.
pub record Conditions (r : Reading) : Type 0 where
  pub bind : (batch : Batch) (area : List ℕ) → Judges r (bind_tests batch area) (bind_conditions batch area)
  pub check : (area : List ℕ) (count : ℕ) (w : List ℕ) → Judges r (check_tests area count w) (check_conditions area count w)
  pub plan : (paths : List ℕ) (count start end : ℕ) (walk : List ℕ) → Judges r (plan_tests paths count start end walk) (plan_conditions paths count start end walk)
  pub reach : (paths : List ℕ) (count start : ℕ) (table : List ℕ) → Judges r (reach_tests paths count start table) (reach_conditions paths count start table)
  pub begin : (batch : Batch) (start end : ℕ) (paths walk : List ℕ) → Judges r (λ b. begin_tests batch (graph b) start end paths walk) (begin_conditions batch start end paths walk)
  pub report : (q : Record) (paths walk : List ℕ) (ρ : Report) → Judges r (report_tests q paths walk ρ) (report_conditions q paths walk ρ)
  pub write : (area : List ℕ) → Judges r (write_tests area) (write_conditions area)
