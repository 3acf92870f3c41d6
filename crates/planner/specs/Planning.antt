-- Planning (01): the answer, and every byte of the line-up area after it.
use Rattle.std.specs.Prelude
use Rattle.std.specs.Prelude.{ℕ, ◌≡◌, List, [], ◌∷◌, leb, ltb, length, Result, Ok, Err}
use Rattle.std.proofs.Math.Option.{Option, none, some}
use Rattle.walks.specs.Graph.{Graph}
use Rattle.book.specs.declared.Refusal.{Refusal}
use Rattle.book.specs.Refusal.{Test, test}
use Rattle.book.specs.Book.{Book, graph}
use Rattle.book.specs.Reading.{Reading, reading, refusal_of, book_in}
use Rattle.rules.specs.Area.{spelled, valid}
use Rattle.limits.specs.Limits.{area_size, longest}
use Rattle.routes.specs.declared.Plan.{Plan}
use Rattle.routes.specs.Plan.{Searched}

-- The tests: 8 for either area, 7 for start and end, 9.
abbrev pub plan_tests : List ℕ → ℕ → ℕ → ℕ → List ℕ → Book → List Test
plan_tests paths count start end walk b =
    test 8 (leb area_size (length paths))
    ∷ test 8 (leb longest (length walk))
    ∷ test 7 (ltb start b.count)
    ∷ test 7 (ltb end b.count)
    ∷ test 9 (valid b.count paths count)
    ∷ []

-- What planning answers: the plan, or that there is none; or a refusal.
abbrev pub Answer : Type 0
Answer = Result (Prelude.Option Plan) Refusal

-- A plan of that weight and so many hops; and that there is none.
abbrev pub walked : ℕ → ℕ → Answer
walked weight hops = Ok (Prelude.Some (record { weight = weight; hops = hops }))

abbrev pub nothing : Answer
nothing = Ok Prelude.None

-- What stands after planning: a refusal writes nothing; else the best walk stands in the front of the area, or there is none.
abbrev pub Planned : Option Refusal → Graph → List (List ℕ) → ℕ → ℕ → List ℕ → Answer → List ℕ → Type 0
Planned (some x) g F s t old r new = (r ≡ Err x) × (new ≡ old)
Planned none g F s t old (Ok found) new = Searched g F s t old found new
Planned none g F s t old (Err x) new = ⊥

-- Planning in what was read, under the forbidden set that the runs area and the count spell.
abbrev pub PlanningOf : Reading → List ℕ → ℕ → ℕ → ℕ → List ℕ → Answer → List ℕ → Type 0
PlanningOf x paths count start end old r new =
    Planned (refusal_of x (plan_tests paths count start end old)) (graph (book_in x)) (spelled count paths) start end old r new

abbrev pub Planning : List ℕ → List ℕ → ℕ → ℕ → ℕ → List ℕ → Answer → List ℕ → Type 0
Planning s paths count start end old r new = PlanningOf (reading s) paths count start end old r new
