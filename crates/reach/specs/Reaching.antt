-- The operation of 02, order 1: its answer, and every number of the table after it.
use Rattle.std.specs.Prelude.{ℕ, ◌*◌, ◌≡◌, List, [], ◌∷◌, ◌++◌, leb, ltb, length, drop, Result, Ok, Err}
use Rattle.std.proofs.Math.Option.{Option, none, some}
use Rattle.walks.specs.Graph.{Graph}
use Rattle.book.specs.declared.Refusal.{Refusal}
use Rattle.book.specs.Refusal.{Test, test}
use Rattle.book.specs.Book.{Book, graph}
use Rattle.book.specs.Reading.{Reading, refusal_of, book_in}
use Rattle.rules.specs.Area.{spelled, valid}
use Rattle.limits.specs.Limits.{area_size}
use Rattle.ends.specs.Ends.{ends}

-- The tests: 8 for the runs area and for the table, which has two numbers for each vertex; 7 for the start; 9.
abbrev pub reach_tests : List ℕ → ℕ → ℕ → List ℕ → Book → List Test
reach_tests paths count start table b =
    test 8 (leb area_size (length paths))
    ∷ test 8 (leb (2 * b.count) (length table))
    ∷ test 7 (ltb start b.count)
    ∷ test 9 (valid b.count paths count)
    ∷ []

-- By what is refused: nothing, and then the table is filled for the vertices of the graph; else nothing is written.
abbrev pub answer_by : Option Refusal → Graph → Result ℕ Refusal
answer_by none g = Ok g.count
answer_by (some x) g = Err x

abbrev pub table_by : Option Refusal → Graph → List (List ℕ) → ℕ → List ℕ → List ℕ
table_by none g F s old = ends g F s g.count ++ drop (2 * g.count) old
table_by (some x) g F s old = old

-- The answer, and the table, for what was read, under the forbidden set that the runs area and the count spell.
abbrev pub reached : Reading → List ℕ → ℕ → ℕ → List ℕ → Result ℕ Refusal
reached x paths count start old = answer_by (refusal_of x (reach_tests paths count start old)) (graph (book_in x))

abbrev pub table_after : Reading → List ℕ → ℕ → ℕ → List ℕ → List ℕ
table_after x paths count start old = table_by (refusal_of x (reach_tests paths count start old)) (graph (book_in x)) (spelled count paths) start old

abbrev pub Reaching : Reading → List ℕ → ℕ → ℕ → List ℕ → Result ℕ Refusal → List ℕ → Type 0
Reaching x paths count start old r new = (r ≡ reached x paths count start old) × (new ≡ table_after x paths count start old)
