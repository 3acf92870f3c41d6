-- What the program `board` prints for its input (02, orders 1 and 4): marks in two bytes (high byte first), start, day, month, year in two bytes, and a book.
use Rattle.std.specs.Prelude.{ℕ, zero, suc, ◌≤◌, ◌≡◌, Bool, true, false, List, [], ◌∷◌, ◌++◌, leb, ltb, length, get_or, drop}
use Rattle.std.proofs.Math.Option.{Option, none, some}
use Rattle.walks.specs.Graph.{Graph}
use Rattle.walks.specs.Walk.{weight_of, hops}
use Rattle.states.specs.Chosen.{chosen}
use Rattle.book.specs.declared.Refusal.{Refusal}
use Rattle.book.specs.Refusal.{Test, test, numbered}
use Rattle.book.specs.Book.{Book, graph}
use Rattle.book.specs.Reading.{Reading, reading, refusal_of, book_in}
use Rattle.rules.specs.declared.Batch.{Batch}
use Rattle.rules.specs.Binding.{batch_at, known}
use Rattle.rules.specs.Operations.{date_test}
use Rattle.text.specs.Text.{longest_text, decimal, cost_text, none_text, refusal_text}

-- The best walk to a vertex, or that there is none.
abbrev pub end_text : Graph → Option (List ℕ) → List ℕ
end_text g none = none_text
end_text g (some w) = cost_text (weight_of g w) (hops w)

-- A line: the vertex, a blank, and a text.
abbrev pub line_of : ℕ → List ℕ → List ℕ
line_of v text = decimal v ++ (32 ∷ text)

-- The lines of the vertices below n in rising order, for the best walks of g from s that avoid F.
unfoldable pub lines : Graph → List (List ℕ) → ℕ → ℕ → List ℕ
lines g F s zero = []
lines g F s (suc n) = lines g F s n ++ line_of n (end_text g (chosen g F s n))

-- By what is refused: nothing, and then the lines of all vertices of a book under its known paths.
abbrev pub board_as : Option Refusal → Book → Batch → ℕ → List ℕ
board_as none b batch s = lines (graph b) (known batch b.sets) s b.count
board_as (some x) b batch s = refusal_text x

-- The areas are the program's own, so that only 7 and 15 are left after the book's refusals.
abbrev pub board_tests : Batch → ℕ → Book → List Test
board_tests batch s b = test 7 (ltb s b.count) ∷ date_test batch ∷ []

abbrev pub board_of : Reading → Batch → ℕ → List ℕ
board_of x batch s = board_as (refusal_of x (board_tests batch s)) (book_in x) batch s

-- By whether the input has seven bytes: fewer are refused as a field's head that is cut off.
abbrev pub board_by : Bool → List ℕ → List ℕ
board_by true s = board_of (reading (drop 7 s)) (batch_at s 3) (get_or s 2 0)
board_by false s = refusal_text (numbered 1 0)

abbrev pub board_text : List ℕ → List ℕ
board_text s = board_by (leb 7 (length s)) s

-- What is answered is that text, and no byte more; it is no longer than the buffer for it.
pub record Printed (s out : List ℕ) : Type 0 where
  pub bytes_are : out ≡ board_text s
  pub within : length out ≤ longest_text
