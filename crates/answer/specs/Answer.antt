-- What the program `plan` prints for its input (01, 02): marks in two bytes (high byte first), start, end, day, month, year in two bytes, and a book.
use Rattle.std.specs.Prelude.{ℕ, ◌≤◌, ◌≡◌, Bool, true, false, List, [], ◌∷◌, ◌⊎◌, leb, ltb, length, get_or, drop}
use Rattle.std.proofs.Math.Option.{Option, none, some}
use Rattle.walks.specs.Graph.{Graph}
use Rattle.walks.specs.Best.{Best, None}
use Rattle.book.specs.declared.Refusal.{Refusal}
use Rattle.book.specs.Refusal.{Test, test, numbered}
use Rattle.book.specs.Book.{Book, graph}
use Rattle.book.specs.Reading.{Reading, reading, refusal_of, book_in}
use Rattle.rules.specs.declared.Batch.{Batch}
use Rattle.rules.specs.Binding.{batch_at, known}
use Rattle.rules.specs.Operations.{date_test}
use Rattle.text.specs.Text.{longest_text, walk_text, none_text, refusal_text}

-- The best walk of g from s to t that avoids F, or that there is none.
abbrev pub AnsweredUnder : Graph → List (List ℕ) → ℕ → ℕ → List ℕ → Type 0
AnsweredUnder g F s t text = ((w : List ℕ) × Best g F s t w × (text ≡ walk_text g w)) ⊎ (None g F s t × (text ≡ none_text))

-- By what is refused: nothing, and then the plan under the known paths of a book.
abbrev pub AnsweredAs : Option Refusal → Book → Batch → ℕ → ℕ → List ℕ → Type 0
AnsweredAs none b batch s t text = AnsweredUnder (graph b) (known batch b.sets) s t text
AnsweredAs (some x) b batch s t text = text ≡ refusal_text x

-- The areas are the program's own, so that only 7 and 15 are left after the book's refusals.
abbrev pub answer_tests : Batch → ℕ → ℕ → Book → List Test
answer_tests batch s t b = test 7 (ltb s b.count) ∷ test 7 (ltb t b.count) ∷ date_test batch ∷ []

abbrev pub AnsweredOf : Reading → Batch → ℕ → ℕ → List ℕ → Type 0
AnsweredOf x batch s t text = AnsweredAs (refusal_of x (answer_tests batch s t)) (book_in x) batch s t text

-- By whether the input has eight bytes: fewer are refused as a field's head that is cut off.
abbrev pub AnsweredBy : Bool → List ℕ → List ℕ → Type 0
AnsweredBy true s text = AnsweredOf (reading (drop 8 s)) (batch_at s 4) (get_or s 2 0) (get_or s 3 0) text
AnsweredBy false s text = text ≡ refusal_text (numbered 1 0)

abbrev pub Answered : List ℕ → List ℕ → Type 0
Answered s text = AnsweredBy (leb 8 (length s)) s text

-- What is answered is such a text, and no byte more; it is no longer than the buffer for it.
pub record Printed (s out : List ℕ) : Type 0 where
  pub answered : Answered s out
  pub within : length out ≤ longest_text
