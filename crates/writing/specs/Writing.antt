-- The writing of a book (02, order 6): its answer, and every byte of the area after it.
use Rattle.std.specs.Prelude.{ℕ, ◌≡◌, List, [], ◌∷◌, ◌++◌, leb, length, drop, Result, Ok, Err}
use Rattle.std.proofs.Math.Option.{Option, none, some}
use Rattle.book.specs.declared.Refusal.{Refusal}
use Rattle.book.specs.Refusal.{Test, test}
use Rattle.book.specs.Book.{Book}
use Rattle.book.specs.Reading.{Reading, refusal_of, book_in}
use Rattle.book_bytes.specs.Bytes.{bytes_of}
use Rattle.writing.specs.Rising.{in_order}

-- The bytes that are written: the book's, with its arcs in rising order.
abbrev pub bytes_in_order : Book → List ℕ
bytes_in_order b = bytes_of (in_order b)

-- 18: the area has room for them.
abbrev pub write_tests : List ℕ → Book → List Test
write_tests area b = test 18 (leb (length (bytes_in_order b)) (length area)) ∷ []

-- By what is refused: nothing, and then the bytes are written, and what stood behind them stays; else nothing is written.
abbrev pub answer_by : Option Refusal → Book → Result ℕ Refusal
answer_by none b = Ok (length (bytes_in_order b))
answer_by (some x) b = Err x

abbrev pub area_by : Option Refusal → Book → List ℕ → List ℕ
area_by none b area = bytes_in_order b ++ drop (length (bytes_in_order b)) area
area_by (some x) b area = area

-- The answer and the area, for a content that comes to a book or is refused.
abbrev pub length_written : Reading → List ℕ → Result ℕ Refusal
length_written x area = answer_by (refusal_of x (write_tests area)) (book_in x)

abbrev pub area_after : Reading → List ℕ → List ℕ
area_after x area = area_by (refusal_of x (write_tests area)) (book_in x) area

abbrev pub WritingOf : Reading → List ℕ → Result ℕ Refusal → List ℕ → Type 0
WritingOf x old r new = (r ≡ length_written x old) × (new ≡ area_after x old)
