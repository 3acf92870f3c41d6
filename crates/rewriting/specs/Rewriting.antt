-- What the program `rewrite` writes for the bytes of a book: the book that its content gives, or the line of its refusal (02, order 6).
use Rattle.std.specs.Prelude.{ℕ, List}
use Rattle.book.specs.Reading.{Reading, accepted, refused, reading}
use Rattle.text.specs.Text.{refusal_text}
use Rattle.writing.specs.Writing.{bytes_in_order}

abbrev pub rewritten_as : Reading → List ℕ
rewritten_as (accepted b) = bytes_in_order b
rewritten_as (refused x) = refusal_text x

abbrev pub rewritten : List ℕ → List ℕ
rewritten s = rewritten_as (reading s)
