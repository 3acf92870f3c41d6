-- The reading of a count and a list of arcs (01: the changeovers as a list of from, to and litres, with the count of grades) as a book
-- without rule sets. A refusal carries the item's index, from 0.
use Rattle.std.specs.Prelude.{ℕ, suc, List, [], ◌∷◌}
use Rattle.book.specs.Book.{Book, blank}
use Rattle.book.specs.declared.Arc.{Arc as Item}
use Rattle.book.specs.Reading.{Reading, accepted, and_then, with_count, with_arc}
-- the arc of an item
pub use Rattle.book.specs.Reading.{arc_of}

-- the count of vertices; this comes before any item
abbrev pub counted : ℕ → Reading
counted n = with_count blank 0 n

-- the items from index i on, after a book; the first bad one decides
unfoldable pub items : ℕ → List Item → Book → Reading
items i [] b = accepted b
items i (x ∷ xs) b = and_then (with_arc b i (arc_of x)) (items (suc i) xs)

abbrev pub listing : ℕ → List Item → Reading
listing n xs = and_then (counted n) (items 0 xs)
