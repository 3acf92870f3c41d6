-- What stands for a reading, from the count on, item by item, to the whole list.
use Rattle.std.specs.Prelude.{ℕ, ◌≡◌, List, [], drop}
use Rattle.book.specs.Book.{Book}
use Rattle.book.specs.Tables.{IsGraph}
use Rattle.book.specs.declared.Arc.{Arc as Item}
use Rattle.listed.specs.Listing.{items, listing}

-- ---- the count
abbrev pub empty : ℕ → Book
empty n = record { count = n; arcs = []; sets = [] }

-- At index i the book of the items before it stands, and with the items from i on it is the reading of the list.
pub record Going (n : ℕ) (xs : List Item) (i : ℕ) (t : List ℕ) : Type 0 where
  pub so_far : Book
  pub table : IsGraph so_far n t
  pub rest-is : items i (drop i xs) so_far ≡ listing n xs
