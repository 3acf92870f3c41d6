-- A book that has been loaded: what it was loaded from.
use Rattle.std.specs.Prelude.{ℕ, List, ◌≡◌}
use Rattle.book.specs.declared.Loaded.{Loaded}
use Rattle.book.specs.Book.{Book}
use Rattle.book.specs.Reading.{accepted, reading}
use Rattle.book.specs.Tables.{IsLoaded}

-- the book that was loaded
pub record LoadedFrom (s : List ℕ) (l : Loaded) : Type 0 where
  pub book : Book
  pub is : reading s ≡ accepted book
  pub tables : IsLoaded book l
