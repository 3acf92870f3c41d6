-- What the writing of a book's tables asks: they are those of a book that keeps the rules. And where the paths of its rule sets stand.
use Rattle.std.specs.Prelude.{ℕ, ◌<◌, ◌≡◌, [], length, take, get_or}
use Rattle.book.specs.declared.Loaded.{Loaded}
use Rattle.book.specs.Book.{RuleSet, Book, all_paths}
use Rattle.book.specs.Tables.{IsLoaded, nothing_needed}
use Rattle.book_bytes.specs.Bytes.{Keeps}

pub record Kept (b : Book) (l : Loaded) : Type 0 where
  pub tables : IsLoaded b l
  pub keeps : Keeps b

-- the rule set with index k
abbrev pub set_at : Book → ℕ → RuleSet
set_at b k = get_or b.sets k (record { needs = nothing_needed; paths = [] })

-- the index of its first path: how many paths the rule sets before it have
abbrev pub first_path : Book → ℕ → ℕ
first_path b k = length (all_paths (take k b.sets))

-- The book has a rule set with index k, whose first path has the index `from`.
pub record PathsFrom (b : Book) (l : Loaded) (k from : ℕ) : Type 0 where
  pub kept : Kept b l
  pub listed : k < length b.sets
  pub first : from ≡ first_path b k
