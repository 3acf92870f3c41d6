-- What stands while a content is taken, item by item.
use Rattle.std.specs.Prelude.{ℕ, suc, ◌≤◌, ◌<◌, ◌≡◌, List, length, take, Option, Some, None, Result, Ok, Err}
use Rattle.book.specs.declared.Loaded.{Loaded}
use Rattle.book.specs.declared.Refusal.{Refusal}
use Rattle.book.specs.Book.{Book, All}
use Rattle.book.specs.Reading.{Reading, refused}
use Rattle.book.specs.Tables.{IsLoaded, LoadedAs}
use Rattle.content.specs.Content.{Item, next_item, to_come, set_items, with_item, with_items}

-- The tables are those of a book that has its count.
pub record Begun (b : Book) (l : Loaded) : Type 0 where
  pub tables : IsLoaded b l
  pub some-vertex : 1 ≤ b.count

-- At index i they are those of a book from which the items that are left come to what all of them come to.
pub record Going (all : Reading) (i : ℕ) (rest : List Item) (l : Loaded) : Type 0 where
  pub so_far : Book
  pub begun : Begun so_far l
  pub comes_to : with_items i rest so_far ≡ all

-- The same where the numbers s are left, and so many paths of the last rule set are still to come: there is that rule set then.
abbrev pub Onward : Reading → ℕ → Loaded → ℕ → List ℕ → Type 0
Onward all i l more s =
    (turns : ℕ) × (suc (length s) ≤ turns) × (g : Going all i (set_items turns more s) l) × (1 ≤ more → 1 ≤ length g.so_far.sets)

-- What taking the item at the front of the numbers s answers and leaves, after the book b, where so many paths are still to come: how many are to come then, and the tables.
abbrev pub ItemTaken : Book → ℕ → ℕ → List ℕ → Result ℕ Refusal → Loaded → Type 0
ItemTaken b i more s (Ok n) l = (n ≡ to_come more s) × LoadedAs (with_item b i (next_item more s)) (Ok l)
ItemTaken b i more s (Err r) l = with_item b i (next_item more s) ≡ refused r

-- The numbers as bytes, or none where one of them is no byte.
abbrev pub BytesOf : List ℕ → Option (List ℕ) → Type 0
BytesOf p (Some bytes) = take (length p) bytes ≡ p
BytesOf p None = All (λ v. v < 256) p → ⊥
