-- The sums of 02, order 1: the table of ends of book A under marks 3, from the bytes of the book, on every date, and for all lent areas that are long enough.
use Rattle.std.specs.Prelude.{ℕ, ◌*◌, ◌≤◌, ◌≡◌, length, drop, Ok}
use mathlib.Core.List.{List, [], ◌∷◌, ◌++◌}
use Rattle.states.specs.Chosen.{chosen}
use Rattle.dates.specs.declared.Date.{Date}
use Rattle.book.specs.Reading.{reading}
use Rattle.rules.specs.Binding.{known}
use Rattle.rules.specs.Operations.{Binding, binding, area_after}
use Rattle.rules.specs.declared.Batch.{Batch}
use Rattle.limits.specs.Limits.{area_size}
use Rattle.ends.specs.Ends.{no_end, entry_of}
use Rattle.reach.specs.Reaching.{reached, table_after}
use Rattle.examples.specs.Batches.{marks, ForDates}
use Rattle.examples.specs.Books.{bytes_a, book_a}
use Rattle.examples.specs.Sums.{graph_a}

-- The book binds the batch, and under the known runs F the call from `start` fills the table for n vertices with these numbers; those after them are as lent.
abbrev pub Fills : List ℕ → Batch → ℕ → ℕ → List ℕ → Type 0
Fills s batch start n numbers =
    (paths table : List ℕ) → area_size ≤ length paths → 2 * n ≤ length table
    → (F : List (List ℕ)) × (binding s batch paths ≡ Binding.bound F)
    × (reached (reading s) (area_after (binding s batch paths) paths) (length F) start table ≡ Ok n)
    × (table_after (reading s) (area_after (binding s batch paths) paths) (length F) start table ≡ numbers ++ drop (2 * n) table)

-- Start 0: 0 litres and 0 changeovers, 100 and 1, 200 and 2, 450 and 5. Start 3: none, none, none, 0 and 0.
abbrev pub table-0 : List ℕ
table-0 = 0 ∷ 0 ∷ 100 ∷ 1 ∷ 200 ∷ 2 ∷ 450 ∷ 5 ∷ []

abbrev pub table-3 : List ℕ
table-3 = no_end ∷ no_end ∷ no_end ∷ no_end ∷ no_end ∷ no_end ∷ 0 ∷ 0 ∷ []

pub record Sums : Type 0 where
  pub from-0 : ForDates (λ date. Fills bytes_a (marks 3 date) 0 4 table-0)
  pub from-3 : ForDates (λ date. Fills bytes_a (marks 3 date) 3 4 table-3)

-- ---- the entries of book A under marks 3
abbrev pub known-3 : Date → List (List ℕ)
known-3 date = known (marks 3 date) book_a.sets

abbrev pub entry : Date → ℕ → ℕ → List ℕ
entry date s t = entry_of graph_a (chosen graph_a (known-3 date) s t)
