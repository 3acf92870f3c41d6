-- Which sheets bind a batch, mark by mark and by the calendar, and what contains none of their runs; and that the definitions of binding decide this.
use Rattle.std.specs.Prelude.{ℕ, ◌/◌, ◌%◌, ◌^◌, ◌<◌, ◌≡◌}
use mathlib.Core.List.{List, Memᴰ}
use Rattle.walks.specs.Avoid.{Occurs}
use Rattle.dates.specs.Dates.{month_day}
use Rattle.dates.specs.Calendar.{InSeason}
use Rattle.book.specs.Book.{RuleSet, Book}
use Rattle.rules.specs.declared.Batch.{Batch}

-- Bit i of a word (01: marks are a 16-bit word; bit 0 summer, bit 1 export, the others the site's own).
abbrev pub bit : ℕ → ℕ → ℕ
bit word i = word / 2 ^ i % 2

-- Every mark of the one word is among the other's.
abbrev pub Among : ℕ → ℕ → Type 0
Among needed held = (i : ℕ) → i < 16 → bit needed i ≡ 1 → bit held i ≡ 1

-- 01, 02: a sheet binds a batch when every mark that it needs is among the batch's, and the batch's date lies in its window, if it has one.
abbrev pub Binds : RuleSet → Batch → Type 0
Binds set batch = Among set.needs.flags batch.flags × InSeason set.needs.window (month_day batch.date)

-- A run of a sheet that binds the batch.
pub record OfSheet (b : Book) (batch : Batch) (r : List ℕ) : Type 0 where
  pub set : RuleSet
  pub listed : Memᴰ set b.sets
  pub binds : Binds set batch
  pub path : Memᴰ r set.paths

-- w contains no run of any sheet that binds the batch.
abbrev pub Clear : Book → Batch → List ℕ → Type 0
Clear b batch w = (r : List ℕ) → OfSheet b batch r → Occurs r w → ⊥
