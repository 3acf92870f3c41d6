-- Binding (01): which rule sets apply to a batch, and the forbidden paths that are known then.
use Rattle.std.specs.Prelude.{ℕ, zero, suc, ◌+◌, ◌/◌, ◌%◌, Bool, true, not, cond, ◌&&◌, leb, get_or}
use mathlib.Core.List.{List, [], ◌∷◌, ◌++◌, foldl}
use Rattle.lists.specs.Test.{any}
use Rattle.walks.specs.Avoid.{same}
use Rattle.dates.specs.Dates.{month_day, in_season}
use Rattle.book.specs.declared.Needs.{Needs}
use Rattle.book.specs.Book.{RuleSet}
use Rattle.book.specs.Reading.{u16_at}
use Rattle.rules.specs.declared.Batch.{Batch}

-- A batch in bytes: at their front its marks in two (high byte first); at byte i day, month, and year in two.
abbrev pub batch_at : List ℕ → ℕ → Batch
batch_at s i = record { flags = u16_at s 0; date = record { day = get_or s i 0; month = get_or s (i + 1) 0; year = u16_at s (i + 2) } }

-- Each of the lowest `bits` flags that is needed is held.
unfoldable pub covers : ℕ → ℕ → ℕ → Bool
covers zero needed held = true
covers (suc bits) needed held = leb (needed % 2) (held % 2) && covers bits (needed / 2) (held / 2)

-- Whether a rule set applies to a batch (01, 02: a sheet binds when every mark that it needs is among the batch's, and the batch's date lies in
-- the sheet's window, if it has one).
abbrev pub meets : Batch → Needs → Bool
meets batch needs = covers 16 needs.flags batch.flags && in_season needs.window (month_day batch.date)

abbrev pub applies : Batch → RuleSet → Bool
applies batch s = meets batch s.needs

-- The paths of the rule sets that apply, in the book's order, repeated ones too.
unfoldable pub applied : Batch → List RuleSet → List (List ℕ)
applied batch [] = []
applied batch (s ∷ ss) = cond (applies batch s) s.paths [] ++ applied batch ss

-- p is one of the paths of F.
abbrev pub member : List ℕ → List (List ℕ) → Bool
member p F = any (same p) F

-- F with p, unless F has it.
abbrev pub add : List (List ℕ) → List ℕ → List (List ℕ)
add F p = cond (member p F) F (F ++ (p ∷ []))

-- The distinct paths of a list, in order of first appearance.
abbrev pub distinct : List (List ℕ) → List (List ℕ)
distinct ps = foldl add [] ps

-- 01: the known runs of a batch.
abbrev pub known : Batch → List RuleSet → List (List ℕ)
known batch ss = distinct (applied batch ss)

-- No path of F is repeated.
unfoldable pub once : List (List ℕ) → Bool
once [] = true
once (p ∷ F) = not (member p F) && once F
