-- The inputs of the test programs check_lineup and replay (01, 02): their parts, and what a check is answered. Numbers stand high byte first.
use Rattle.std.specs.Prelude.{ℕ, ◌+◌, ◌≤◌, ◌≡◌, Bool, true, false, List, leb, length, get_or, take, drop, Option, Result, Ok, Err}
use Rattle.book.specs.declared.Refusal.{Refusal}
use Rattle.book.specs.Refusal.{numbered}
use Rattle.book.specs.Reading.{u16_at, u32_at}
use Rattle.limits.specs.Limits.{area_size}
use Rattle.rules.specs.declared.Batch.{Batch}
use Rattle.rules.specs.AreaLaws.{zeros}
use Rattle.rules.specs.Binding.{batch_at}
use Rattle.rules.specs.Operations.{Binding, binding, bound_as, area_after}
use Rattle.walk_check.specs.declared.Occurrence.{Occurrence}
use Rattle.walk_check.specs.Checking.{checking}

-- ---- check_lineup: marks in two bytes, day, month, year in two, the line-up's length in two, the line-up, and the book
-- By what binding answers: its refusal, or the check of the line-up w against the area that it leaves.
abbrev pub check_after : Result ℕ Refusal → List ℕ → List ℕ → List ℕ → Result (Option Occurrence) Refusal
check_after (Ok count) s area w = checking s area count w
check_after (Err r) s area w = Err r

-- Binding is into an area of zeros.
abbrev pub check_bound : Binding → List ℕ → List ℕ → Result (Option Occurrence) Refusal
check_bound x s w = check_after (bound_as x) s (area_after x (zeros area_size)) w

-- By whether the input has as many bytes as its length says: fewer are refused as a field's head that is cut off.
abbrev pub check_by : Bool → ℕ → List ℕ → Result (Option Occurrence) Refusal
check_by true n s = check_bound (binding (drop (8 + n) s) (batch_at s 2) (zeros area_size)) (drop (8 + n) s) (take n (drop 8 s))
check_by false n s = Err (numbered 1 0)

abbrev pub check_input : List ℕ → Result (Option Occurrence) Refusal
check_input s = check_by (leb (8 + u16_at s 6) (length s)) (u16_at s 6) s

-- ---- replay: marks in two bytes, start, end, day, month, year in two, the book's length in four, the book, and the reports
-- How many bytes there are before the reports.
abbrev pub reports_from : List ℕ → ℕ
reports_from s = 12 + u32_at s 8

-- The parts of an input that is that long.
pub record IsCase (s : List ℕ) (batch : Batch) (start end : ℕ) (bytes reports : List ℕ) : Type 0 where
  pub long : reports_from s ≤ length s
  pub batch_is : batch ≡ batch_at s 4
  pub start_is : start ≡ get_or s 2 0
  pub end_is : end ≡ get_or s 3 0
  pub bytes_are : bytes ≡ take (u32_at s 8) (drop 12 s)
  pub reports_are : reports ≡ drop (reports_from s) s
