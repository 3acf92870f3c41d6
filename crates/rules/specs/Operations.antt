-- What binding answers, and what it leaves in the runs area.
use Rattle.std.specs.Prelude.{ℕ, List, [], ◌∷◌, ◌++◌, leb, length, drop, Result, Ok, Err}
use Rattle.std.proofs.Math.Option.{Option, none, some}
use Rattle.book.specs.declared.Refusal.{Refusal}
use Rattle.book.specs.Refusal.{Test, test}
use Rattle.book.specs.Book.{Book}
use Rattle.book.specs.Reading.{Reading, reading, refusal_of, book_in}
use Rattle.dates.specs.Dates.{is_date}
use Rattle.rules.specs.declared.Batch.{Batch}
use Rattle.rules.specs.Binding.{known}
use Rattle.rules.specs.Area.{written}
use Rattle.limits.specs.Limits.{area_size}

-- Binding: the forbidden set, or the refusal.
pub data Binding : Type 0 where
  bound : List (List ℕ) → Binding
  refused : Refusal → Binding

abbrev pub bound_unless : Option Refusal → List (List ℕ) → Binding
bound_unless none F = bound F
bound_unless (some r) F = refused r

-- 02: 15 for a batch with a date that is none.
abbrev pub date_test : Batch → Test
date_test batch = test 15 (is_date batch.date)

abbrev pub bind_tests : Batch → List ℕ → Book → List Test
bind_tests batch area b = test 8 (leb area_size (length area)) ∷ date_test batch ∷ []

abbrev pub binding_of : Reading → Batch → List ℕ → Binding
binding_of r batch area = bound_unless (refusal_of r (bind_tests batch area)) (known batch (book_in r).sets)

abbrev pub binding : List ℕ → Batch → List ℕ → Binding
binding s batch area = binding_of (reading s) batch area

-- what it answers
abbrev pub bound_as : Binding → Result ℕ Refusal
bound_as (bound F) = Ok (length F)
bound_as (refused r) = Err r

-- the area at exit: the known paths and then the bytes that were there; as it was where it is refused
abbrev pub area_after : Binding → List ℕ → List ℕ
area_after (bound F) area = written F ++ drop area_size area
area_after (refused r) area = area
