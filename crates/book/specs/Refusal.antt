-- The refusals: the number (01, 02) and value for each, the tests that lead to them, and the order between the tests of an operation.
use Rattle.std.specs.Prelude
use Rattle.std.specs.Prelude.{ℕ, Bool, true, cond, ◌&&◌, List, [], ◌∷◌, ◌++◌, map, eqb, Some, None}
use Rattle.std.proofs.Math.Option.{Option, none, some}
use Rattle.book.specs.declared.Refusal.{Refusal}
use Rattle.book.specs.declared.Refusal.TheVariants.{Truncated, Tag, Length, Value, Repeated, TooMany, Endpoint, Area, Invalid, NotAWalk, Ended, NotStanding, Full, Window, Date, PathLength, NoVertex, NoRoom}

-- the number of each refusal (01, 02)
abbrev pub number_of : Refusal → ℕ
number_of (Truncated at) = 1
number_of (Tag at) = 2
number_of (Length at) = 3
number_of (Value at) = 4
number_of (Repeated at) = 5
number_of (TooMany at) = 6
number_of Endpoint = 7
number_of Area = 8
number_of Invalid = 9
number_of NotAWalk = 10
number_of Ended = 11
number_of NotStanding = 12
number_of Full = 13
number_of (Window at) = 14
number_of Date = 15
number_of PathLength = 16
number_of NoVertex = 17
number_of NoRoom = 18

-- the value that it carries: the byte of a book's field (or the index of a list's item)
abbrev pub place_of : Refusal → Prelude.Option ℕ
place_of (Truncated at) = Some at
place_of (Tag at) = Some at
place_of (Length at) = Some at
place_of (Value at) = Some at
place_of (Repeated at) = Some at
place_of (TooMany at) = Some at
place_of Endpoint = None
place_of Area = None
place_of Invalid = None
place_of NotAWalk = None
place_of Ended = None
place_of NotStanding = None
place_of Full = None
place_of (Window at) = Some at
place_of Date = None
place_of PathLength = None
place_of NoVertex = None
place_of NoRoom = None

-- The book's refusals, at a place; and the others in the order between the tests of an operation (01, 02: 8, 7, 15, 9, 10, 11, 16, 17, 12, 13, 18), after the book's. Every
-- refusal stands in one of the two lists, and its rank is said here alone.
abbrev pub book_refusals : ℕ → List Refusal
book_refusals at = Truncated at ∷ Tag at ∷ Length at ∷ Value at ∷ Window at ∷ Repeated at ∷ TooMany at ∷ []

abbrev pub refusals_in_order : List Refusal
refusals_in_order = Area ∷ Endpoint ∷ Date ∷ Invalid ∷ NotAWalk ∷ Ended ∷ PathLength ∷ NoVertex ∷ NotStanding ∷ Full ∷ NoRoom ∷ []

-- The one with a number, as `number_of` has it: the definitions below and those of the operations name refusals by their numbers alone.
abbrev pub numbered_in : ℕ → List Refusal → Refusal
numbered_in n [] = Truncated 0
numbered_in n (r ∷ rs) = cond (eqb (number_of r) n) r (numbered_in n rs)

abbrev pub numbered : ℕ → ℕ → Refusal
numbered n at = numbered_in n (book_refusals at ++ refusals_in_order)

-- A test, and the refusal of what fails it.
pub record Test : Type 0 where
  pub holds : Bool
  pub refusal : Refusal

-- A test with its number; of a book's field, with the byte too.
abbrev pub test_at : ℕ → ℕ → Bool → Test
test_at at n holds = record { holds = holds; refusal = numbered n at }

abbrev pub test : ℕ → Bool → Test
test = test_at 0

-- The first test that fails decides.
abbrev pub first_failure : List Test → Option Refusal
first_failure [] = none
first_failure (t ∷ ts) = cond t.holds (first_failure ts) (some t.refusal)

-- Whether all hold.
abbrev pub all_hold : List Test → Bool
all_hold [] = true
all_hold (t ∷ ts) = t.holds && all_hold ts

-- That order, as numbers.
abbrev pub order : List ℕ
order = map number_of refusals_in_order

-- The tests of an operation in that order, however it lists them; none is left out.
abbrev pub with_number : ℕ → List Test → List Test
with_number n [] = []
with_number n (t ∷ ts) = cond (eqb (number_of t.refusal) n) (t ∷ with_number n ts) (with_number n ts)

abbrev pub without_number : ℕ → List Test → List Test
without_number n [] = []
without_number n (t ∷ ts) = cond (eqb (number_of t.refusal) n) (without_number n ts) (t ∷ without_number n ts)

abbrev pub in_order : List ℕ → List Test → List Test
in_order [] ts = ts
in_order (n ∷ ns) ts = with_number n ts ++ in_order ns (without_number n ts)

-- What an operation that makes these tests is refused for.
abbrev pub refusal_by : List Test → Option Refusal
refusal_by ts = first_failure (in_order order ts)
