-- What stands for a reading while a list is read: the verdict, and the table of weights.
use Rattle.std.specs.Prelude.{ℕ, ◌≡◌, List, Result}
use Rattle.book.specs.declared.Refusal.{Refusal}
use Rattle.book.specs.Reading.{Reading, accepted, refused, verdict_of}
use Rattle.book.specs.Tables.{IsGraph}

-- A table is of no account once the list is refused.
abbrev pub Table : ℕ → Reading → List ℕ → Type 0
Table n (accepted b) t = IsGraph b n t
Table n (refused x) t = Unit {0}

pub record Stands (n : ℕ) (x : Reading) (v : Result (Unit {0}) Refusal) (t : List ℕ) : Type 0 where
  pub verdict-is : v ≡ verdict_of x
  pub table : Table n x t
