-- What a function leaves that writes text into a lent slice.
use Rattle.std.specs.Prelude.{ℕ, ◌+◌, ◌≤◌, ◌≡◌, List, length}
use Rattle.std.proofs.lemmas.List.Edits.{sets}

-- The text stands from the place `at` on, r is the place after it, and the other bytes are as before.
pub record StandsAt (text : List ℕ) (at : ℕ) (old : List ℕ) (r : ℕ) (new : List ℕ) : Type 0 where
  pub place : r ≡ at + length text
  pub fits : r ≤ length old
  pub bytes : new ≡ sets old at text
