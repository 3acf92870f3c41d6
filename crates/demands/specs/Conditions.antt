-- Conditions, each with the number of the refusal where it does not hold: all hold, or the first that does not decides. And tests that decide them.
use Rattle.std.specs.Prelude.{ℕ, ◌≡◌, true, List, [], ◌∷◌, ◌↔◌, ◌⊎◌, unwrap_or}
use Rattle.book.specs.declared.Refusal.{Refusal}
use Rattle.book.specs.Refusal.{Test, number_of, place_of}

-- What is asked, and the refusal's number where it is not so.
pub record Condition : Type 1 where
  pub number : ℕ
  pub holds : Type 0

abbrev pub asks : ℕ → Type 0 → Condition
asks n C = record { number = n; holds = C }

abbrev pub AllHold : List Condition → Type 0
AllHold [] = Unit {0}
AllHold (c ∷ cs) = c.holds × AllHold cs

-- x has 01's number n and carries the place (0 where a refusal has none).
abbrev pub HasNumber : Refusal → ℕ → ℕ → Type 0
HasNumber x n at = (number_of x ≡ n) × (unwrap_or (place_of x) 0 ≡ at)

-- x has the number of the first condition that does not hold.
abbrev pub FirstFails : ℕ → List Condition → Refusal → Type 0
FirstFails at [] x = ⊥
FirstFails at (c ∷ cs) x = ((c.holds → ⊥) × HasNumber x c.number at) ⊎ (c.holds × FirstFails at cs x)

-- ---- tests that decide conditions
-- One after the other: a test has to decide its condition only where those before it hold.
abbrev pub Decides : ℕ → List Test → List Condition → Type 0
Decides at [] [] = Unit {0}
Decides at [] (c ∷ cs) = ⊥
Decides at (t ∷ ts) [] = ⊥
Decides at (t ∷ ts) (c ∷ cs) = ((t.holds ≡ true) ↔ c.holds) × HasNumber t.refusal c.number at × (c.holds → Decides at ts cs)
