-- Sets of vertices as words: bit v is set exactly if v is in the set. The trailing zeros of a word give the lowest vertex of its set.
use Rattle.std.specs.Prelude.{Bool, true, false, cond, ◌≡◌, ℕ, zero, suc, ◌+◌, ◌^◌, ◌<◌}

-- The word of the vertices below n that pass p.
unfoldable pub word : (ℕ → Bool) → ℕ → ℕ
word p zero = 0
word p (suc n) = cond (p n) (word p n + 2 ^ n) (word p n)

-- v is the lowest number that passes p.
pub record Lowest (p : ℕ → Bool) (v : ℕ) : Type 0 where
  pub passes : p v ≡ true
  pub none_below : (u : ℕ) → u < v → p u ≡ false

abbrev pub digit : Bool → ℕ
digit b = cond b 1 0
