-- The longest front part of a list that passes a test. A walk is held reversed, latest vertex first, so a front part is a suffix of the walk.
use Rattle.std.specs.Prelude.{Bool, cond, List, [], ◌≡◌, ℕ, zero, suc, ◌<◌, ◌≤◌, T, take}

-- The longest of take 1 w … take n w that passes P, or [].
abbrev pub longest_front : (List ℕ → Bool) → ℕ → List ℕ → List ℕ
longest_front P zero w = []
longest_front P (suc n) w = cond (P (take (suc n) w)) (take (suc n) w) (longest_front P n w)

-- What `longest_front` finds: the first `size` elements.
pub record Longest (P : List ℕ → Bool) (n : ℕ) (w q : List ℕ) : Type 0 where
  pub size : ℕ
  pub within : size ≤ n
  pub is-take : q ≡ take size w
  pub passes : 0 < size → T (P (take size w))
  pub most : (j : ℕ) → 0 < j → j ≤ n → T (P (take j w)) → j ≤ size
