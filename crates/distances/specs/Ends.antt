-- Distances from a state, read at the states that pass a test, the ends: the least of them is the state's distance to an end.
use Rattle.std.specs.Prelude.{ℕ, zero, suc, ◌<◌, ◌≤◌, min, ◌≡◌, Bool, true, cond, List, ◌⊎◌}
use Rattle.distances.specs.Table.{at, inf}

-- 0 at the states below m that pass the test, inf at the others
abbrev pub Marks : (ℕ → Bool) → ℕ → List ℕ → Type 0
Marks f m base = (q : ℕ) → q < m → at base q ≡ cond (f q) 0 inf

-- the least entry of t over the states below m that pass the test, inf where there is none
unfoldable pub least_over : (ℕ → Bool) → List ℕ → ℕ → ℕ
least_over f t zero = inf
least_over f t (suc m) = cond (f m) (min (least_over f t m) (at t m)) (least_over f t m)

pub record LeastOver (f : ℕ → Bool) (t : List ℕ) (m d : ℕ) : Type 0 where
  pub capped : d ≤ inf
  pub least : (q : ℕ) → q < m → f q ≡ true → d ≤ at t q
  pub attained : (d ≡ inf) ⊎ ((q : ℕ) × (q < m) × (f q ≡ true) × (d ≡ at t q))
