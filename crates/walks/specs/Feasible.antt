-- The test of a feasible walk.
use Rattle.std.specs.Prelude.{Bool, ◌&&◌, List, ℕ, eqb, get_or}
use Rattle.walks.specs.Graph.{Graph}
use Rattle.walks.specs.Walk.{is_walk, hops}
use Rattle.walks.specs.Avoid.{avoids}

unfoldable pub is_feasible : Graph → List (List ℕ) → ℕ → ℕ → List ℕ → Bool
is_feasible g F s t w = is_walk g w && eqb (get_or w 0 0) s && eqb (get_or w (hops w) 0) t && avoids F w
