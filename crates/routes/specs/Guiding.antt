-- What the code asks of a table of distances: that the one which the passes end in meets it.
use Rattle.std.specs.Prelude.{List, ℕ, ◌%◌, ◌<◌, ◌≤◌, length}
use Rattle.distances.specs.Table.{at, inf}
use Rattle.distances.specs.Pack.{hops_limit}
use Rattle.product.specs.Product.{step_to}
use Rattle.routes.specs.Route.{Guided}
use Rattle.product.specs.Fits.{Row, Fits}

-- State q with its entry of a table of distances d: the states after it have theirs, and none is above `inf`.
pub record Node (n : ℕ) (weights steps blockeds latests d : List ℕ) (q : ℕ) : Type 0 where
  pub row : Row n weights steps blockeds latests q
  pub entry-below : q < length d
  pub next-below : (v : ℕ) → v < n → step_to weights steps blockeds latests q v < length d
  pub capped : (r : ℕ) → at d r ≤ inf

-- The table of distances d guides from each state that has hops left.
pub record Guiding (n : ℕ) (weights steps blockeds latests d : List ℕ) : Type 0 where
  pub fits : Fits n (length d) weights steps blockeds latests
  pub capped : (q : ℕ) → at d q ≤ inf
  pub guides : (q : ℕ) → q < length d → at d q < inf → 0 < at d q % hops_limit → Guided weights steps blockeds latests d n (length d) q
