-- The tables of a Product, as the definitions take them.
use Rattle.std.specs.Prelude.{Bool, ℕ, List}
use Rattle.distances.specs.Edge.{Edge}
use Rattle.product.specs.declared.Product.{Product}
use Rattle.product.specs.Product.{is_open, edges_from, state_edges}
use Rattle.product.specs.Fits.{Fits}

module _ (p : Product) where
  -- v is open at state q: there is an arc to it, and it is not blocked.
  abbrev pub open_at : ℕ → ℕ → Bool
  open_at = is_open p.arcs.weights.now p.steps.now p.blocked.now p.latest.now

  -- The edges from state q over the vertices below v, and over all of the graph's.
  abbrev pub edges_below : ℕ → ℕ → List Edge
  edges_below = edges_from p.arcs.weights.now p.steps.now p.blocked.now p.latest.now

  abbrev pub edges_of : ℕ → List Edge
  edges_of q = edges_below q p.arcs.vertices

  -- The edges from the states below m.
  abbrev pub state_edges_of : ℕ → List Edge
  state_edges_of m = state_edges p.arcs.weights.now p.steps.now p.blocked.now p.latest.now p.arcs.vertices m

  -- There is a row for each of m states, and steps lead to these.
  abbrev pub FitsOf : ℕ → Type 0
  FitsOf m = Fits p.arcs.vertices m p.arcs.weights.now p.steps.now p.blocked.now p.latest.now
