-- What is asked of the tables of a Product and a table of distances d, and what is read off them.
use Rattle.std.specs.Prelude.{Bool, List, ℕ}
use Rattle.walks.specs.Graph.{Graph}
use Rattle.product.specs.declared.Product.{Product}
use Rattle.routes.specs.Route.{usable, next, walk_from}
use Rattle.routes.specs.Guiding.{Node, Guiding}
use Rattle.routes.specs.Plan.{Measured}

module _ (p : Product) (d : List ℕ) where
  -- State q and the states after it have their entries.
  abbrev pub NodeOf : ℕ → Type 0
  NodeOf q = Node p.arcs.vertices p.arcs.weights.now p.steps.now p.blocked.now p.latest.now d q

  -- The distances guide from each state that has hops left.
  abbrev pub GuidingOf : Type 0
  GuidingOf = Guiding p.arcs.vertices p.arcs.weights.now p.steps.now p.blocked.now p.latest.now d

  -- The tables are those of the graph g and the automaton of F, and the distances lead to the vertex v, or from it.
  abbrev pub MeasuredOf : Bool → Graph → List (List ℕ) → ℕ → Type 0
  MeasuredOf towards g F v = Measured towards g F p.arcs.vertices v p.arcs.weights.now p.steps.now p.blocked.now p.latest.now d

  -- The usable vertices at state q as a word, and the lowest of them.
  abbrev pub usable_of : ℕ → ℕ
  usable_of q = usable p.arcs.weights.now p.steps.now p.blocked.now p.latest.now d p.arcs.vertices q

  abbrev pub next_of : ℕ → ℕ
  next_of q = next p.arcs.weights.now p.steps.now p.blocked.now p.latest.now d p.arcs.vertices q

  -- The walk from s.
  abbrev pub walk_of : ℕ → List ℕ
  walk_of s = walk_from p.arcs.weights.now p.steps.now p.blocked.now p.latest.now d p.arcs.vertices s
