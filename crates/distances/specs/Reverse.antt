-- The graph with tails and heads swapped: its paths are the reversed paths, at the same cost. So the distances from a state are those to it in the swapped graph.
use Rattle.std.specs.Prelude.{ℕ, ◌+◌, ◌≤◌, ◌≡◌, List, [], ◌∷◌, ◌++◌, map}
use Rattle.distances.specs.Edge.{Edge, Path, cost}
use Rattle.distances.specs.Table.{at}

abbrev pub swap : Edge → Edge
swap e = record { tail = e.head; head = e.tail; cost = e.cost }

abbrev pub swapped : List Edge → List Edge
swapped es = map swap es

abbrev pub reversed : List Edge → List Edge
reversed [] = []
reversed (e ∷ p) = reversed p ++ (swap e ∷ [])

-- d is the least, over all paths to q, of the base entry at its start and the path's cost
pub record LeastFrom (es : List Edge) (base : List ℕ) (q d : ℕ) : Type 0 where
  pub attained : (p : List Edge) × (r : ℕ) × Path es r q p × (d ≡ cost p + at base r)
  pub least : (p : List Edge) (r : ℕ) → Path es r q p → d ≤ cost p + at base r
