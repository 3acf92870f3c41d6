-- A pass goes from the least within k edges to the least within one more, each attained by a path.
use Rattle.std.specs.Prelude.{ℕ, ◌+◌, ◌≡◌, List}
use Rattle.distances.specs.Edge.{Edge, ◌∈◌}
use Rattle.distances.specs.Table.{at}

-- the entry v at q is that of an edge of es from q
abbrev pub FromEdge : List ℕ → List Edge → ℕ → ℕ → Type 0
FromEdge old es q v = (e : Edge) × (e ∈ es) × (e.tail ≡ q) × (v ≡ at old e.head + e.cost)
