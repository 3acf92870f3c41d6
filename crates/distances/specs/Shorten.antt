-- Cutting the loops out of a path: what is left has fewer edges than there are states, and is no dearer by any measure.
use Rattle.std.specs.Prelude.{ℕ, ◌≤◌}
use mathlib.Core.List.{List, ◌∷◌, map}
use Rattle.distances.specs.Edge.{Edge, Path, total}
use Rattle.lists.specs.Distinct.{Distinct}

-- the states of a path from q
abbrev pub visits : ℕ → List Edge → List ℕ
visits q p = q ∷ map (λ e. e.head) p

-- p is no dearer than p', whatever each edge costs: by weight, by the number of edges, by both packed into one number
abbrev pub NoDearer : List Edge → List Edge → Type 0
NoDearer p p' = (f : Edge → ℕ) → total f p ≤ total f p'

-- a path from q to r that visits no state twice and is no dearer than p
abbrev pub Simple : List Edge → ℕ → ℕ → List Edge → Type 0
Simple es q r p = (p' : List Edge) × Path es q r p' × Distinct (visits q p') × NoDearer p' p
