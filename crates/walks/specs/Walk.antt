-- Walks in a weighted digraph.
use Rattle.std.specs.Prelude.{Bool, true, false, ◌&&◌, List, [], ◌∷◌, ℕ, suc, ◌+◌, ◌<◌, T, ltb, length, get_or}
use Rattle.walks.specs.Graph.{Graph, is_arc, arc_weight}

-- A walk (01: line-up): one or more vertices below the count, each neighbouring pair an arc. Vertices may repeat.
pub record Walk (g : Graph) (w : List ℕ) : Type 0 where
  pub nonempty : 0 < length w
  pub below : (i : ℕ) → i < length w → get_or w i 0 < g.count
  pub arcs : (i : ℕ) → suc i < length w → T (is_arc g (get_or w i 0) (get_or w (suc i) 0))

-- The test of a walk: the first vertex, and then the vertices c that follow u.
abbrev pub is_walk_from : Graph → ℕ → List ℕ → Bool
is_walk_from g u [] = true
is_walk_from g u (v ∷ c) = is_arc g u v && (ltb v g.count && is_walk_from g v c)

abbrev pub is_walk : Graph → List ℕ → Bool
is_walk g [] = false
is_walk g (u ∷ c) = ltb u g.count && is_walk_from g u c

-- The weight of a walk (01: its litres): the sum over its arcs. A missing arc adds 0.
abbrev pub weight_from : Graph → ℕ → List ℕ → ℕ
weight_from g u [] = 0
weight_from g u (v ∷ c) = arc_weight g u v + weight_from g v c

abbrev pub weight_of : Graph → List ℕ → ℕ
weight_of g [] = 0
weight_of g (u ∷ c) = weight_from g u c

-- The number of arcs of a walk (01: changeovers).
abbrev pub hops : List ℕ → ℕ
hops [] = 0
hops (v ∷ w) = length w
