-- Walks as paths of the automaton: from the state of the start, each vertex over an unblocked step.
use Rattle.std.specs.Prelude.{Bool, true, not, ◌&&◌, ◌≡◌, ℕ, ◌<◌, T}
use mathlib.Core.List.{List, [], ◌∷◌}
use Rattle.walks.specs.Graph.{Graph, is_arc}
use Rattle.states.specs.States.{latest}
use Rattle.states.specs.Automaton.{go, blocked}

-- From state q, no vertex of c is blocked in its turn.
abbrev pub unblocked : List (List ℕ) → List ℕ → List ℕ → Bool
unblocked F q [] = true
unblocked F q (v ∷ c) = not (blocked F q v) && unblocked F (go F q v) c

-- An edge of the product of graph and automaton: from state q over the arc to v, to state `go F q v`.
pub record Step (g : Graph) (F : List (List ℕ)) (q : List ℕ) (v : ℕ) : Type 0 where
  pub arc : T (is_arc g (latest q) v)
  pub below : v < g.count
  pub free : T (not (blocked F q v))

-- c is a path of that product from q to a state that stands at t.
abbrev pub Follows : Graph → List (List ℕ) → ℕ → List ℕ → List ℕ → Type 0
Follows g F t q [] = latest q ≡ t
Follows g F t q (v ∷ c) = Step g F q v × Follows g F t (go F q v) c
