-- The best walk from a settled table of distances: at each state the lowest usable vertex.
use Rattle.std.specs.Prelude.{List, [], ◌∷◌, ◌≡◌, ℕ, ◌<◌}
use Rattle.std.proofs.Math.Option.{Option, some}
use Rattle.walks.specs.Graph.{Graph, arc_weight}
use Rattle.states.specs.States.{latest}
use Rattle.states.specs.Automaton.{go}
use Rattle.states.specs.Follow.{Step}
use Rattle.states.specs.Cost.{Cost, ◌≤ᶜ◌, via}

-- D is a settled table of distances to t over the states Q: 0 at t, and no step makes any of them less.
pub record Settled (g : Graph) (F : List (List ℕ)) (t : ℕ) (Q : List ℕ → Type 0) (D : List ℕ → Option Cost) : Type 0 where
  pub closed : (q : List ℕ) (v : ℕ) → Q q → Step g F q v → Q (go F q v)
  pub target : (q : List ℕ) → Q q → latest q ≡ t → D q ≡ some (record { weight = 0; hops = 0 })
  pub relaxed : (q : List ℕ) (v : ℕ) → Q q → Step g F q v → (y : Cost) → D (go F q v) ≡ some y → (x : Cost) × (D q ≡ some x) × (x ≤ᶜ via (arc_weight g (latest q) v) y)

-- A step that loses nothing: the distance falls by the arc and by one hop.
pub record Usable (g : Graph) (F : List (List ℕ)) (D : List ℕ → Option Cost) (q : List ℕ) (v : ℕ) : Type 0 where
  pub step : Step g F q v
  pub rest : Cost
  pub after : D (go F q v) ≡ some rest
  pub here : D q ≡ some (via (arc_weight g (latest q) v) rest)

-- c takes the lowest usable vertex at each state, until it stands at t.
abbrev pub Greedy : Graph → List (List ℕ) → ℕ → (List ℕ → Option Cost) → List ℕ → List ℕ → Type 0
Greedy g F t D q [] = latest q ≡ t
Greedy g F t D q (v ∷ c) = Usable g F D q v × ((u : ℕ) → u < v → Usable g F D q u → ⊥) × Greedy g F t D (go F q v) c
