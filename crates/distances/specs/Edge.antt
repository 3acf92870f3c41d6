-- A finite graph as a list of edges with costs, and its paths. A state is a number.
use Rattle.std.specs.Prelude.{ℕ, ◌+◌, ◌<◌, ◌≡◌}
use mathlib.Core.List.{List, [], ◌∷◌, Memᴰ}

pub record Edge : Type 0 where
  pub tail : ℕ
  pub head : ℕ
  pub cost : ℕ

infix 50 ◌∈◌
abbrev pub ◌∈◌ : Edge → List Edge → Type 0
e ∈ es = Memᴰ e es

-- the list p of edges is a path of the graph es from q to r; its number of edges is its length
abbrev pub Path : List Edge → ℕ → ℕ → List Edge → Type 0
Path es q r [] = q ≡ r
Path es q r (e ∷ p) = (e ∈ es) × (e.tail ≡ q) × Path es e.head r p

-- the sum over a path of a measure of its edges
abbrev pub total : (Edge → ℕ) → List Edge → ℕ
total f [] = 0
total f (e ∷ p) = f e + total f p

abbrev pub cost : List Edge → ℕ
cost p = total (λ e. e.cost) p

-- every edge joins states below n
abbrev pub Within : ℕ → List Edge → Type 0
Within n es = (e : Edge) → e ∈ es → (e.tail < n) × (e.head < n)
