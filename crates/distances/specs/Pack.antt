-- A weight and a number of edges packed into one number, so that one comparison orders by weight, then by edges.
use Rattle.std.specs.Prelude.{ℕ, ◌+◌, ◌*◌, ◌<◌, ◌≤◌, ◌≡◌, List, ◌⊎◌, length}
use Rattle.limits.specs.Limits.{heaviest}
use Rattle.distances.specs.Edge.{Edge, ◌∈◌, Path, total, Within}
use Rattle.distances.specs.Table.{at, inf}

-- a packed path has fewer edges
abbrev pub hops_limit : ℕ
hops_limit = 2048

abbrev pub pack : ℕ → ℕ → ℕ
pack weight hops = weight * hops_limit + hops

-- less weight, or the same with no more edges
abbrev pub NoWorse : ℕ → ℕ → ℕ → ℕ → Type 0
NoWorse w h w' h' = (w < w') ⊎ ((w ≡ w') × (h ≤ h'))

-- a path with an edge fewer than states can be packed; every edge weighs at most 1,000,000, and costs its weight and one edge, packed
pub record Weighted (n : ℕ) (es : List Edge) (weight : Edge → ℕ) : Type 0 where
  pub few : n ≤ hops_limit
  pub within : Within n es
  pub light : (e : Edge) → e ∈ es → weight e ≤ heaviest
  pub packed : (e : Edge) → e ∈ es → e.cost ≡ pack (weight e) 1

-- 0 at a target, inf elsewhere
abbrev pub Targets : List ℕ → Type 0
Targets base = (r : ℕ) → (at base r ≡ 0) ⊎ (at base r ≡ inf)

-- p is a path with at most k edges from q to a target r, and no such path from q to a target betters it by weight, then by edges
pub record BestWithin (k : ℕ) (es : List Edge) (weight : Edge → ℕ) (base : List ℕ) (q r : ℕ) (p : List Edge) : Type 0 where
  pub path : Path es q r p
  pub short : length p ≤ k
  pub target : at base r ≡ 0
  pub best : (p' : List Edge) (r' : ℕ) → Path es q r' p' → length p' ≤ k → at base r' ≡ 0 →
      NoWorse (total weight p) (length p) (total weight p') (length p')

-- the same among all paths from q to a target, of any length
pub record Best (es : List Edge) (weight : Edge → ℕ) (base : List ℕ) (q r : ℕ) (p : List Edge) : Type 0 where
  pub path : Path es q r p
  pub target : at base r ≡ 0
  pub best : (p' : List Edge) (r' : ℕ) → Path es q r' p' → at base r' ≡ 0 → NoWorse (total weight p) (length p) (total weight p') (length p')

-- d answers q: it is the weight and the number of edges of a best path, below inf and with edges below the limit, so that both can be read off it; or inf where no path
-- leads to a target
abbrev pub Answered : List Edge → (Edge → ℕ) → List ℕ → ℕ → ℕ → Type 0
Answered es weight base q d =
    ((r : ℕ) × (p : List Edge) × Best es weight base q r p × (d ≡ pack (total weight p) (length p)) × (length p < hops_limit) × (d < inf)) ⊎
    ((d ≡ inf) × ((r : ℕ) (p : List Edge) → Path es q r p → at base r ≡ 0 → ⊥))
