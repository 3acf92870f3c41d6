-- The table of ends as it is read off distances from the start: the entry of a vertex is the least over all states that stand at it.
use Rattle.std.specs.Prelude.{cond, List, [], ◌∷◌, ◌++◌, ◌≡◌, ℕ, zero, suc, ◌/◌, ◌%◌, ◌<◌, ◌≤◌, eqb, ltb, length, get_or}
use Rattle.limits.specs.Limits.{most_vertices}
use Rattle.distances.specs.Table.{at, inf}
use Rattle.distances.specs.Ends.{least_over}
use Rattle.distances.specs.Pack.{hops_limit}
use Rattle.ends.specs.Ends.{no_end}

-- The least entry of d over the states below m that stand at v, `inf` where there is none.
abbrev pub least_at : List ℕ → List ℕ → ℕ → ℕ → ℕ
least_at latests d m v = least_over (λ q. eqb (get_or latests q 0) v) d m

-- `least` has these for all vertices.
pub record Gathered (latests d : List ℕ) (m : ℕ) (least : List ℕ) : Type 0 where
  pub entry : (v : ℕ) → v < most_vertices → at least v ≡ least_at latests d m v

-- The two numbers of a distance: weight and hops unpacked, none at `inf`.
abbrev pub told : ℕ → List ℕ
told x = cond (ltb x inf) (x / hops_limit) no_end ∷ cond (ltb x inf) (x % hops_limit) no_end ∷ []

-- The numbers of the vertices below n, where the distance to v is f v.
unfoldable pub numbers : (ℕ → ℕ) → ℕ → List ℕ
numbers f zero = []
numbers f (suc n) = numbers f n ++ told (f n)

abbrev pub entries : List ℕ → List ℕ → ℕ → ℕ → List ℕ
entries latests d m n = numbers (least_at latests d m) n

-- What the code asks: each state of the table of distances d stands at a vertex.
pub record Standing (n : ℕ) (latests d : List ℕ) : Type 0 where
  pub few : n ≤ most_vertices
  pub room : length d ≤ length latests
  pub stands : (q : ℕ) → q < length d → get_or latests q 0 < most_vertices
