-- The route of least cost over the tables: from each state over the lowest vertex that loses nothing. It is the best walk.
use Rattle.std.specs.Prelude.{Bool, ◌&&◌, List, [], ◌∷◌, ◌≡◌, eqb, length}
use Rattle.std.proofs.Math.Path.{refl, ap}
use Prim.Native.Nat.{ℕ, zero, suc, ◌+◌, ◌%◌, ◌<◌}
use Rattle.std.specs.Int.Count.{count_trailing_zeros}
use Rattle.distances.specs.Table.{at}
use Rattle.distances.specs.Pack.{pack, hops_limit}
use Rattle.product.specs.Word.{word}
use Rattle.product.specs.Product.{arc_at, step_to, is_open}

module _ (weights steps blockeds latests d : List ℕ) where
  -- v is usable at state q: the entry falls by the arc to v and one hop.
  abbrev pub is_usable : ℕ → ℕ → Bool
  is_usable q v = is_open weights steps blockeds latests q v && eqb (at d (step_to weights steps blockeds latests q v) + pack (arc_at weights steps blockeds latests q v) 1) (at d q)

  -- The usable vertices below n at state q as a word, and the lowest of them.
  abbrev pub usable : ℕ → ℕ → ℕ
  usable n q = word (is_usable q) n

  abbrev pub next : ℕ → ℕ → ℕ
  next n q = count_trailing_zeros 64 (usable n q)

  -- The vertices of k hops from state q.
  unfoldable pub route : ℕ → ℕ → ℕ → List ℕ
  route n zero q = []
  route n (suc k) q = next n q ∷ route n k (step_to weights steps blockeds latests q (next n q))

  pub length-route : (n k q : ℕ) → length (route n k q) ≡ k
  unfolding route
  length-route n zero q = refl
  length-route n (suc k) q = ap suc (length-route n k (step_to weights steps blockeds latests q (next n q)))

  -- The walk from s with as many hops as its entry says.
  abbrev pub walk_from : ℕ → ℕ → List ℕ
  walk_from n s = s ∷ route n (at d s % hops_limit) s

  -- Where hops are left, the next vertex leads to a state whose entry is less by an arc and one hop.
  pub record Guided (n m q : ℕ) : Type 0 where
    pub vertex-below : next n q < n
    pub state-below : step_to weights steps blockeds latests q (next n q) < m
    pub falls : at d q ≡ at d (step_to weights steps blockeds latests q (next n q)) + pack (arc_at weights steps blockeds latests q (next n q)) 1
