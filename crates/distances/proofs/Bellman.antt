-- Bellman's equation: a table of least distances is settled, and each entry is a base entry or that of an edge, the first of a least path.
use Rattle.std.specs.Prelude.{ℕ, ◌+◌, ◌<◌, ◌≤◌, ◌≡◌, refl, List, [], ◌∷◌, ◌⊎◌}
use Rattle.std.proofs.Common.{ap, inl, inr, arith}
use Rattle.distances.specs.Edge.{Edge, ◌∈◌, Path, cost, Within}
use Rattle.distances.specs.Table.{at, Least}
use Rattle.distances.specs.Pass.{FromEdge}

module _ (n : ℕ) (es : List Edge) (within : Within n es) (base t : List ℕ) (l : (q : ℕ) → q < n → Least es base q (at t q)) where
  pub least-edge : (e : Edge) → e ∈ es → at t e.tail ≤ at t e.head + e.cost
  least-edge e m =
      let (below, below') = within e m in
      let (p, r, path, c) = (l e.head below').attained in
      omega (arith, (l e.tail below).least (e ∷ p) r (m, refl, path))

  pub first_edge : (q : ℕ) → q < n → (at t q ≡ at base q) ⊎ FromEdge t es q (at t q)
  first_edge q h = let (p, r, path, c) = (l q h).attained in first p r path c
    where
      first : (p : List Edge) (r : ℕ) → Path es q r p → at t q ≡ cost p + at base r → (at t q ≡ at base q) ⊎ FromEdge t es q (at t q)
      first [] r path c = inl (omega (arith, ap (at base) path))
      first (e ∷ p) r (m, tail, path) c = inr (e, m, tail, omega (arith, (l e.head (within e m).1).least p r path, rw tail at (least-edge e m)))
