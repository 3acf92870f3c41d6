-- Where distances start, and the direction in which they are worked out: to an end vertex, or from a start vertex.
use Rattle.std.specs.Prelude.{Bool, true, false, cond, ◌⊎◌, ◌≡◌, eqb, length, get_or}
use mathlib.Core.List.{List, [], ◌∷◌, ◌++◌}
use Rattle.std.proofs.Common.{inl, inr, ◌∙◌, arith}
use Rattle.std.proofs.Math.Logic.{by_cases}
use Rattle.std.proofs.Math.Path.{refl}
use Prim.Native.Nat.{ℕ, zero, suc, ◌<◌}
use Rattle.std.proofs.Math.Decide.{ℕ_discrete, dec_lt}
use Rattle.std.proofs.Math.ListN.{length-append, get_or-append, get_or-eq_default}
use Rattle.std.proofs.lemmas.List.{get_or_at}
use Rattle.product.specs.declared.Goal.{Goal}
use Rattle.product.specs.declared.Goal.TheVariants.{To, From}
use Rattle.distances.specs.Edge.{Edge, Within}
use Rattle.distances.specs.Reverse.{swapped}
use Rattle.distances.proofs.Reverse.{within-swapped}
use Rattle.distances.specs.Table.{at, inf}
use Rattle.distances.specs.Pack.{Targets}

-- Whether the distances are those to a vertex.
abbrev pub is_towards : Goal → Bool
is_towards (To v) = true
is_towards (From v) = false

-- The vertex that they are to, or from.
abbrev pub vertex_of : Goal → ℕ
vertex_of (To v) = v
vertex_of (From v) = v

-- Distances to a vertex are counted to every state that stands at it; distances from a vertex from its own state, which has its number.
abbrev pub place : Bool → List ℕ → ℕ → ℕ
place towards latests q = cond towards (get_or latests q 0) q

abbrev pub base_entry : Bool → List ℕ → ℕ → ℕ → ℕ
base_entry towards latests v q = cond (eqb (place towards latests q) v) 0 inf

-- The entries of the states below m: 0 where the place is v, `inf` elsewhere.
unfoldable pub base : Bool → List ℕ → ℕ → ℕ → List ℕ
base towards latests v zero = []
base towards latests v (suc m) = base towards latests v m ++ (base_entry towards latests v m ∷ [])

-- Those of distances to the vertex t.
abbrev pub targets : List ℕ → ℕ → ℕ → List ℕ
targets latests t m = base true latests t m

-- The edges over which distances are worked out: tails and heads are swapped for those from a vertex.
abbrev pub directed : Bool → List Edge → List Edge
directed towards es = cond towards es (swapped es)

pub within-directed : (towards : Bool) {m : ℕ} {es : List Edge} → Within m es → Within m (directed towards es)
within-directed true w = w
within-directed false w = within-swapped w

module _ (towards : Bool) (latests : List ℕ) (v : ℕ) where
  pub length-base : (m : ℕ) → length (base towards latests v m) ≡ m
  unfolding base
  length-base zero = refl
  length-base (suc m) = rw length-append (omega (arith, length-base m))

  pub at_base : (m q : ℕ) → q < m → at (base towards latests v m) q ≡ base_entry towards latests v q
  unfolding base
  at_base zero q h = absurd (omega arith)
  at_base (suc m) q h = by_cases (ℕ_discrete q m)
      (λ e. rw e (get_or_at (base towards latests v m) (base_entry towards latests v m) [] 0 m (length-base m)))
      (λ d. get_or-append (base towards latests v m) (base_entry towards latests v m ∷ []) 0 q (omega (arith, length-base m)) ∙ at_base m q (omega arith))

  pub base-is : (m : ℕ) → Targets (base towards latests v m)
  base-is m q = by_cases (dec_lt q m) (λ h. rw (at_base m q h) (go (eqb (place towards latests q) v)))
      (λ h. inl (get_or-eq_default (base towards latests v m) 0 (omega (arith, length-base m))))
    where
      go : (b : Bool) → (cond b 0 inf ≡ 0) ⊎ (cond b 0 inf ≡ inf)
      go true = inl refl
      go false = inr refl
