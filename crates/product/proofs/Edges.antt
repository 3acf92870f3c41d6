-- The edges of a state go from it; and the directed edges, state by state.
use Rattle.std.specs.Prelude.{Bool, true, false, cond, List, [], ◌∷◌, ◌++◌, ◌≡◌, refl, ℕ, zero, suc, ◌+◌}
use Rattle.std.proofs.Common.{⊎_elim, ap, add-one}
use mathlib.Core.List.Memᴰ
use Rattle.std.proofs.lemmas.List.{map-append}
use Rattle.distances.specs.Edge.{Edge, ◌∈◌}
use Rattle.distances.specs.Reverse.{swap, swapped}
use Rattle.product.specs.Product.{is_open, edge_over, edges_from, state_edges}
use Rattle.product.specs.Base.{directed}

pub directed-append : (towards : Bool) (es es' : List Edge) → directed towards (es ++ es') ≡ directed towards es ++ directed towards es'
directed-append true es es' = refl
directed-append false es es' = map-append swap es es'

module _ (weights steps blockeds latests : List ℕ) (q : ℕ) where
  pub edges-tail : (v : ℕ) (e : Edge) → e ∈ edges_from weights steps blockeds latests q v → e.tail ≡ q
  unfolding edges_from
  edges-tail zero e i = absurd (Memᴰ.not-nil i)
  edges-tail (suc v) e i = ⊎_elim (edges-tail v e) (last (is_open weights steps blockeds latests q v)) (Memᴰ.append_cases (edges_from weights steps blockeds latests q v) i)
    where
      last : (b : Bool) → e ∈ cond b (edge_over weights steps blockeds latests q v ∷ []) [] → e.tail ≡ q
      last true i = ap (λ (e : Edge). e.tail) (Memᴰ.eq_of_singleton i)
      last false i = absurd (Memᴰ.not-nil i)

-- Turned round, edges lead where they came from.
pub swapped-head : {q : ℕ} (es : List Edge) → ((e : Edge) → e ∈ es → e.tail ≡ q) → (e : Edge) → e ∈ swapped es → e.head ≡ q
swapped-head [] from e i = absurd (Memᴰ.not-nil i)
swapped-head (x ∷ es) from e (Memᴰ.head h) = rw h (from x (Memᴰ.head refl))
swapped-head (x ∷ es) from e (Memᴰ.tail i) = swapped-head es (λ e j. from e (Memᴰ.tail j)) e i

module _ (weights steps blockeds latests : List ℕ) (towards : Bool) where
  -- One more state.
  pub states-next : (n q : ℕ) → directed towards (state_edges weights steps blockeds latests n (q + 1))
      ≡ directed towards (state_edges weights steps blockeds latests n q) ++ directed towards (edges_from weights steps blockeds latests q n)
  unfolding state_edges
  states-next n q = rw add-one (directed-append towards _ _)

  pub states-none : (n : ℕ) → [] ≡ directed towards (state_edges weights steps blockeds latests n 0)
  unfolding state_edges
  states-none n = none towards
    where
      none : (towards : Bool) → [] ≡ directed towards []
      none true = refl
      none false = refl
