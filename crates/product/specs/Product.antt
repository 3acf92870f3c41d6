-- The product of graph and automaton as a list of edges over the tables: states are numbers, and an edge costs the weight of its arc and one hop, packed.
use Rattle.std.specs.Prelude.{Bool, not, ◌&&◌, List, [], ◌∷◌, ◌++◌, ◌⊎◌, ◌≡◌, eqb, get_or}
use Rattle.std.proofs.Math.Bool.{true, false, cond}
use mathlib.Core.List.Memᴰ
use Rattle.std.proofs.Common.{inl, inr, arith}
use Rattle.std.proofs.Math.Logic.{⊎_elim, by_cases}
use Rattle.std.proofs.Math.Path.{refl}
use Prim.Native.Nat.{ℕ, zero, suc, ◌+◌, ◌*◌, ◌<◌}
use Rattle.std.proofs.Math.Decide.{ℕ_discrete}
use Rattle.distances.specs.Edge.{Edge, ◌∈◌}
use Rattle.distances.specs.Pack.{pack}
use Rattle.automaton.specs.Built.{bit}
use Rattle.limits.specs.Limits.{no_arc, most_vertices}

-- The tables: the weights of the arcs, the steps, the blocked vertices and the latest vertex of the states.
module _ (weights steps blockeds latests : List ℕ) where
  -- The weight of the arc from the vertex of state q to v, or the mark of none.
  abbrev pub arc_at : ℕ → ℕ → ℕ
  arc_at q v = get_or weights (get_or latests q 0 * most_vertices + v) 0

  -- The state after v.
  abbrev pub step_to : ℕ → ℕ → ℕ
  step_to q v = get_or steps (q * most_vertices + v) 0

  -- There is an arc to v, and v is not blocked.
  abbrev pub is_open : ℕ → ℕ → Bool
  is_open q v = not (eqb (arc_at q v) no_arc) && eqb (bit (get_or blockeds q 0) v) 0

  abbrev pub edge_over : ℕ → ℕ → Edge
  edge_over q v = record { tail = q; head = step_to q v; cost = pack (arc_at q v) 1 }

  -- The edges from state q over the vertices below v, in order.
  unfoldable pub edges_from : ℕ → ℕ → List Edge
  edges_from q zero = []
  edges_from q (suc v) = edges_from q v ++ cond (is_open q v) (edge_over q v ∷ []) []

  -- The edges from the states below m over the vertices below n, in order.
  unfoldable pub state_edges : ℕ → ℕ → List Edge
  state_edges n zero = []
  state_edges n (suc m) = state_edges n m ++ edges_from m n

  -- e is the edge from a state below m over an open vertex below n.
  pub record Over (n m : ℕ) (e : Edge) : Type 0 where
    pub state : ℕ
    pub vertex : ℕ
    pub state-below : state < m
    pub vertex-below : vertex < n
    pub is_open : is_open state vertex ≡ true
    pub edge : e ≡ edge_over state vertex

  edges_from-over : (q v : ℕ) (e : Edge) → e ∈ edges_from q v → Over v (suc q) e
  unfolding edges_from
  edges_from-over q zero e i = absurd (Memᴰ.not-nil i)
  edges_from-over q (suc v) e i = go (edges_from-over q v e) (is_open q v) refl (Memᴰ.append_cases (edges_from q v) i)
    where
      go : (e ∈ edges_from q v → Over v (suc q) e) → (b : Bool) → is_open q v ≡ b → (e ∈ edges_from q v) ⊎ (e ∈ cond b (edge_over q v ∷ []) []) → Over (suc v) (suc q) e
      go rec b o (inl j) =
          let r = rec j in
          record { state = r.state; vertex = r.vertex; state-below = r.state-below; vertex-below = omega (arith, r.vertex-below); is_open = r.is_open; edge = r.edge }
      go rec true o (inr j) = record { state = q; vertex = v; state-below = omega arith; vertex-below = omega arith; is_open = o; edge = Memᴰ.eq_of_singleton j }
      go rec false o (inr j) = absurd (Memᴰ.not-nil j)

  over-edges_from : (q n v : ℕ) → v < n → is_open q v ≡ true → edge_over q v ∈ edges_from q n
  unfolding edges_from
  over-edges_from q zero v h o = absurd (omega arith)
  over-edges_from q (suc n) v h o = by_cases (ℕ_discrete v n) here (λ d. Memᴰ.append_left (cond (is_open q n) (edge_over q n ∷ []) []) (over-edges_from q n v (omega arith) o))
    where
      here : v ≡ n → edge_over q v ∈ edges_from q (suc n)
      here e = rw (← e, o) (Memᴰ.append_right (edges_from q v) (Memᴰ.head refl))

  -- The list has exactly the edges over open vertices.
  pub edges-over : (n m : ℕ) (e : Edge) → e ∈ state_edges n m → Over n m e
  unfolding state_edges
  edges-over n zero e i = absurd (Memᴰ.not-nil i)
  edges-over n (suc m) e i = ⊎_elim (λ j. later (edges-over n m e j)) (edges_from-over m n e) (Memᴰ.append_cases (state_edges n m) i)
    where
      later : Over n m e → Over n (suc m) e
      later r = record { state = r.state; vertex = r.vertex; state-below = omega (arith, r.state-below); vertex-below = r.vertex-below; is_open = r.is_open; edge = r.edge }

  pub over-edges : (n m q v : ℕ) → q < m → v < n → is_open q v ≡ true → edge_over q v ∈ state_edges n m
  unfolding state_edges
  over-edges n zero q v h k o = absurd (omega arith)
  over-edges n (suc m) q v h k o =
      by_cases (ℕ_discrete q m) (λ e. rw e (Memᴰ.append_right (state_edges n m) (over-edges_from m n v k (rw e at o))))
      (λ d. Memᴰ.append_left (edges_from m n) (over-edges n m q v (omega arith) k o))
