-- The laws of what specs/Walk.antt defines.
use Rattle.std.specs.Prelude.{true, List, [], ◌∷◌, ◌≡◌, refl, ℕ, zero, suc, ◌*◌, ◌<◌, ◌≤◌, T, ltb, length, get_or}
use Rattle.std.proofs.Common.{arith, suc-mul, ltb→lt, lt→ltb}
use Rattle.std.specs.Float.Ieee.Fits.{and_i}
use Rattle.lists.specs.Test.{conj}
use Rattle.walks.specs.Graph.{Graph, is_arc, arc_weight}
use Rattle.walks.specs.Walk.{Walk, is_walk, weight_from, weight_of, hops}

module _ {g : Graph} where
  pub Walk-single : {v : ℕ} → v < g.count → Walk g (v ∷ [])
  Walk-single {v} b = record { nonempty = omega arith; below = below; arcs = λ i l. absurd (omega arith) }
    where
      below : (i : ℕ) → i < 1 → get_or (v ∷ []) i 0 < g.count
      below zero l = b
      below (suc i) l = absurd (omega arith)

  pub Walk-cons : {u v : ℕ} {w : List ℕ} → u < g.count → T (is_arc g u v) → Walk g (v ∷ w) → Walk g (u ∷ v ∷ w)
  Walk-cons {u} {v} {w} b a h = record { nonempty = omega arith; below = below; arcs = arcs }
    where
      below : (i : ℕ) → i < length (u ∷ v ∷ w) → get_or (u ∷ v ∷ w) i 0 < g.count
      below zero l = b
      below (suc i) l = h.below i (omega arith)

      arcs : (i : ℕ) → suc i < length (u ∷ v ∷ w) → T (is_arc g (get_or (u ∷ v ∷ w) i 0) (get_or (v ∷ w) i 0))
      arcs zero l = a
      arcs (suc i) l = h.arcs i (omega arith)

  pub Walk-tail : {u v : ℕ} {w : List ℕ} → Walk g (u ∷ v ∷ w) → Walk g (v ∷ w)
  Walk-tail h = record { nonempty = omega arith; below = λ i l. h.below (suc i) (omega arith); arcs = λ i l. h.arcs (suc i) (omega arith) }

  pub is_walk→Walk : (w : List ℕ) → T (is_walk g w) → Walk g w
  is_walk→Walk [] t = absurd t
  is_walk→Walk (u ∷ c) t = from u c t
    where
      from : (u : ℕ) (c : List ℕ) → T (is_walk g (u ∷ c)) → Walk g (u ∷ c)
      from u [] t = Walk-single (ltb→lt u g.count (search conj))
      from u (v ∷ c) t = Walk-cons (ltb→lt u g.count (search conj)) (search conj) (from v c (search conj))

  pub Walk→is_walk : (w : List ℕ) → Walk g w → T (is_walk g w)
  Walk→is_walk [] h = absurd (omega (arith, h.nonempty))
  Walk→is_walk (u ∷ c) h = from u c h
    where
      from : (u : ℕ) (c : List ℕ) → Walk g (u ∷ c) → T (is_walk g (u ∷ c))
      from u [] h = and_i (ltb u g.count) true (lt→ltb u g.count (h.below 0 (omega arith))) tt
      from u (v ∷ c) h = search (conj, lt→ltb u g.count (h.below 0 (omega arith)), h.arcs 0 (omega arith), from v c (Walk-tail h))

  pub hops-length : (w : List ℕ) → Walk g w → suc (hops w) ≡ length w
  hops-length [] h = absurd (omega (arith, h.nonempty))
  hops-length (v ∷ w) h = refl

-- Where no arc weighs over m, a walk weighs at most m for each hop.
pub weight-bound : (g : Graph) (m : ℕ) → ((u v : ℕ) → arc_weight g u v ≤ m) → (w : List ℕ) → weight_of g w ≤ hops w * m
weight-bound g m l [] = omega arith
weight-bound g m l (u ∷ c) = from u c
  where
    from : (u : ℕ) (c : List ℕ) → weight_from g u c ≤ length c * m
    from u [] = omega arith
    from u (v ∷ c) = omega (arith, suc-mul (length c) m, l u v, from v c)
