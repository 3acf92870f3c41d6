-- The laws of what specs/Follow.antt defines.
use Rattle.std.specs.Prelude.{◌↔◌, ◌≡◌, ℕ, ◌<◌, T, length, get_or}
use mathlib.Core.List.{List, [], ◌∷◌, reverse, reverse_aux, reverse_aux-eq}
use Rattle.std.proofs.Math.Path.{refl}
use Rattle.std.proofs.Common.{sym, ◌∙◌, arith}
use Rattle.lists.specs.Test.{conj}
use Rattle.walks.specs.Graph.{Graph}
use Rattle.walks.specs.Walk.{Walk}
use Rattle.walks.proofs.Walk.{Walk-single, Walk-cons, Walk-tail}
use Rattle.walks.specs.Avoid.{Avoids}
use Rattle.walks.proofs.Avoid.{Avoids-front}
use Rattle.walks.specs.Order.{◌≼⟨◌⟩◌}
use Rattle.walks.specs.Best.{Feasible, Best, None}
use Rattle.walks.proofs.Best.{Feasible-cons}
use Rattle.states.specs.States.{latest}
use Rattle.states.specs.Automaton.{state, go}
use Rattle.states.proofs.Automaton.{state_cons, latest-go, avoids_cons}
use Rattle.states.specs.Follow.{unblocked, Follows}

module _ (F : List (List ℕ)) where
  -- A walk that avoids F still does after going on over c, exactly if nothing of c is blocked in its turn.
  pub avoids-unblocked : (c w : List ℕ) → Avoids F (reverse w) → Avoids F (reverse_aux w c) ↔ T (unblocked F (state F w) c)
  avoids-unblocked c w h = (there c w, back c w h)
    where
      there : (c w : List ℕ) → Avoids F (reverse_aux w c) → T (unblocked F (state F w) c)
      there [] w a = tt
      there (v ∷ c) w a =
          let b : Avoids F (reverse (v ∷ w)) = Avoids-front (reverse (v ∷ w)) c (rw (reverse_aux-eq (v ∷ w) c) at a) in
          search (conj, ((avoids_cons F v w).0 b).1, rw state_cons at (there c (v ∷ w) a))

      back : (c w : List ℕ) → Avoids F (reverse w) → T (unblocked F (state F w) c) → Avoids F (reverse_aux w c)
      back [] w a t = a
      back (v ∷ c) w a t =
          back c (v ∷ w) ((avoids_cons F v w).1 (a, search conj)) (rw state_cons (search conj))

module _ (g : Graph) (F : List (List ℕ)) (t : ℕ) where
  Follows→ : (c q : List ℕ) (u : ℕ) → latest q ≡ u → u < g.count → Follows g F t q c → Walk g (u ∷ c) × (get_or (u ∷ c) (length c) 0 ≡ t) × T (unblocked F q c)
  Follows→ [] q u e b f = (Walk-single b, sym e ∙ f, tt)
  Follows→ (v ∷ c) q u e b f =
      let s = f.0 in
      let h = Follows→ c (go F q v) v (latest-go F q v) s.below f.1 in
      (Walk-cons b (rw e at s.arc) h.0, h.1, search conj)

  →Follows : (c q : List ℕ) (u : ℕ) → latest q ≡ u → Walk g (u ∷ c) → get_or (u ∷ c) (length c) 0 ≡ t → T (unblocked F q c) → Follows g F t q c
  →Follows [] q u e w h b = e ∙ h
  →Follows (v ∷ c) q u e w h b = (
    record { arc = rw e (w.arcs 0 (omega arith)); below = w.below 1 (omega arith); free = search conj },
    →Follows c (go F q v) v (latest-go F q v) (Walk-tail w) h (search conj),
  )

  -- Theorem 4: a walk from s is feasible exactly if it can be followed from the state of s over unblocked steps and ends at t.
  pub feasible-follows : (s : ℕ) (c : List ℕ) → s < g.count → Avoids F (s ∷ []) → Feasible g F s t (s ∷ c) ↔ Follows g F t (s ∷ []) c
  unfolding state
  feasible-follows s c b a = (
    λ f. →Follows c (s ∷ []) s refl f.walk f.ends ((avoids-unblocked F c (s ∷ []) a).0 f.clear),
    λ f. let h = Follows→ c (s ∷ []) s refl b f in
        record { walk = h.0; starts = refl; ends = h.1; clear = (avoids-unblocked F c (s ∷ []) a).1 h.2 },
  )

  -- Best and None are those of the product's paths.
  module _ (s : ℕ) (below : s < g.count) (clear : Avoids F (s ∷ [])) where
    pub follows-best : (c : List ℕ) → Follows g F t (s ∷ []) c → ((c' : List ℕ) → Follows g F t (s ∷ []) c' → (s ∷ c) ≼⟨ g ⟩ (s ∷ c')) → Best g F s t (s ∷ c)
    follows-best c f h = record { feasible = (feasible-follows s c below clear).1 f; least = λ v x. least v x (Feasible-cons v x) }
      where
        least : (v : List ℕ) → Feasible g F s t v → (c' : List ℕ) × (v ≡ s ∷ c') → (s ∷ c) ≼⟨ g ⟩ v
        least v x p = rw p.1 (h p.0 ((feasible-follows s p.0 below clear).0 (rw p.1 at x)))

    pub follows-none : ((c : List ℕ) → Follows g F t (s ∷ []) c → ⊥) → None g F s t
    follows-none h w x =
        let p = Feasible-cons w x in
        h p.0 ((feasible-follows s p.0 below clear).0 (rw p.1 at x))
