-- The laws of what specs/Best.antt defines.
use Rattle.std.specs.Prelude.{List, [], ◌∷◌, ◌≡◌, refl, ℕ, ◌<◌, ◌≤◌}
use Rattle.std.proofs.Common.{sym, inl, inr, arith}
use Rattle.std.proofs.Math.Decide.{dec_lt}
use Rattle.walks.specs.Graph.{Graph}
use Rattle.walks.specs.Walk.{weight_of, hops}
use Rattle.walks.proofs.Walk.{Walk-single}
use Rattle.walks.specs.Avoid.{Avoids, ◌⊆◌, Long}
use Rattle.walks.proofs.Avoid.{Avoids-mono, Avoids-single}
use Rattle.walks.specs.Order.{◌≼⟨◌⟩◌}
use Rattle.walks.proofs.Order.{≼-antisym, ≼-weight}
use Rattle.walks.specs.Best.{Feasible, Best, None, NoStricter}

-- Only the walks that are left count: neither the order nor the repetition of forbidden paths, nor one that occurs in no walk.
module _ {g : Graph} {s t : ℕ} where
  Feasible-looser : {F G : List (List ℕ)} → NoStricter g F G → {w : List ℕ} → Feasible g F s t w → Feasible g G s t w
  Feasible-looser to {w} f = record { walk = f.walk; starts = f.starts; ends = f.ends; clear = to w f.walk f.clear }

  pub Best-same : {F G : List (List ℕ)} → NoStricter g F G → NoStricter g G F → {w : List ℕ} → Best g F s t w → Best g G s t w
  Best-same to from b = record { feasible = Feasible-looser to b.feasible; least = λ v f. b.least v (Feasible-looser from f) }

  pub None-same : {F G : List (List ℕ)} → NoStricter g G F → None g F s t → None g G s t
  None-same from n w f = n w (Feasible-looser from f)

module _ {g : Graph} {F : List (List ℕ)} {s t : ℕ} where
  -- A feasible walk is its start and what follows.
  pub Feasible-cons : (w : List ℕ) → Feasible g F s t w → (c : List ℕ) × (w ≡ s ∷ c)
  Feasible-cons [] f = absurd (omega (arith, f.walk.nonempty))
  Feasible-cons (v ∷ c) f = (c, cc f.starts)

  pub Best-unique : {v w : List ℕ} → Best g F s t v → Best g F s t w → v ≡ w
  Best-unique {v} {w} b c = ≼-antisym g v w (b.least w c.feasible) (c.least v b.feasible)

  pub Best-not-None : {w : List ℕ} → Best g F s t w → None g F s t → ⊥
  Best-not-None {w} b n = n w b.feasible

  module _ {F' : List (List ℕ)} (more : F ⊆ F') where
    pub Feasible-mono : {w : List ℕ} → Feasible g F' s t w → Feasible g F s t w
    Feasible-mono f = Feasible-looser (λ w _. Avoids-mono more) f

    -- A best walk that avoids the added paths too is still the best.
    pub Best-mono : {w : List ℕ} → Best g F s t w → Avoids F' w → Best g F' s t w
    Best-mono b a =
        let f = b.feasible in
        record { feasible = record { walk = f.walk; starts = f.starts; ends = f.ends; clear = a }; least = λ v h. b.least v (Feasible-mono h) }

    pub None-mono : None g F s t → None g F' s t
    None-mono n w f = n w (Feasible-mono f)

    -- More forbidden paths never make the best walk lighter.
    pub Best-weight-mono : {v w : List ℕ} → Best g F s t v → Best g F' s t w → weight_of g v ≤ weight_of g w
    Best-weight-mono {v} {w} b c = ≼-weight g v w (b.least w (Feasible-mono c.feasible))

-- Where each path of F has two vertices or more, staying at the start is best (01: start equal to end gives that one grade).
pub Best-stay : {g : Graph} {F : List (List ℕ)} {s : ℕ} → Long F → s < g.count → Best g F s s (s ∷ [])
Best-stay {g} {F} {s} long b = record { feasible = record { walk = Walk-single b; starts = refl; ends = refl; clear = Avoids-single long s }; least = least }
  where
    lighter : (v : List ℕ) → 0 < hops v → Dec (0 < weight_of g v) → (s ∷ []) ≼⟨ g ⟩ v
    lighter v h (yes p) = inl p
    lighter v h (no p) = inr (omega arith, inl h)

    least : (v : List ℕ) → Feasible g F s s v → (s ∷ []) ≼⟨ g ⟩ v
    least [] f = absurd (omega (arith, f.walk.nonempty))
    least (a ∷ []) f = inr (refl, inr (refl, inr (sym f.starts, tt)))
    least (a ∷ c ∷ v) f = lighter (a ∷ c ∷ v) (omega arith) (dec_lt 0 (weight_of g (a ∷ c ∷ v)))
