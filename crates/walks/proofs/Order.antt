-- The laws of what specs/Order.antt defines.
use Rattle.std.specs.Prelude.{List, [], ◌∷◌, ◌⊎◌, ◌≡◌, refl, ℕ, ◌<◌, ◌≤◌}
use Rattle.std.proofs.Common.{inl, inr, arith}
use Rattle.std.proofs.Math.Decide.{dec_lt}
use Rattle.walks.specs.Graph.{Graph}
use Rattle.walks.specs.Walk.{weight_of, hops}
use Rattle.walks.specs.Order.{Tiebreak, Lex, ◌≼⟨◌⟩◌}
use Rattle.walks.proofs.Preorder.{Tiebreak-trans, Lex-refl, Lex-trans}

-- Two numbers that go each before the other are equal, and R and S decide.
pub Tiebreak-antisym : {a b : ℕ} {R S : Type 0} → Tiebreak a b R → Tiebreak b a S → (a ≡ b) × R × S
Tiebreak-antisym (inl p) (inl q) = absurd (omega arith)
Tiebreak-antisym (inl p) (inr q) = absurd (omega arith)
Tiebreak-antisym (inr p) (inl q) = absurd (omega arith)
Tiebreak-antisym (inr p) (inr q) = (p.0, p.1, q.1)

Tiebreak-total : (a b : ℕ) {R S : Type 0} → R ⊎ S → Tiebreak a b R ⊎ Tiebreak b a S
Tiebreak-total a b {R} {S} t = go (dec_lt a b) (dec_lt b a) t
  where
    go : Dec (a < b) → Dec (b < a) → R ⊎ S → Tiebreak a b R ⊎ Tiebreak b a S
    go (yes p) q t' = inl (inl p)
    go (no p) (yes q) t' = inr (inl q)
    go (no p) (no q) (inl r) = inl (inr (omega arith, r))
    go (no p) (no q) (inr r) = inr (inr (omega arith, r))

pub Lex-antisym : (v w : List ℕ) → Lex v w → Lex w v → v ≡ w
Lex-antisym [] [] p q = refl
Lex-antisym [] (b ∷ w) p q = absurd q
Lex-antisym (a ∷ v) [] p q = absurd p
Lex-antisym (a ∷ v) (b ∷ w) p q =
    let h = Tiebreak-antisym p q in
    cc (h.0, Lex-antisym v w h.1 h.2)

pub Lex-total : (v w : List ℕ) → Lex v w ⊎ Lex w v
Lex-total [] w = inl tt
Lex-total (a ∷ v) [] = inr tt
Lex-total (a ∷ v) (b ∷ w) = Tiebreak-total a b (Lex-total v w)

module _ (g : Graph) where
  pub ≼_refl : (w : List ℕ) → w ≼⟨ g ⟩ w
  ≼_refl w = inr (refl, inr (refl, Lex-refl w))

  pub ≼_trans : (u v w : List ℕ) → u ≼⟨ g ⟩ v → v ≼⟨ g ⟩ w → u ≼⟨ g ⟩ w
  ≼_trans u v w = Tiebreak-trans (Tiebreak-trans (Lex-trans u v w))

  -- Two walks that go each before the other are one: a least walk is unique.
  pub ≼-antisym : (v w : List ℕ) → v ≼⟨ g ⟩ w → w ≼⟨ g ⟩ v → v ≡ w
  ≼-antisym v w p q =
      let h = Tiebreak-antisym p q in
      let k = Tiebreak-antisym h.1 h.2 in
      Lex-antisym v w k.1 k.2

  pub ≼-total : (v w : List ℕ) → (v ≼⟨ g ⟩ w) ⊎ (w ≼⟨ g ⟩ v)
  ≼-total v w = Tiebreak-total (weight_of g v) (weight_of g w) (Tiebreak-total (hops v) (hops w) (Lex-total v w))

  pub ≼-weight : (v w : List ℕ) → v ≼⟨ g ⟩ w → weight_of g v ≤ weight_of g w
  ≼-weight v w (inl p) = omega arith
  ≼-weight v w (inr p) = omega arith
