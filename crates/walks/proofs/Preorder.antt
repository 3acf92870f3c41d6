-- Reflexive and transitive: a number that decides, with what decides behind it, and the order of lists.
use Rattle.std.specs.Prelude.{List, [], ◌∷◌, refl, ℕ}
use Rattle.std.proofs.Common.{inl, inr, ◌∙◌, arith}
use Rattle.walks.specs.Order.{Tiebreak, Lex}

pub Tiebreak-trans : {a b c : ℕ} {R S U : Type 0} → (R → S → U) → Tiebreak a b R → Tiebreak b c S → Tiebreak a c U
Tiebreak-trans f (inl p) (inl q) = inl (omega arith)
Tiebreak-trans f (inl p) (inr q) = inl (omega arith)
Tiebreak-trans f (inr p) (inl q) = inl (omega arith)
Tiebreak-trans f (inr p) (inr q) = inr (p.0 ∙ q.0, f p.1 q.1)

pub Lex-refl : (w : List ℕ) → Lex w w
Lex-refl [] = tt
Lex-refl (a ∷ w) = inr (refl, Lex-refl w)

pub Lex-trans : (u v w : List ℕ) → Lex u v → Lex v w → Lex u w
Lex-trans [] v w p q = tt
Lex-trans (a ∷ u) [] w p q = absurd p
Lex-trans (a ∷ u) (b ∷ v) [] p q = absurd q
Lex-trans (a ∷ u) (b ∷ v) (c ∷ w) p q = Tiebreak-trans (Lex-trans u v w) p q
