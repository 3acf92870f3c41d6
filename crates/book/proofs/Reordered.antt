-- Arcs in another order are the same graph.
use Rattle.std.specs.Prelude.{ℕ, ◌≡◌, refl, Bool, true, false, cond, ◌&&◌, ◌||◌, eqb}
use Rattle.std.proofs.Common.{sym, ap, ap₂, subst, ◌∙◌, true≢false, eqb-true, eq-eqb}
use Rattle.std.proofs.Math.Path.{fun_ext}
use mathlib.Core.List.{List, ◌∷◌, Permᴰ}
use Rattle.std.proofs.Math.Option.{Option, some}
use Rattle.lists.specs.Test.{and-true, or_false}
use Rattle.walks.specs.Graph.{Arc, is_some, weight_in, from_arcs}
use Rattle.book.specs.Book.{All, PairsOnce, given}
use Rattle.book.proofs.BookLaws.{given_cons, other_pair}

pub all_reordered : {A : Type 0} (P : A → Type 0) {xs ys : List A} → Permᴰ xs ys → All P xs → All P ys
all_reordered P Permᴰ.nil h = h
all_reordered P (Permᴰ.cons e d) h = (subst P e h.0, all_reordered P d h.1)
all_reordered P (Permᴰ.swap e f) h = (subst P f h.1.0, (subst P e h.0, h.1.1))
all_reordered P (Permᴰ.trans d e) h = all_reordered P e (all_reordered P d h)

-- whether an arc is that of a pair
abbrev joins : Arc → ℕ → ℕ → Bool
joins a u v = eqb a.tail u && eqb a.head v

-- Of two arcs that are not of one pair, at most one is that of u and v.
one-joins : (a b : Arc) (as' : List Arc) (u v : ℕ) → given (b ∷ as') a.tail a.head ≡ false
    → weight_in (a ∷ b ∷ as') u v ≡ weight_in (b ∷ a ∷ as') u v
one-joins a b as' u v once = go (joins a u v) (joins b u v) refl refl
  where
    -- both of one pair: then b's pair is a's, and is given
    both : joins a u v ≡ true → joins b u v ≡ true → given (b ∷ as') a.tail a.head ≡ true
    both p q =
        let (tail-a, head-a) = and-true (eqb a.tail u) (eqb a.head v) p in
        let (tail-b, head-b) = and-true (eqb b.tail u) (eqb b.head v) q in
        rw (eq-eqb b.tail a.tail (eqb-true _ _ tail-b ∙ sym (eqb-true _ _ tail-a)), eq-eqb b.head a.head (eqb-true _ _ head-b ∙ sym (eqb-true _ _ head-a))) refl

    go : (x y : Bool) → joins a u v ≡ x → joins b u v ≡ y
        → cond x (some a.weight) (cond y (some b.weight) (weight_in as' u v)) ≡ cond y (some b.weight) (cond x (some a.weight) (weight_in as' u v))
    go true true p q = absurd (true≢false (sym (both p q) ∙ once))
    go true false p q = refl
    go false true p q = refl
    go false false p q = refl

-- The same weights, and no pair twice.
record SameArcs (as' bs : List Arc) : Type 0 where
  weights : (u v : ℕ) → weight_in as' u v ≡ weight_in bs u v
  once : PairsOnce bs

swapped : (a b : Arc) (as' : List Arc) → PairsOnce (a ∷ b ∷ as') → SameArcs (a ∷ b ∷ as') (b ∷ a ∷ as')
swapped a b as' h =
    let (other, new) = or_false (joins b a.tail a.head) (given as' a.tail a.head) (sym (given_cons b as' a.tail a.head) ∙ h.0) in
    record {
      weights = λ u v. one-joins a b as' u v h.0;
      once = (
        given_cons a as' b.tail b.head ∙ ap₂ ◌||◌ (other_pair b.tail b.head a.tail a.head other) h.1.0,
        (new, h.1.1),
      );
    }

same-arcs : {as' bs : List Arc} → Permᴰ as' bs → PairsOnce as' → SameArcs as' bs
same-arcs Permᴰ.nil h = record { weights = λ u v. refl; once = h }
same-arcs (Permᴰ.cons {a = a} {b = b} {l₁ = as'} {l₂ = bs} e d) h =
    let s = same-arcs d h.1 in
    subst (λ (x : Arc). SameArcs (a ∷ as') (x ∷ bs)) e
    (record {
      weights = λ u v. ap (cond (joins a u v) (some a.weight)) (s.weights u v);
      once = (sym (ap is_some (s.weights a.tail a.head)) ∙ h.0, s.once);
    })
same-arcs (Permᴰ.swap {a = a} {b = b} {b' = b'} {l = as'} e f) h =
    subst (λ (x : Arc). SameArcs (a ∷ b ∷ as') (x ∷ b' ∷ as')) f (subst (λ (y : Arc). SameArcs (a ∷ b ∷ as') (b ∷ y ∷ as')) e (swapped a b as' h))
same-arcs (Permᴰ.trans d e) h =
    let s = same-arcs d h in
    let t = same-arcs e s.once in
    record { weights = λ u v. s.weights u v ∙ t.weights u v; once = t.once }

module _ {as' bs : List Arc} (d : Permᴰ as' bs) (h : PairsOnce as') where
  pub pairs_reordered : PairsOnce bs
  pairs_reordered = (same-arcs d h).once

  pub graph_reordered : (n : ℕ) → from_arcs n as' ≡ from_arcs n bs
  graph_reordered n = ap (λ (w : ℕ → ℕ → Option ℕ). record { count = n; weight = w }) (fun_ext (λ u. fun_ext (λ v. (same-arcs d h).weights u v)))
