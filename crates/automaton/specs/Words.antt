-- Members of a list by their index; words and their numbers.
use mathlib.Core.List.Memᴰ
use mathlib.Core.List.{List, [], ◌∷◌, ◌++◌, Memᴰ}
use Rattle.std.specs.Prelude.{◌⊎◌, ◌≡◌, refl, ℕ, zero, suc, ◌<◌, length, get_or}
use Rattle.std.proofs.Common.{inl, inr, sym, ap, ◌∙◌, arith, length-append}
use Rattle.std.proofs.Math.ListN.{get_or-append}
use Rattle.std.proofs.lemmas.List.{get_or_at}
use Rattle.lists.specs.Distinct.{Distinct}
use Rattle.automaton.specs.Built.{Numbers}

module _ {A : Type 0} where
  pub member_index : (d : A) {a : A} {l : List A} → Memᴰ a l → (i : ℕ) × (i < length l) × (get_or l i d ≡ a)
  member_index d (Memᴰ.head e) = (0, omega arith, sym e)
  member_index d (Memᴰ.tail m) = let s = member_index d m in (suc s.0, omega (arith, s.1), s.2)

  pub index_member : (d : A) (l : List A) (i : ℕ) → i < length l → Memᴰ (get_or l i d) l
  index_member d [] i h = absurd (omega arith)
  index_member d (a ∷ l) zero h = Memᴰ.head refl
  index_member d (a ∷ l) (suc i) h = Memᴰ.tail (index_member d l i (omega arith))

  pub distinct_snoc : (l : List A) (a : A) → Distinct l → (Memᴰ a l → ⊥) → Distinct (l ++ (a ∷ []))
  distinct_snoc [] a d h = (Memᴰ.not-nil, tt)
  distinct_snoc (b ∷ l) a d h = (λ m. cases (Memᴰ.append_cases l m), distinct_snoc l a d.1 (λ m. h (Memᴰ.tail m)))
    where
      cases : Memᴰ b l ⊎ Memᴰ b (a ∷ []) → ⊥
      cases (inl m) = d.0 m
      cases (inr m) = h (Memᴰ.head (sym (Memᴰ.eq_of_singleton m)))

  pub distinct_index : (d : A) (l : List A) → Distinct l → (i j : ℕ) → i < length l → j < length l → get_or l i d ≡ get_or l j d → i ≡ j
  distinct_index d [] u i j a b e = absurd (omega arith)
  distinct_index d (x ∷ l) u zero zero a b e = refl
  distinct_index d (x ∷ l) u zero (suc j) a b e = absurd (u.0 (Memᴰ.cast e (index_member d l j (omega arith))))
  distinct_index d (x ∷ l) u (suc i) zero a b e = absurd (u.0 (Memᴰ.cast (sym e) (index_member d l i (omega arith))))
  distinct_index d (x ∷ l) u (suc i) (suc j) a b e = ap suc (distinct_index d l u.1 i j (omega arith) (omega arith) e)

module _ (words : List (List ℕ)) where
  pub number_unique : Distinct words → {w : List ℕ} {i j : ℕ} → Numbers words i w → Numbers words j w → i ≡ j
  number_unique d {w} {i} {j} a b = distinct_index [] words d i j a.below b.below (a.is ∙ sym b.is)

  pub number_of : (k : ℕ) → k < length words → Numbers words k (get_or words k [])
  number_of k h = record { below = h; is = refl }

  pub number-member : {w : List ℕ} {k : ℕ} → Numbers words k w → Memᴰ w words
  number-member {w} {k} a = Memᴰ.cast (sym a.is) (index_member [] words k a.below)

  module _ (a : List ℕ) where
    pub old-word : (k : ℕ) → k < length words → get_or (words ++ (a ∷ [])) k [] ≡ get_or words k []
    old-word k h = get_or-append words (a ∷ []) [] k h

    pub number_more : {w : List ℕ} {k : ℕ} → Numbers words k w → Numbers (words ++ (a ∷ [])) k w
    number_more {w} {k} h = record { below = omega (arith, length-append words (a ∷ []), h.below); is = old-word k h.below ∙ h.is }

    pub number-new : (m : ℕ) → length words ≡ m → Numbers (words ++ (a ∷ [])) m a
    number-new m e = record { below = omega (arith, length-append words (a ∷ []), e); is = get_or_at words a [] [] m e }
