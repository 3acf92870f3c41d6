-- The laws of what specs/Conditions.antt defines.
use Rattle.std.specs.Prelude.{ℕ, ◌≤◌, ◌<◌, ◌≡◌, refl, Bool, true, false, cond, ◌&&◌, List, [], ◌∷◌, ◌↔◌, ◌⊎◌, map, eqb, leb, ltb}
use Rattle.std.proofs.Common.{sym, ap, ap₂, subst, ◌∙◌, true≢false, inl, inr, arith, leb-true, le-leb, ltb-true, lt-ltb, eqb-true, eq-eqb}
use Rattle.std.proofs.Math.Option.{Option, none, some, none-ne-some}
use mathlib.Core.List.{Memᴰ}
use mathlib.Core.List.Memᴰ
use Rattle.lists.specs.Test.{and-true}
use Rattle.book.specs.declared.Refusal.{Refusal}
use Rattle.book.specs.Refusal.{Test, number_of, numbered, first_failure}
use Rattle.rules.proofs.Numbers.{refusal-again}
use Rattle.demands.specs.Conditions.{Condition, AllHold, HasNumber, FirstFails, Decides}

-- There is one refusal of a number and place.
pub one-refusal : {x y : Refusal} {n at : ℕ} → HasNumber x n at → HasNumber y n at → x ≡ y
one-refusal {x} {y} h k = sym (refusal-again x) ∙ ap₂ numbered (h.0 ∙ sym k.0) (h.1 ∙ sym k.1) ∙ refusal-again y

pub first-none : (at : ℕ) (ts : List Test) (cs : List Condition) → Decides at ts cs → (first_failure ts ≡ none) ↔ AllHold cs
first-none at [] [] d = (λ _. tt, λ _. refl)
first-none at [] (c ∷ cs) d = absurd d
first-none at (t ∷ ts) [] d = absurd d
first-none at (t ∷ ts) (c ∷ cs) (same, is, rest) = go t.holds refl (first-none at ts cs)
  where
    go : (h : Bool) → t.holds ≡ h → (Decides at ts cs → (first_failure ts ≡ none) ↔ AllHold cs)
        → (cond h (first_failure ts) (some t.refusal) ≡ none) ↔ (c.holds × AllHold cs)
    go true e later = (λ q. (same.0 e, (later (rest (same.0 e))).0 q), λ a. (later (rest a.0)).1 a.1)
    go false e later = (λ q. absurd (none-ne-some _ (sym q)), λ a. absurd (true≢false (sym (same.1 a.0) ∙ e)))

pub first_some : (at : ℕ) (ts : List Test) (cs : List Condition) (x : Refusal) → Decides at ts cs → (first_failure ts ≡ some x) ↔ FirstFails at cs x
first_some at [] [] x d = (none-ne-some x, λ a. absurd a)
first_some at [] (c ∷ cs) x d = absurd d
first_some at (t ∷ ts) [] x d = absurd d
first_some at (t ∷ ts) (c ∷ cs) x (same, is, rest) = go t.holds refl (first_some at ts cs x)
  where
    go : (h : Bool) → t.holds ≡ h → (Decides at ts cs → (first_failure ts ≡ some x) ↔ FirstFails at cs x)
        → (cond h (first_failure ts) (some t.refusal) ≡ some x) ↔ FirstFails at (c ∷ cs) x
    go true e later = (λ q. inr (same.0 e, (later (rest (same.0 e))).0 q), back)
      where
        back : FirstFails at (c ∷ cs) x → first_failure ts ≡ some x
        back (inl (no-c, _)) = absurd (no-c (same.0 e))
        back (inr (yes-c, f)) = (later (rest yes-c)).1 f
    go false e later = (λ q. let here : t.refusal ≡ x = cc q in inl (λ a. true≢false (sym (same.1 a) ∙ e), subst (λ (y : Refusal). HasNumber y c.number at) here is), back)
      where
        back : FirstFails at (c ∷ cs) x → some t.refusal ≡ some x
        back (inl (_, has)) = ap some (one-refusal is has)
        back (inr (yes-c, _)) = absurd (true≢false (sym (same.1 yes-c) ∙ e))

-- All hold, or there is a first that does not.
pub decided : (at : ℕ) (ts : List Test) (cs : List Condition) → Decides at ts cs → AllHold cs ⊎ ((x : Refusal) × FirstFails at cs x)
decided at ts cs d = go (first_failure ts) refl
  where
    go : (o : Option Refusal) → first_failure ts ≡ o → AllHold cs ⊎ ((x : Refusal) × FirstFails at cs x)
    go none e = inl ((first-none at ts cs d).0 e)
    go (some x) e = inr (x, (first_some at ts cs x d).0 e)

-- The first test that fails has one of the tests' numbers.
pub number-among : (ts : List Test) (x : Refusal) → first_failure ts ≡ some x → Memᴰ (number_of x) (map (λ t. number_of t.refusal) ts)
number-among [] x e = absurd (none-ne-some x e)
number-among (t ∷ ts) x e = go t.holds (number-among ts x) e
  where
    go : (h : Bool) → (first_failure ts ≡ some x → Memᴰ (number_of x) (map (λ u. number_of u.refusal) ts)) → cond h (first_failure ts) (some t.refusal) ≡ some x
        → Memᴰ (number_of x) (map (λ u. number_of u.refusal) (t ∷ ts))
    go true later q = Memᴰ.tail (later q)
    go false later q = let here : x ≡ t.refusal = cc q in Memᴰ.head (ap number_of here)

-- ---- tests on numbers
pub zero_one : {A : Type 0} → ◌≡◌ {A = ℕ} 0 1 → A
zero_one e = absurd (omega arith)

pub le_iff : (a b : ℕ) → (leb a b ≡ true) ↔ (a ≤ b)
le_iff a b = (leb-true a b, le-leb a b)

pub lt_iff : (a b : ℕ) → (ltb a b ≡ true) ↔ (a < b)
lt_iff a b = (ltb-true a b, lt-ltb a b)

pub eq_iff : (a b : ℕ) → (eqb a b ≡ true) ↔ (a ≡ b)
eq_iff a b = (eqb-true a b, eq-eqb a b)

pub and-iff : {A B : Type 0} (x y : Bool) → (x ≡ true) ↔ A → (y ≡ true) ↔ B → (x && y ≡ true) ↔ (A × B)
and-iff x y a b = (λ e. let (p, q) = and-true x y e in (a.0 p, b.0 q), λ h. ap₂ ◌&&◌ (a.1 h.0) (b.1 h.1))
