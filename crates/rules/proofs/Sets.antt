-- Laws of lists of paths as sets: membership, repetition, and the distinct ones.
use Rattle.std.specs.Prelude.{ℕ, ◌+◌, ◌≤◌, Bool, true, false, not, cond, ◌&&◌, ◌||◌, ◌⊎◌, ◌≡◌, refl, eqb, length}
use Rattle.std.proofs.Common.{true≢false, inl, inr, ⊎_elim, sym, ap, ap₂, ◌∙◌, arith, length-append}
use mathlib.Core.List.Memᴰ
use mathlib.Core.List.{List, [], ◌∷◌, ◌++◌, foldl, Memᴰ}
use Rattle.std.proofs.lemmas.Bool.{not-true}
use Rattle.std.specs.Cmp.Lexicographic.{pointwise}
use borrow.Author.Tests.{ne_eqb}
use Rattle.std.proofs.Math.Dec.{eqb-suc-suc}
use Rattle.lists.specs.Test.{T→true, true→T, and-true, any→some, some→any}
use Rattle.walks.specs.Avoid.{is_prefix, same}
use Rattle.walks.proofs.Avoid.{same→≡, same_refl}
use Rattle.book.specs.Book.{All}
use Rattle.book.proofs.BookLaws.{all_snoc}
use Rattle.rules.specs.Binding.{member, add, once}

-- ---- tests
-- Two tests that hold together are equal.
pub iff : (a b : Bool) → (a ≡ true → b ≡ true) → (b ≡ true → a ≡ true) → a ≡ b
iff true b f g = sym (f refl)
iff false true f g = g refl
iff false false f g = refl

pub refuted : (a : Bool) → (a ≡ true → ⊥) → a ≡ false
refuted true f = absurd (f refl)
refuted false f = refl

-- ---- equal lists
pub same_true : (p q : List ℕ) → same p q ≡ true → p ≡ q
same_true p q e = same→≡ p q (true→T (same p q) e)

pub true_same : (p q : List ℕ) → p ≡ q → same p q ≡ true
true_same p q e = rw e (T→true (same q q) (same_refl q))

pub same-iff : (p q r s : List ℕ) → (p ≡ q → r ≡ s) → (r ≡ s → p ≡ q) → same p q ≡ same r s
same-iff p q r s f g = iff (same p q) (same r s) (λ e. true_same r s (f (same_true p q e))) (λ e. true_same p q (g (same_true r s e)))

pub same_cons : (a b : ℕ) (p q : List ℕ) → same (a ∷ p) (b ∷ q) ≡ eqb a b && same p q
same_cons a b p q = ap (λ x. eqb a b && is_prefix p q && x) (eqb-suc-suc (length p) (length q)) ∙ and_assoc (eqb a b) _ _
  where
    and_assoc : (x y z : Bool) → x && y && z ≡ x && (y && z)
    and_assoc true y z = refl
    and_assoc false y z = refl

-- `==` on slices is this test.
pub eq-same : (p q : List ℕ) → pointwise eqb p q ≡ same p q
eq-same [] [] = refl
eq-same [] (b ∷ q) = sym (ne_eqb 0 (length (b ∷ q)) (λ e. absurd (omega arith)))
eq-same (a ∷ p) [] = refl
eq-same (a ∷ p) (b ∷ q) = ap (λ x. eqb a b && x) (eq-same p q) ∙ sym (same_cons a b p q)

-- ---- members
pub member→Mem : (p : List ℕ) (F : List (List ℕ)) → member p F ≡ true → Memᴰ p F
member→Mem p F e =
    let (q, m, t) = any→some (same p) F (true→T (member p F) e) in
    Memᴰ.cast (same→≡ p q t) m

pub Mem→member : {p : List ℕ} {F : List (List ℕ)} → Memᴰ p F → member p F ≡ true
Mem→member {p} {F} m = T→true (member p F) (some→any (same p) m (same_refl p))

-- ---- no path twice
pub once_snoc : (F : List (List ℕ)) (p : List ℕ) → once (F ++ (p ∷ [])) ≡ once F && not (member p F)
unfolding once
once_snoc [] p = refl
once_snoc (q ∷ F) p =
    ap₂ (λ x y. not x && y) (member_snoc F) (once_snoc F p)
    ∙ regroup (member q F) (same q p) (once F) (member p F)
    ∙ ap (λ x. not (member q F) && once F && not (x || member p F)) (same-iff q p p q sym sym)
  where
    member_snoc : (G : List (List ℕ)) → member q (G ++ (p ∷ [])) ≡ member q G || same q p
    member_snoc [] = or_none (same q p)
      where
        or_none : (x : Bool) → x || false ≡ x
        or_none true = refl
        or_none false = refl
    member_snoc (r ∷ G) = ap (λ x. same q r || x) (member_snoc G) ∙ or_assoc (same q r) _ _
      where
        or_assoc : (x y z : Bool) → x || (y || z) ≡ x || y || z
        or_assoc true y z = refl
        or_assoc false y z = refl

    regroup : (x y z v : Bool) → not (x || y) && (z && not v) ≡ not x && z && not (y || v)
    regroup true y z v = refl
    regroup false true true v = refl
    regroup false true false v = refl
    regroup false false true v = refl
    regroup false false false v = refl

pub once-front : (F G : List (List ℕ)) → once (F ++ G) ≡ true → once F ≡ true
unfolding once
once-front [] G e = refl
once-front (p ∷ F) G e =
    let both = and-true (not (member p (F ++ G))) (once (F ++ G)) e in
    let new : member p F ≡ false = refuted (member p F) (λ there. true≢false (sym (Mem→member (Memᴰ.append_left G (member→Mem p F there))) ∙ not-true _ both.0)) in
    rw (new, once-front F G both.1)

-- ---- one path more
module _ (F : List (List ℕ)) (p : List ℕ) where
  pub add-cases : (P : List (List ℕ) → Type 0) → (member p F ≡ true → P F) → (member p F ≡ false → P (F ++ (p ∷ []))) → P (add F p)
  add-cases P old new = go (member p F) old new
    where
      go : (x : Bool) → (x ≡ true → P F) → (x ≡ false → P (F ++ (p ∷ []))) → P (cond x F (F ++ (p ∷ [])))
      go true old new = old refl
      go false old new = new refl

-- ---- the distinct paths
pub distinct-once : (ps F : List (List ℕ)) → once F ≡ true → once (foldl add F ps) ≡ true
distinct-once [] F h = h
distinct-once (p ∷ ps) F h =
    distinct-once ps (add F p)
    (add-cases F p (λ G. once G ≡ true) (λ _. h) (λ new. once_snoc F p ∙ rw (h, new)))

pub distinct-length : (ps F : List (List ℕ)) → length (foldl add F ps) ≤ length F + length ps
distinct-length [] F = omega arith
distinct-length (p ∷ ps) F =
    let one : length (add F p) ≤ length F + 1 = add-cases F p (λ G. length G ≤ length F + 1) (λ _. omega arith) (λ _. simp length-append (omega arith)) in
    omega (arith, distinct-length ps (add F p), one)

pub distinct-all : (P : List ℕ → Type 0) (ps F : List (List ℕ)) → All P F → All P ps → All P (foldl add F ps)
distinct-all P [] F h k = h
distinct-all P (p ∷ ps) F h k =
    distinct-all P ps (add F p) (add-cases F p (All P) (λ _. h) (λ _. all_snoc P F p h k.0)) k.1

module _ {r : List ℕ} where
  -- what was there stays
  kept : (ps F : List (List ℕ)) → Memᴰ r F → Memᴰ r (foldl add F ps)
  kept [] F m = m
  kept (p ∷ ps) F m = kept ps (add F p) (add-cases F p (Memᴰ r) (λ _. m) (λ _. Memᴰ.append_left (p ∷ []) m))

  pub listed→distinct : {ps : List (List ℕ)} → Memᴰ r ps → (F : List (List ℕ)) → Memᴰ r (foldl add F ps)
  listed→distinct (Memᴰ.head {x = p} {xs = ps} e) F =
      kept ps (add F p)
      (add-cases F p (Memᴰ r)
      (λ there. Memᴰ.cast e (member→Mem p F there))
      (λ _. Memᴰ.append_right F (Memᴰ.head e)))
  listed→distinct (Memᴰ.tail {x = p} {xs = ps} m) F = listed→distinct m (add F p)

  pub distinct→listed : (ps F : List (List ℕ)) → Memᴰ r (foldl add F ps) → Memᴰ r F ⊎ Memᴰ r ps
  distinct→listed [] F m = inl m
  distinct→listed (p ∷ ps) F m = go (distinct→listed ps (add F p) m)
    where
      added : Memᴰ r (F ++ (p ∷ [])) → Memᴰ r F ⊎ Memᴰ r (p ∷ ps)
      added m = ⊎_elim inl (λ k. inr (Memᴰ.head (Memᴰ.eq_of_singleton k))) (Memᴰ.append_cases F m)

      go : Memᴰ r (add F p) ⊎ Memᴰ r ps → Memᴰ r F ⊎ Memᴰ r (p ∷ ps)
      go (inl k) = add-cases F p (λ G. Memᴰ r G → Memᴰ r F ⊎ Memᴰ r (p ∷ ps)) (λ _. inl) (λ _. added) k
      go (inr k) = inr (Memᴰ.tail k)
