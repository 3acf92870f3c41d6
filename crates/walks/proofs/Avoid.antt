-- The laws of what specs/Avoid.antt defines.
use Rattle.std.specs.Prelude.{◌⊎◌, ◌≡◌, refl, ℕ, T, length}
use mathlib.Core.List.{List, [], ◌∷◌, ◌++◌, append_assoc, append-nil, reverse, reverse-append, Memᴰ}
use Rattle.std.proofs.Common.{inl, inr, sym, ap, ◌∙◌, arith, T_not, eqb→eq, length-append}
use Rattle.std.proofs.Math.Dec.{not_T, eqb_refl}
use Rattle.std.proofs.Math.Facts.{or_yes}
use Rattle.lists.specs.Test.{conj, any, any→some, some→any, or_left, or_right}
use Rattle.walks.specs.Avoid.{Occurs, is_prefix, same, occurs, Avoids, avoids, ◌⊆◌, Long}

pub is_prefix→append : (r w : List ℕ) → T (is_prefix r w) → (b : List ℕ) × (w ≡ r ++ b)
is_prefix→append [] w t = (w, refl)
is_prefix→append (a ∷ r) [] t = absurd t
is_prefix→append (a ∷ r) (c ∷ w) t =
    let p = is_prefix→append r w (search conj) in
    (p.0, cc (eqb→eq a c (search conj), p.1))

pub append→is_prefix : (r b : List ℕ) → T (is_prefix r (r ++ b))
append→is_prefix [] b = tt
append→is_prefix (a ∷ r) b = search (conj, eqb_refl, append→is_prefix r b)

pub is_prefix-refl : (p : List ℕ) → T (is_prefix p p)
is_prefix-refl p = rw append-nil at (append→is_prefix p [])

pub same→≡ : (p q : List ℕ) → T (same p q) → p ≡ q
same→≡ p q t =
    let a = is_prefix→append p q (search conj) in
    whole a.0 a.1 (eqb→eq (length p) (length q) (search conj))
  where
    whole : (b : List ℕ) → q ≡ p ++ b → length p ≡ length q → p ≡ q
    whole [] e h = sym (rw append-nil at e)
    whole (v ∷ b) e h = absurd (omega (arith, simp length-append at (ap length e)))

pub same_refl : (p : List ℕ) → T (same p p)
same_refl p = search (conj, is_prefix-refl, eqb_refl)

pub occurs→Occurs : (r w : List ℕ) → T (occurs r w) → Occurs r w
occurs→Occurs r [] t =
    let p = is_prefix→append r [] t in
    record { before = []; after = p.0; split = p.1 }
occurs→Occurs r (v ∷ w) t = go (or_yes (is_prefix r (v ∷ w)) (occurs r w) t) (occurs→Occurs r w)
  where
    go : T (is_prefix r (v ∷ w)) ⊎ T (occurs r w) → (T (occurs r w) → Occurs r w) → Occurs r (v ∷ w)
    go (inl t') rec =
        let p = is_prefix→append r (v ∷ w) t' in
        record { before = []; after = p.0; split = p.1 }
    go (inr t') rec =
        let o = rec t' in
        record { before = v ∷ o.before; after = o.after; split = ap (λ (l : List ℕ). v ∷ l) o.split }

-- A path that stands at the front occurs.
pub occurs-front : (r w : List ℕ) → T (is_prefix r w) → T (occurs r w)
occurs-front r [] t = t
occurs-front r (v ∷ w) t = or_left (is_prefix r (v ∷ w)) (occurs r w) t

pub Occurs→occurs : (r w : List ℕ) → Occurs r w → T (occurs r w)
Occurs→occurs r w o = rw o.split (at o.before)
  where
    at : (a : List ℕ) → T (occurs r (a ++ (r ++ o.after)))
    at [] = occurs-front r (r ++ o.after) (append→is_prefix r o.after)
    at (v ∷ a) = or_right (is_prefix r (v ∷ (a ++ (r ++ o.after)))) (occurs r (a ++ (r ++ o.after))) (at a)

pub avoids→Avoids : (F : List (List ℕ)) (w : List ℕ) → T (avoids F w) → Avoids F w
avoids→Avoids F w t r m o = T_not (any (λ r. occurs r w) F) t (some→any (λ r. occurs r w) m (Occurs→occurs r w o))

pub Avoids→avoids : (F : List (List ℕ)) (w : List ℕ) → Avoids F w → T (avoids F w)
Avoids→avoids F w h = not_T (any (λ r. occurs r w) F) (λ t. refute (any→some (λ r. occurs r w) F t))
  where
    refute : (r : List ℕ) × Memᴰ r F × T (occurs r w) → ⊥
    refute x = h x.0 x.1 (occurs→Occurs x.0 w x.2)

pub Avoids-mono : {F F' : List (List ℕ)} {w : List ℕ} → F ⊆ F' → Avoids F' w → Avoids F w
Avoids-mono s h r m = h r (s r m)

pub Avoids-single : {F : List (List ℕ)} → Long F → (v : ℕ) → Avoids F (v ∷ [])
Avoids-single long v r m o = omega (arith, long r m, simp length-append at (ap length o.split))

pub Avoids-front : {F : List (List ℕ)} (v w : List ℕ) → Avoids F (v ++ w) → Avoids F v
Avoids-front v w h r m o = h r m (record { before = o.before; after = o.after ++ w; split = rw o.split (simp append_assoc) })

pub Occurs-reverse : {r w : List ℕ} → Occurs r w → Occurs (reverse r) (reverse w)
Occurs-reverse o = record { before = reverse o.after; after = reverse o.before; split = ap reverse o.split ∙ simp (reverse-append, append_assoc) }
