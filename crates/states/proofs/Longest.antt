-- The laws of what specs/Longest.antt defines.
use Rattle.std.specs.Prelude.{Bool, true, false, ◌&&◌, cond, List, [], ◌∷◌, ◌≡◌, refl, ℕ, zero, suc, ◌<◌, ◌≤◌, T, eqb, length, take}
use Rattle.std.proofs.Common.{sym, ap, ◌∙◌, arith, length-append, length-take, take-take, length-take-le}
use Rattle.std.proofs.Math.Decide.{dec_lt, ℕ_discrete}
use Rattle.std.proofs.Math.Seq.{take-append_seam}
use Rattle.walks.specs.Avoid.{is_prefix}
use Rattle.walks.proofs.Avoid.{is_prefix→append}
use Rattle.states.specs.Longest.{longest_front, Longest}

is_prefix-take : (r : List ℕ) (k : ℕ) (w : List ℕ) → length r ≤ k → is_prefix r (take k w) ≡ is_prefix r w
is_prefix-take [] k w h = refl
is_prefix-take (a ∷ r) zero w h = absurd (omega arith)
is_prefix-take (a ∷ r) (suc k) [] h = refl
is_prefix-take (a ∷ r) (suc k) (b ∷ w) h = ap (λ (x : Bool). eqb a b && x) (is_prefix-take r k w (omega arith))

module _ (P : List ℕ → Bool) where
  pub longest-is : (n : ℕ) (w : List ℕ) → Longest P n w (longest_front P n w)
  longest-is zero w = record { size = 0; within = omega arith; is-take = refl; passes = λ h. absurd (omega arith); most = λ j p h t. h }
  longest-is (suc n) w = go (P (take (suc n) w)) refl (longest-is n w)
    where
      go : (b : Bool) → P (take (suc n) w) ≡ b → Longest P n w (longest_front P n w) → Longest P (suc n) w (cond b (take (suc n) w) (longest_front P n w))
      go true e l = record { size = suc n; within = omega arith; is-take = refl; passes = λ h. rw e tt; most = λ j p h t. h }
      go false e l = record { size = l.size; within = omega (arith, l.within); is-take = l.is-take; passes = l.passes; most = λ j p h t. below j p h t (ℕ_discrete j (suc n)) }
        where
          below : (j : ℕ) → 0 < j → j ≤ suc n → T (P (take j w)) → Dec (j ≡ suc n) → j ≤ l.size
          below j p h t (yes q) = absurd (rw (q, e) at t)
          below j p h t (no q) = l.most j p (omega arith) t

  pub Longest-unique : {n : ℕ} {w q q' : List ℕ} → Longest P n w q → Longest P n w q' → q ≡ q'
  Longest-unique {n} {w} l k = cc (l.is-take, k.is-take, sizes)
    where
      at_most : {a b : List ℕ} (x : Longest P n w a) (y : Longest P n w b) → Dec (0 < x.size) → x.size ≤ y.size
      at_most x y (yes p) = y.most x.size p x.within (x.passes p)
      at_most x y (no p) = omega arith

      sizes : l.size ≡ k.size
      sizes = omega (arith, at_most l k (dec_lt 0 l.size), at_most k l (dec_lt 0 k.size))

  -- The front parts of the longest part are those of w that are empty or pass, within the bound.
  pub is_prefix→longest : (n : ℕ) (r w : List ℕ) → length r ≤ n → (0 < length r → T (P r)) → T (is_prefix r w) → T (is_prefix r (longest_front P n w))
  is_prefix→longest n r w h f t = go (dec_lt 0 (length r))
    where
      l : Longest P n w (longest_front P n w)
      l = longest-is n w

      front : take (length r) w ≡ r
      front =
          let p = is_prefix→append r w t in
          rw (p.1, take-append_seam)

      go : Dec (0 < length r) → T (is_prefix r (longest_front P n w))
      go (yes p) = rw (l.is-take, is_prefix-take r l.size w (l.most (length r) p h (rw front (f p)))) t
      go (no p) = rw (l.is-take, is_prefix-take r l.size w (omega arith)) t

  pub longest→is_prefix : (n : ℕ) (r w : List ℕ) → T (is_prefix r (longest_front P n w)) → T (is_prefix r w)
  longest→is_prefix n r w t =
      let l = longest-is n w in
      let p : T (is_prefix r (take l.size w)) = rw l.is-take at t in
      let a = is_prefix→append r (take l.size w) p in
      let h : length r ≤ l.size = omega (arith, simp (length-append, length-take) at (ap length a.1)) in
      rw (is_prefix-take r l.size w h) at p

  module _ (closed : (v : ℕ) (q : List ℕ) → 0 < length q → T (P (v ∷ q)) → T (P q)) where
    -- Where dropping the front vertex of a passing list leaves one that passes, the longest part of v ∷ w is found from v and the longest part of w alone.
    pub longest_cons : (n v : ℕ) (w : List ℕ) → n ≤ length w → longest_front P (suc n) (v ∷ w) ≡ longest_front P (suc (length (longest_front P n w))) (v ∷ longest_front P n w)
    longest_cons n v w h =
        Longest-unique (longest-is (suc n) (v ∷ w)) from_part ∙ sym (ap (λ (q : List ℕ). longest_front P (suc (length q)) (v ∷ q)) l.is-take ∙ rw (length-take-le m w (omega (arith, l.within))))
      where
        l : Longest P n w (longest_front P n w)
        l = longest-is n w

        m : ℕ
        m = l.size

        k : Longest P (suc m) (v ∷ take m w) (longest_front P (suc m) (v ∷ take m w))
        k = longest-is (suc m) (v ∷ take m w)

        cut : (j : ℕ) → j ≤ suc m → take j (v ∷ take m w) ≡ take j (v ∷ w)
        cut j i = take-take j (suc m) (v ∷ w) i

        most : (j : ℕ) → 0 < j → j ≤ suc n → T (P (take j (v ∷ w))) → j ≤ suc m
        most zero p i t = omega arith
        most (suc zero) p i t = omega arith
        most (suc (suc j)) p i t =
            let nonempty : 0 < length (take (suc j) w) = rw (length-take-le (suc j) w (omega arith)) (omega arith) in
            omega (arith, l.most (suc j) (omega arith) (omega arith) (closed v (take (suc j) w) nonempty t))

        from_part : Longest P (suc n) (v ∷ w) (longest_front P (suc m) (v ∷ take m w))
        from_part = record {
          size = k.size;
          within = omega (arith, l.within, k.within);
          is-take = k.is-take ∙ cut k.size k.within;
          passes = λ p. rw (cut k.size k.within) at (k.passes p);
          most = λ j p i t. k.most j p (most j p i t) (rw (cut j (most j p i t)) t);
        }
