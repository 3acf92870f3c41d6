-- The laws of what specs/Lacking.antt defines.
use Rattle.std.specs.Prelude.{ℕ, ◌≡◌, Bool, cond, ◌⊎◌}
use Rattle.std.proofs.Math.Path.{refl}
use Rattle.std.proofs.Common.{sym, ◌∙◌, inl, inr}
use Rattle.std.proofs.Math.Bool.{true, false, true≢false}
use mathlib.Core.List.Memᴰ
use mathlib.Core.List.{List, [], ◌∷◌, ◌++◌, Memᴰ}
use Rattle.std.proofs.Math.Logic.{⊎_elim}
use Rattle.lists.specs.Distinct.{Distinct, Dedup}
use Rattle.rules.specs.Binding.{member}
use Rattle.rules.proofs.Sets.{member→Mem, Mem→member}
use Rattle.trial_rules.specs.Lacking.{lacking, together}

in_or_not : (r : List ℕ) (F : List (List ℕ)) → Memᴰ r F ⊎ (Memᴰ r F → ⊥)
in_or_not r F = go (member r F) refl
  where
    go : (b : Bool) → member r F ≡ b → Memᴰ r F ⊎ (Memᴰ r F → ⊥)
    go true e = inl (member→Mem r F e)
    go false e = inr (λ m. true≢false (sym (Mem→member m) ∙ e))

module _ (F : List (List ℕ)) where
  -- A path is lacking exactly if R has it and F does not.
  pub lacking-into : (R : List (List ℕ)) (r : List ℕ) → Memᴰ r R → (Memᴰ r F → ⊥) → Memᴰ r (lacking F R)
  unfolding lacking
  lacking-into [] r m n = m
  lacking-into (q ∷ R) r m n = go (member q (F ++ R)) refl (Memᴰ.cases_cons m) (λ k. lacking-into R r k n)
    where
      go : (b : Bool) → member q (F ++ R) ≡ b → (r ≡ q) ⊎ Memᴰ r R → (Memᴰ r R → Memᴰ r (lacking F R))
          → Memᴰ r (cond b (lacking F R) (q ∷ lacking F R))
      go true e (inl p) rec =
          ⊎_elim (λ k. absurd (n (Memᴰ.cast p k))) (λ k. rec (Memᴰ.cast p k)) (Memᴰ.append_cases F (member→Mem q (F ++ R) e))
      go true e (inr k) rec = rec k
      go false e (inl p) rec = Memᴰ.head p
      go false e (inr k) rec = Memᴰ.tail (rec k)

  pub lacking-from : (R : List (List ℕ)) (r : List ℕ) → Memᴰ r (lacking F R) → Memᴰ r R × (Memᴰ r F → ⊥)
  unfolding lacking
  lacking-from [] r m = absurd (Memᴰ.not-nil m)
  lacking-from (q ∷ R) r m = go (member q (F ++ R)) refl m (lacking-from R r)
    where
      go : (b : Bool) → member q (F ++ R) ≡ b → Memᴰ r (cond b (lacking F R) (q ∷ lacking F R))
          → (Memᴰ r (lacking F R) → Memᴰ r R × (Memᴰ r F → ⊥)) → Memᴰ r (q ∷ R) × (Memᴰ r F → ⊥)
      go true e k rec =
          let h = rec k in
          (Memᴰ.tail h.0, h.1)
      go false e k rec = cases (Memᴰ.cases_cons k)
        where
          cases : (r ≡ q) ⊎ Memᴰ r (lacking F R) → Memᴰ r (q ∷ R) × (Memᴰ r F → ⊥)
          cases (inl p) = (Memᴰ.head p, λ f. true≢false (sym (Mem→member (Memᴰ.append_left R (Memᴰ.cast (sym p) f))) ∙ e))
          cases (inr l) =
              let h = rec l in
              (Memᴰ.tail h.0, h.1)

  pub lacking-distinct : (R : List (List ℕ)) → Distinct (lacking F R)
  unfolding lacking
  lacking-distinct [] = tt
  lacking-distinct (q ∷ R) = go (member q (F ++ R)) refl (lacking-distinct R)
    where
      go : (b : Bool) → member q (F ++ R) ≡ b → Distinct (lacking F R) → Distinct (cond b (lacking F R) (q ∷ lacking F R))
      go true e d = d
      go false e d = (λ m. true≢false (sym (Mem→member (Memᴰ.append_right F (lacking-from R q m).0)) ∙ e), d)

distinct_append : {A : Type 0} (l m : List A) → Distinct l → Distinct m → ((a : A) → Memᴰ a l → Memᴰ a m → ⊥) → Distinct (l ++ m)
distinct_append [] m d e h = e
distinct_append (a ∷ l) m d e h =
    (λ k. ⊎_elim d.0 (h a (Memᴰ.head refl)) (Memᴰ.append_cases l k), distinct_append l m d.1 e (λ b i. h b (Memᴰ.tail i)))

pub distinct_snoc : {A : Type 0} (l : List A) (a : A) → Distinct l → (Memᴰ a l → ⊥) → Distinct (l ++ (a ∷ []))
distinct_snoc l a d n = distinct_append l (a ∷ []) d (Memᴰ.not-nil, tt) (λ b i j. n (Memᴰ.cast (sym (Memᴰ.eq_of_singleton j)) i))

-- `together` has the paths of F and of R, each once.
pub together-is : (F R : List (List ℕ)) → Distinct F → Dedup (F ++ R) (together F R)
together-is F R d =
    record {
      distinct = distinct_append F (lacking F R) d (lacking-distinct F R) (λ r i j. (lacking-from F R r j).1 i);
      into = λ r m. ⊎_elim (Memᴰ.append_left (lacking F R)) (λ k. from-R r k (in_or_not r F)) (Memᴰ.append_cases F m);
      from = λ r m. ⊎_elim (Memᴰ.append_left R) (λ k. Memᴰ.append_right F (lacking-from F R r k).0) (Memᴰ.append_cases F m);
    }
  where
    from-R : (r : List ℕ) → Memᴰ r R → Memᴰ r F ⊎ (Memᴰ r F → ⊥) → Memᴰ r (F ++ lacking F R)
    from-R r k (inl i) = Memᴰ.append_left (lacking F R) i
    from-R r k (inr n) = Memᴰ.append_right F (lacking-into F R r k n)
