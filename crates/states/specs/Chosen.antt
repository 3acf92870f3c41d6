-- The best walk as a function: the least of the feasible walks with at most 1,600 vertices. It is for statements: nothing computes it.
use Rattle.std.specs.Prelude.{Bool, true, false, cond, ◌⊎◌, ◌≡◌, ℕ, zero, suc, ◌+◌, ◌<◌, ◌≤◌, length}
use mathlib.Core.List.Memᴰ
use mathlib.Core.List.{List, [], ◌∷◌, ◌++◌, map, Memᴰ}
use Rattle.std.proofs.Common.{inl, inr, ⊎_elim}
use Rattle.std.proofs.Math.Option.{Option, none, some}
use Rattle.std.proofs.Math.Path.{refl}
use Rattle.std.proofs.Math.Dec.{T}
use Rattle.lists.specs.Distinct.{Distinct}
use Rattle.walks.specs.Graph.{Graph}
use Rattle.walks.specs.Walk.{weight_from}
use Rattle.walks.specs.Order.{◌≼⟨◌⟩◌}
use Rattle.walks.proofs.Order.{≼_refl, ≼_trans, ≼-total}
use Rattle.walks.specs.Best.{Feasible, Best, None}
use Rattle.walks.specs.Feasible.{is_feasible}
use Rattle.states.specs.States.{latest}
use Rattle.states.specs.Follow.{Follows}
use Rattle.limits.specs.Limits.{longest}
use Rattle.states.specs.Short.{trace}

-- ---- every feasible walk has a short one that does not come after it
-- From state q: d is c, or has fewer hops and does not weigh more.
abbrev pub NoDearer : Graph → List ℕ → List ℕ → List ℕ → Type 0
NoDearer g q d c = (d ≡ c) ⊎ ((length d < length c) × (weight_from g (latest q) d ≤ weight_from g (latest q) c))

-- d goes on from q to t as c does, is no dearer, and comes to no state twice.
pub record Shortened (g : Graph) (F : List (List ℕ)) (t : ℕ) (q c d : List ℕ) : Type 0 where
  pub follows : Follows g F t q d
  pub distinct : Distinct (trace F q d)
  pub no_dearer : NoDearer g q d c

-- v is a feasible walk of at most k vertices that does not come after w.
pub record ShortFeasible (g : Graph) (F : List (List ℕ)) (s t k : ℕ) (w v : List ℕ) : Type 0 where
  pub feasible : Feasible g F s t v
  pub short : length v ≤ k
  pub before : v ≼⟨ g ⟩ w

-- ---- all lists of at most k numbers below n
-- The lists that begin with a number below n and go on as a list of L.
unfoldable pub headed : ℕ → List (List ℕ) → List (List ℕ)
headed zero L = []
headed (suc n) L = map (λ l. n ∷ l) L ++ headed n L

unfoldable pub lists_of : ℕ → ℕ → List (List ℕ)
lists_of n zero = [] ∷ []
lists_of n (suc k) = [] ∷ headed n (lists_of n k)

-- ---- the least, in the order of walks, of the lists of L that pass the test p
module _ (g : Graph) where
  abbrev pub lesser : List ℕ → Option (List ℕ) → Option (List ℕ)
  lesser v none = some v
  lesser v (some w) = ⊎_elim (λ x. some v) (λ x. some w) (≼-total g v w)

  module _ (p : List ℕ → Bool) where
    unfoldable pub least_of : List (List ℕ) → Option (List ℕ)
    least_of [] = none
    least_of (v ∷ L) = cond (p v) (lesser v (least_of L)) (least_of L)

    -- o is the least of those, none where there is none.
    abbrev pub IsLeastOf : List (List ℕ) → Option (List ℕ) → Type 0
    IsLeastOf L none = (v : List ℕ) → Memᴰ v L → T (p v) → ⊥
    IsLeastOf L (some w) = T (p w) × ((v : List ℕ) → Memᴰ v L → T (p v) → w ≼⟨ g ⟩ v)

    pub least_of-is : (L : List (List ℕ)) → IsLeastOf L (least_of L)
    unfolding least_of
    least_of-is [] = λ v m x. Memᴰ.not-nil m
    least_of-is (u ∷ L) = step (p u) refl (least_of L) (least_of-is L)
      where
        pick : (w : List ℕ) → T (p u) → IsLeastOf L (some w) → (x : (u ≼⟨ g ⟩ w) ⊎ (w ≼⟨ g ⟩ u)) → IsLeastOf (u ∷ L) (⊎_elim (λ x. some u) (λ x. some w) x)
        pick w t h (inl a) = (t, least)
          where
            least : (v : List ℕ) → Memᴰ v (u ∷ L) → T (p v) → u ≼⟨ g ⟩ v
            least v (Memᴰ.head e) x = rw e (≼_refl g u)
            least v (Memᴰ.tail m) x = ≼_trans g u w v a (h.1 v m x)
        pick w t h (inr a) = (h.0, least)
          where
            least : (v : List ℕ) → Memᴰ v (u ∷ L) → T (p v) → w ≼⟨ g ⟩ v
            least v (Memᴰ.head e) x = rw e a
            least v (Memᴰ.tail m) x = h.1 v m x

        step : (b : Bool) → p u ≡ b → (o : Option (List ℕ)) → IsLeastOf L o → IsLeastOf (u ∷ L) (cond b (lesser u o) o)
        step true e (some w) h = pick w (rw e tt) h (≼-total g u w)
        step true e none h = (rw e tt, least)
          where
            least : (v : List ℕ) → Memᴰ v (u ∷ L) → T (p v) → u ≼⟨ g ⟩ v
            least v (Memᴰ.head e') x = rw e' (≼_refl g u)
            least v (Memᴰ.tail m) x = absurd (h v m x)
        step false e (some w) h = (h.0, least)
          where
            least : (v : List ℕ) → Memᴰ v (u ∷ L) → T (p v) → w ≼⟨ g ⟩ v
            least v (Memᴰ.head e') x = absurd (rw (e', e) at x)
            least v (Memᴰ.tail m) x = h.1 v m x
        step false e none h = least
          where
            least : (v : List ℕ) → Memᴰ v (u ∷ L) → T (p v) → ⊥
            least v (Memᴰ.head e') x = absurd (rw (e', e) at x)
            least v (Memᴰ.tail m) x = h v m x

-- ---- the best walk
-- The least feasible walk with at most 1,600 vertices, none where there is none.
unfoldable pub chosen : Graph → List (List ℕ) → ℕ → ℕ → Option (List ℕ)
chosen g F s t = least_of g (is_feasible g F s t) (lists_of g.count longest)

-- The right answer of planning (01: the plan, which has at most 1,600 grades, or none).
abbrev pub Decided : Graph → List (List ℕ) → ℕ → ℕ → Option (List ℕ) → Type 0
Decided g F s t none = None g F s t
Decided g F s t (some w) = Best g F s t w × (length w ≤ longest)
