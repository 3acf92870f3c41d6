-- The wrong road of 01: one best way per vertex. With book A and both runs, whoever goes on to 3 from the best way to some vertex
-- loses 500 or more. The plan, at 450 (`Sums.marks-3`), goes on from another way to 2.
use Rattle.std.specs.Prelude.{Bool, true, false, cond, ◌&&◌, List, [], ◌∷◌, ◌++◌, ◌⊎◌, ◌≡◌, refl, ℕ, suc, ◌≤◌, T, eqb, get_or}
use Rattle.std.proofs.Math.Option.{none, some}
use Rattle.std.proofs.Common.{inl, inr, ⊎_elim, sym, ap, subst, ◌∙◌, arith, eqb-true, lit≤, length-append}
use Rattle.std.proofs.Math.ListN.{get_or-append}
use Rattle.std.proofs.Math.Seq.{get_or-append_seam}
use Rattle.walks.specs.Graph.{is_some, is_arc}
use Rattle.walks.specs.Walk.{weight_of, hops}
use Rattle.walks.proofs.Walk.{hops-length}
use Rattle.walks.specs.Avoid.{avoids}
use Rattle.walks.proofs.Avoid.{Avoids→avoids}
use Rattle.walks.specs.Best.{Feasible, Best}
use Rattle.walks.proofs.Best.{Best-unique}
use Rattle.examples.specs.GraphA.{book_a, forbidden_a}
use Rattle.examples.specs.Walks.{best-to-1, best-to-2}

-- arcs to 3 come from 1 and 2 alone
into-3 : (u : ℕ) → T (is_arc book_a u 3) → (u ≡ 1) ⊎ (u ≡ 2)
into-3 u t = go (eqb 0 u) (eqb 1 u) (eqb 2 u) refl refl t
  where
    go : (from-0 from-1 from-2 : Bool) → eqb 1 u ≡ from-1 → eqb 2 u ≡ from-2
        → T (is_some {A = ℕ}
        (cond (from-0 && false) (some 100)
        (cond (from-1 && false) (some 100)
        (cond (from-2 && true) (some 100) (cond (from-0 && false) (some 250) (cond (from-2 && false) (some 50) (cond (from-1 && true) (some 400) none)))))))
        → (u ≡ 1) ⊎ (u ≡ 2)
    go from-0 true from-2 e f t = inl (sym (eqb-true 1 u e))
    go from-0 false true e f t = inr (sym (eqb-true 2 u f))
    go true false false e f t = absurd t
    go false false false e f t = absurd t

last-arc : (u : ℕ) (p : List ℕ) → Feasible book_a forbidden_a 0 u p → Feasible book_a forbidden_a 0 3 (p ++ (3 ∷ [])) → T (is_arc book_a u 3)
last-arc u p f whole =
    let size = hops-length p f.walk in
    let more = length-append p (3 ∷ []) in
    let here : get_or (p ++ (3 ∷ [])) (hops p) 0 ≡ u = get_or-append p (3 ∷ []) 0 (hops p) (omega arith) ∙ f.ends in
    let next : get_or (p ++ (3 ∷ [])) (suc (hops p)) 0 ≡ 3 = ap (λ i. get_or (p ++ (3 ∷ [])) i 0) size ∙ get_or-append_seam p 3 [] 0 in
    rw (here, next) at (whole.walk.arcs (hops p) (omega arith))

pub one_way_per_vertex : (u : ℕ) (p : List ℕ) → Best book_a forbidden_a 0 u p → Feasible book_a forbidden_a 0 3 (p ++ (3 ∷ [])) → 500 ≤ weight_of book_a (p ++ (3 ∷ []))
one_way_per_vertex u p best whole = ⊎_elim by-1 by_2 (into-3 u (last-arc u p best.feasible whole))
  where
    by-1 : u ≡ 1 → 500 ≤ weight_of book_a (p ++ (3 ∷ []))
    by-1 e =
        let is : p ≡ 0 ∷ 1 ∷ [] = Best-unique (subst (λ v. Best book_a forbidden_a 0 v p) e best) best-to-1.best in
        subst (λ q. 500 ≤ weight_of book_a (q ++ (3 ∷ []))) (sym is) (lit≤ tt)

    by_2 : u ≡ 2 → 500 ≤ weight_of book_a (p ++ (3 ∷ []))
    by_2 e =
        let is : p ≡ 0 ∷ 1 ∷ 2 ∷ [] = Best-unique (subst (λ v. Best book_a forbidden_a 0 v p) e best) best-to-2.best in
        absurd (subst (λ q. T (avoids forbidden_a (q ++ (3 ∷ [])))) is (Avoids→avoids forbidden_a (p ++ (3 ∷ [])) whole.clear))
