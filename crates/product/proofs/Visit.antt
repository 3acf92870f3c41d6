-- A loop over the vertices of a word takes each of them, lowest first; and so, over the open vertices of a state, each of its edges.
use Rattle.std.specs.Prelude.{Bool, true, false, ◌&&◌, List, [], ◌∷◌, ◌++◌, ◌≡◌, refl, ℕ, zero, suc, ◌-◌, ◌<◌, ◌≤◌, leb, ltb, bit_and}
use Rattle.std.proofs.Common.{sym, ap, ◌∙◌, arith, append-nil, le-leb, leb-true, ltb-true}
use Rattle.std.proofs.Math.Bool.{and-true}
use Rattle.std.proofs.Math.Dec.{leb-zero}
use Rattle.std.proofs.Math.Decide.{ℕ_discrete}
use Rattle.std.proofs.Math.Logic.{by_cases}
use Rattle.std.proofs.lemmas.Nat.{and_le_r}
use Rattle.std.specs.Int.Count.{count_trailing_zeros}
use Rattle.lists.specs.Test as Test
use Rattle.product.specs.Product.{is_open, edge_over, edges_from}
use Rattle.product.specs.Word.{word, Lowest}
use Rattle.product.specs.Visit.{Ahead}
use Rattle.product.proofs.Word.{word-same, word-lowest, word-none, word-some, word-cleared}

passed : (p : ℕ → Bool) (next u : ℕ) → next ≤ u → p u && leb next u ≡ false → p u ≡ false
passed p next u h e = sym (and-true (p u)) ∙ ap (λ x. p u && x) (sym (le-leb next u h)) ∙ e

narrower : (a x y : Bool) → (y ≡ true → x ≡ true) → (a && x) && y ≡ a && y
narrower false x y f = refl
narrower true true y f = refl
narrower true false true f = f refl
narrower true false false f = refl

lowest-left : (p : ℕ → Bool) (n next : ℕ) {left : ℕ} → n ≤ 64 → left ≡ word (λ u. p u && leb next u) n → 0 < left
    → (count_trailing_zeros 64 left < n) × Lowest (λ u. p u && leb next u) (count_trailing_zeros 64 left)
lowest-left p n next few e some =
    let (v, below, passes) = word-some (λ u. p u && leb next u) n (rw e at some) in
    let (low, l) = word-lowest 64 (λ u. p u && leb next u) n v few below passes in
    rw e (omega arith, l)

module _ {p : ℕ → Bool} {n : ℕ} where
  pub ahead-all : {left : ℕ} → left ≡ word p n → Ahead p n 0 left
  ahead-all e = record { next_le = omega arith; left-is = e ∙ word-same _ _ n (λ u b. sym (ap (λ x. p u && x) (leb-zero u) ∙ and-true (p u))) }

  -- Where no vertex is left, none from `next` on passes.
  pub ahead-done : {next : ℕ} → Ahead p n next 0 → (u : ℕ) → next ≤ u → u < n → p u ≡ false
  ahead-done {next} a u h b = passed p next u h (word-none (λ u. p u && leb next u) n (sym a.left-is) u b)

  -- One turn: v is the next vertex that passes, and those after it are left.
  pub ahead-next : {next left : ℕ} → n ≤ 64 → Ahead p n next left → 0 < left
      → let v = count_trailing_zeros 64 left in (next ≤ v) × (v < n) × (p v ≡ true) × ((u : ℕ) → next ≤ u → u < v → p u ≡ false) × Ahead p n (suc v) (bit_and left (left - 1)) × (bit_and left (left - 1) < left)
  ahead-next {next} {left} few a some =
      let v = count_trailing_zeros 64 left in
      let (below, l) = lowest-left p n next few a.left-is some in
      let (passes, after) = Test.and-true (p v) (leb next v) l.passes in
      let from : next ≤ v = leb-true next v after in (
        from,
        below,
        passes,
        λ u h b. passed p next u h (l.none_below u b),
        record {
          next_le = below;
          left-is = ap (λ x. bit_and x (x - 1)) a.left-is ∙ word-cleared (λ u. p u && leb next u) n v below l
              ∙ word-same _ _ n (λ u b. narrower (p u) (leb next u) (ltb v u) (λ t. le-leb next u (omega (arith, ltb-true v u t))));
        },
        omega (arith, and_le_r left (left - 1)),
      )

module _ (weights steps blockeds latests : List ℕ) (q : ℕ) where
  -- No edge is over vertices that are not open.
  pub edges-skip : (next v : ℕ) → next ≤ v → ((u : ℕ) → next ≤ u → u < v → is_open weights steps blockeds latests q u ≡ false)
      → edges_from weights steps blockeds latests q v ≡ edges_from weights steps blockeds latests q next
  unfolding edges_from
  edges-skip next zero h shut = let same : 0 ≡ next = omega arith in ap (edges_from weights steps blockeds latests q) same
  edges-skip next (suc v) h shut =
      by_cases (ℕ_discrete next (suc v)) (λ same. ap (edges_from weights steps blockeds latests q) (sym same))
      (λ other. rw (shut v (omega arith) (omega arith), append-nil) (edges-skip next v (omega arith) (λ u a b. shut u a (omega arith))))

  pub edges-take : (v : ℕ) → is_open weights steps blockeds latests q v ≡ true
      → edges_from weights steps blockeds latests q (suc v) ≡ edges_from weights steps blockeds latests q v ++ (edge_over weights steps blockeds latests q v ∷ [])
  unfolding edges_from
  edges-take v o = rw o

  module _ {n next : ℕ} where
    -- One turn takes the next edge.
    pub visited-next : {left : ℕ} → n ≤ 64 → Ahead (is_open weights steps blockeds latests q) n next left → 0 < left
        → let v = count_trailing_zeros 64 left in edges_from weights steps blockeds latests q (suc v) ≡ edges_from weights steps blockeds latests q next ++ (edge_over weights steps blockeds latests q v ∷ [])
    visited-next {left} few a some =
        let v = count_trailing_zeros 64 left in
        let (from, below, o, shut, rest, less) = ahead-next few a some in
        edges-take v o ∙ ap (λ es. es ++ (edge_over weights steps blockeds latests q v ∷ [])) (edges-skip next v from shut)

    -- Where no vertex is left, all edges are taken.
    pub visited-all : Ahead (is_open weights steps blockeds latests q) n next 0 → edges_from weights steps blockeds latests q n ≡ edges_from weights steps blockeds latests q next
    visited-all a = edges-skip next n a.next_le (ahead-done a)
