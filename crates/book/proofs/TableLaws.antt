-- The laws of what specs/TableLaws.antt defines.
use Prim.Native.Nat.{ℕ, ◌+◌, ◌*◌, ◌≤◌, ◌<◌}
use Rattle.std.specs.Prelude.{◌≡◌, Bool, cond, ◌&&◌, length, set, replicate}
use Rattle.std.proofs.Math.Path.{refl, sym, ap}
use Rattle.std.proofs.Common.{ap₂, ◌∙◌, true≢false, arith, get_or-set_other}
use Rattle.std.proofs.Math.Bool.{true, false}
use mathlib.Core.List.{List, [], ◌∷◌, ◌++◌}
use Rattle.std.proofs.Math.Option
use Rattle.std.proofs.Math.Option.{Option, none, some}
use borrow.Author.Tests.{eqb-true, eq-eqb}
use Rattle.std.proofs.Math.Dec.{eqb}
use Rattle.std.proofs.Math.ListN.{get_or, length-set}
use Rattle.std.proofs.lemmas.List.{length-replicate, get_or-replicate}
use Rattle.std.proofs.Math.Seq.{get_or-set_same}
use Rattle.walks.specs.Graph.{Arc, is_some, weight_in}
use Rattle.walks.specs.Weights.{Weights}
use Rattle.lists.specs.Test.{and-true}
use Rattle.book.specs.Book.{Book, All, IsArc, PairsOnce, WellFormed, graph, given}
use Rattle.book.proofs.BookLaws.{all_map}
use Rattle.book.specs.Tables.{entered, weight_table}
use Rattle.limits.specs.Limits.{no_arc, most_vertices, pairs}
use Rattle.book.specs.TableLaws.{Found}

pub found : (P : Arc → Type 0) (xs : List Arc) (u v x : ℕ) → All P xs → weight_in xs u v ≡ some x → Found P u v x
found P [] u v x h e = absurd (cc)
found P (a ∷ xs) u v x h e = go (eqb a.tail u && eqb a.head v) refl e (found P xs u v x h.1)
  where
    go : (y : Bool) → eqb a.tail u && eqb a.head v ≡ y → cond y (some a.weight) (weight_in xs u v) ≡ some x
        → (weight_in xs u v ≡ some x → Found P u v x) → Found P u v x
    go true p q later =
        let here = and-true (eqb a.tail u) (eqb a.head v) p in
        record { arc = a; holds = h.0; tail-is = eqb-true _ _ here.0; head-is = eqb-true _ _ here.1; weight_is = cc }
    go false p q later = later q

-- one more arc
pub entered-arc : (t : List ℕ) (xs : List Arc) (a : Arc) → entered t (xs ++ (a ∷ [])) ≡ set (entered t xs) (a.tail * most_vertices + a.head) a.weight
unfolding entered
entered-arc t [] a = refl
entered-arc t (x ∷ xs) a = entered-arc (set t (x.tail * most_vertices + x.head) x.weight) xs a

nothing : (o : Option ℕ) → is_some o ≡ false → o ≡ none
nothing none e = refl
nothing (some x) e = absurd (true≢false e)

module _ (u v : ℕ) (v-fits : v < most_vertices) where
  -- two pairs with one index are one pair
  other_index : (a : Arc) → a.head < most_vertices → eqb a.tail u && eqb a.head v ≡ false → u * most_vertices + v ≡ a.tail * most_vertices + a.head → ⊥
  other_index a head-fits ne e =
      let tail-is : a.tail ≡ u = omega arith in
      let head-is : a.head ≡ v = omega arith in
      let both : eqb a.tail u && eqb a.head v ≡ true = rw (eq-eqb _ _ tail-is, eq-eqb _ _ head-is) in
      true≢false (sym both ∙ ne)

  -- the entry of a pair after arcs have been entered
  entered_at : (t : List ℕ) (xs : List Arc) → pairs ≤ length t → All (λ a. (a.tail < most_vertices) × (a.head < most_vertices)) xs → PairsOnce xs
      → get_or (entered t xs) (u * most_vertices + v) 0 ≡ Option.get_or (weight_in xs u v) (get_or t (u * most_vertices + v) 0)
  unfolding entered
  entered_at t [] room fit once = refl
  entered_at t (a ∷ xs) room fit once =
      let index : ℕ = a.tail * most_vertices + a.head in
      entered_at (set t index a.weight) xs (rw length-set room) fit.1 once.1 ∙ go (eqb a.tail u && eqb a.head v) refl
    where
      go : (y : Bool) → eqb a.tail u && eqb a.head v ≡ y
          → Option.get_or (weight_in xs u v) (get_or (set t (a.tail * most_vertices + a.head) a.weight) (u * most_vertices + v) 0)
          ≡ Option.get_or (cond y (some a.weight) (weight_in xs u v)) (get_or t (u * most_vertices + v) 0)
      go true p =
          let here = and-true (eqb a.tail u) (eqb a.head v) p in
          let tail-is = eqb-true a.tail u here.0 in
          let head-is = eqb-true a.head v here.1 in
          let index_is : u * most_vertices + v ≡ a.tail * most_vertices + a.head = omega (arith, tail-is, head-is) in
          let free : given xs u v ≡ false = sym (ap₂ (given xs) tail-is head-is) ∙ once.0 in
          ap (λ o. Option.get_or o (get_or (set t (a.tail * most_vertices + a.head) a.weight) (u * most_vertices + v) 0)) (nothing (weight_in xs u v) free)
          ∙ ap (λ i. get_or (set t (a.tail * most_vertices + a.head) a.weight) i 0) index_is
          ∙ get_or-set_same t (a.tail * most_vertices + a.head) a.weight 0 (omega (arith, fit.0.0, fit.0.1))
      go false p = ap (Option.get_or (weight_in xs u v)) (get_or-set_other t _ _ a.weight 0 (other_index a fit.0.1 p))

-- The table of weights has the weight of each arc at its pair, and the mark elsewhere.
module _ (b : Book) (w : WellFormed b) (u v : ℕ) (u-fits : u < most_vertices) (v-fits : v < most_vertices) where
  pub table-weight : get_or (weight_table b.arcs) (u * most_vertices + v) 0 ≡ Option.get_or (weight_in b.arcs u v) no_arc
  table-weight =
      entered_at u v v-fits (replicate pairs no_arc) b.arcs (omega (arith, length-replicate pairs no_arc))
      (all_map (λ a h. (omega (arith, h.tail-below, w.few-vertices), omega (arith, h.head-below, w.few-vertices))) b.arcs w.arcs-proper)
      w.pairs-once
      ∙ ap (Option.get_or (weight_in b.arcs u v)) (get_or-replicate pairs (u * most_vertices + v) no_arc 0 (omega arith))

  -- A pair is marked exactly if it has not been given.
  pub marked→free : get_or (weight_table b.arcs) (u * most_vertices + v) 0 ≡ no_arc → given b.arcs u v ≡ false
  marked→free e = go (weight_in b.arcs u v) refl (sym table-weight ∙ e)
    where
      go : (o : Option ℕ) → weight_in b.arcs u v ≡ o → Option.get_or o no_arc ≡ no_arc → is_some o ≡ false
      go none p q = refl
      go (some x) p q =
          let f = found (IsArc b.count) b.arcs u v x w.arcs-proper p in
          absurd (omega (arith, f.holds.light, f.weight_is))

  pub unmarked→given : (get_or (weight_table b.arcs) (u * most_vertices + v) 0 ≡ no_arc → ⊥) → given b.arcs u v ≡ true
  unmarked→given ne = go (weight_in b.arcs u v) (λ e. ne (table-weight ∙ e))
    where
      go : (o : Option ℕ) → (Option.get_or o no_arc ≡ no_arc → ⊥) → is_some o ≡ true
      go none h = absurd (h refl)
      go (some x) h = refl

pub book-weights : (b : Book) → WellFormed b → Weights (graph b) (weight_table b.arcs)
book-weights b w = record {
  few = w.few-vertices;
  entry = λ u v h k. table-weight b w u v (omega (arith, w.few-vertices)) (omega (arith, w.few-vertices));
  light = λ u v x e. let f = found (IsArc b.count) b.arcs u v x w.arcs-proper e in omega (arith, f.holds.light, f.weight_is);
}
