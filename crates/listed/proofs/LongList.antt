-- No greatest length of the list is needed: where every well-formed book has fewer than k arcs, one of the first k items of a longer
use Prim.Native.Nat.{ℕ, zero, suc, ◌+◌, ◌≤◌, ◌<◌}
use Rattle.std.specs.Prelude.{◌≡◌, Bool, not, ◌&&◌, leb, length, take}
use Rattle.std.proofs.Math.Path.{refl}
use Rattle.std.proofs.Math.Bool.{true, false}
use mathlib.Core.List.{List, [], ◌∷◌}
use Rattle.std.proofs.Common.{arith, leb-true}
use Rattle.std.proofs.Math.ListN.{length-append}
use Rattle.limits.specs.Limits.{most_vertices}
use Rattle.lists.specs.Test.{and-true}
use Rattle.book.specs.Refusal.{test_at, first_failure}
use Rattle.book.specs.Book.{Book, WellFormed, given, proper_arc}
use Rattle.book.proofs.BookLaws.{arc-well_formed}
use Rattle.book.specs.Reading.{and_then, outcome, add_arc}
use Rattle.book.specs.declared.Arc.{Arc as Item}
use Rattle.listed.specs.Listing.{arc_of, items, listing}
use Rattle.listed.specs.StandingLaws.{empty}
use Rattle.listed.proofs.StandingLaws.{empty-well_formed}

module _ (k : ℕ) (fewer : (b : Book) → WellFormed b → length b.arcs < k) where
  front : (m i : ℕ) (xs : List Item) (b : Book) → WellFormed b → k ≤ length b.arcs + m → items i (take m xs) b ≡ items i xs b
  unfolding items
  front zero i xs b w enough = absurd (omega (arith, fewer b w))
  front (suc m) i [] b w enough = refl
  front (suc m) i (x ∷ xs) b w enough =
      go (proper_arc b.count (arc_of x)) (given b.arcs x.tail x.head) refl refl
      (λ w'. front m (suc i) xs (add_arc b (arc_of x)) w' (omega (arith, length-append b.arcs (arc_of x ∷ []))))
    where
      go : (p q : Bool) → proper_arc b.count (arc_of x) ≡ p → given b.arcs x.tail x.head ≡ q
          → (WellFormed (add_arc b (arc_of x)) → items (suc i) (take m xs) (add_arc b (arc_of x)) ≡ items (suc i) xs (add_arc b (arc_of x)))
          → let after = outcome (first_failure (test_at i 4 p ∷ test_at i 5 (not q) ∷ [])) (add_arc b (arc_of x)) in
          and_then after (items (suc i) (take m xs)) ≡ and_then after (items (suc i) xs)
      go false q e f rest = refl
      go true true e f rest = refl
      go true false e f rest = rest (arc-well_formed (arc_of x) b w e f)

  pub first-items : (n : ℕ) (xs : List Item) → listing n (take k xs) ≡ listing n xs
  first-items n xs = go _ (leb 1 n && leb n most_vertices) refl
    where
      go : (i : ℕ) (x : Bool) → leb 1 n && leb n most_vertices ≡ x
          → let after = outcome (first_failure (test_at 0 4 x ∷ [])) (empty n) in and_then after (items i (take k xs)) ≡ and_then after (items i xs)
      go i false e = refl
      go i true e =
          let limits = and-true (leb 1 n) (leb n most_vertices) e in
          front k i xs (empty n) (empty-well_formed n (leb-true _ _ limits.0) (leb-true _ _ limits.1)) (omega arith)
