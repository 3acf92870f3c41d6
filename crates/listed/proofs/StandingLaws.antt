-- The laws of what specs/StandingLaws.antt defines.
use Rattle.std.specs.Prelude.{ℕ, suc, ◌+◌, ◌≤◌, ◌<◌, ◌≡◌, refl, Bool, true, false, cond, not, ◌&&◌, List, [], leb, length, get_or, drop, replicate, Result, Ok, Err}
use Rattle.std.proofs.Common.{sym, ap, ap₂, subst, ◌∙◌, add-one, arith, leb-true, le-leb, drop_of_length-le, drop-cons}
use Rattle.std.proofs.lemmas.Bool.{lt-leb}
use Rattle.std.proofs.Math.Option.{none, some}
use Rattle.lists.specs.Test.{and-true}
use Rattle.walks.specs.Graph.{Arc}
use Rattle.book.specs.declared.Refusal.{Refusal}
use Rattle.book.specs.declared.Refusal.TheVariants.{Value, Repeated}
use Rattle.book.specs.Book.{Book, WellFormed, all_paths, given, proper_arc}
use Rattle.book.proofs.BookLaws.{arc-well_formed}
use Rattle.book.specs.Reading.{Reading, accepted, refused, and_then, outcome, verdict_of, add_arc, with_arc, kept}
use Rattle.book.specs.Tables.{IsGraph, Enters, entered, weight_table}
use Rattle.limits.specs.Limits.{pairs, no_arc, most_vertices}
use Rattle.book.specs.declared.Arc.{Arc as Item}
use Rattle.planner.specs.Planning.{Answer, PlanningOf}
use Rattle.listed.specs.Listing.{arc_of, counted, items, listing}
use Rattle.listed.specs.Standing.{Table, Stands}
use Rattle.listed.specs.StandingLaws.{empty, Going}

pub empty-well_formed : (n : ℕ) → 1 ≤ n → n ≤ most_vertices → WellFormed (empty n)
unfolding all_paths
empty-well_formed n low high =
    record { few-vertices = high; counted = λ _. low; arcs-proper = tt; pairs-once = tt; few-sets = omega arith; few-paths = omega arith; paths-proper = tt }

no_arcs : weight_table [] ≡ replicate pairs no_arc
unfolding entered
no_arcs = refl

counted-table : (n : ℕ) (t : List ℕ) → t ≡ replicate pairs no_arc → Table n (counted n) t
counted-table n t blank = go (leb 1 n && leb n most_vertices) refl
  where
    go : (x : Bool) → leb 1 n && leb n most_vertices ≡ x → Table n (outcome (cond x none (some (Value 0))) (empty n)) t
    go true e =
        let limits = and-true (leb 1 n) (leb n most_vertices) e in
        record { well = empty-well_formed n (leb-true _ _ limits.0) (leb-true _ _ limits.1); vertices_are = refl; weights_are = blank ∙ sym no_arcs }
    go false e = tt

-- A count that a book can have, or 4 at 0.
counted-by : (n : ℕ) → (x : Bool) → leb 1 n && leb n most_vertices ≡ x → verdict_of (counted n) ≡ verdict_of (outcome (cond x none (some (Value 0))) (empty n))
counted-by n x e = ap (λ y. verdict_of (outcome (cond y none (some (Value 0))) (empty n))) e

pub no_vertex : (n : ℕ) → n < 1 → Err (Value 0) ≡ verdict_of (counted n)
no_vertex n low = sym (counted-by n false (ap (λ x. x && leb n most_vertices) (lt-leb 1 n low)))

pub many_vertices : (n : ℕ) → 1 ≤ n → most_vertices < n → Err (Value 0) ≡ verdict_of (counted n)
many_vertices n low high = sym (counted-by n false (ap₂ (λ x y. x && y) (le-leb 1 n low) (lt-leb n most_vertices high)))

pub few-vertices : (n : ℕ) → 1 ≤ n → n ≤ most_vertices → Ok tt ≡ verdict_of (counted n)
few-vertices n low high = sym (counted-by n true (ap₂ (λ x y. x && y) (le-leb 1 n low) (le-leb n most_vertices high)))

-- ---- one item
pub item_stands : (n : ℕ) (b : Book) (t : List ℕ) → IsGraph b n t → (i : ℕ) (a : Arc) (v : Result (Unit {0}) Refusal) (t' : List ℕ) → Enters b i a v t' → Stands n (with_arc b i a) v t'
item_stands n b t h i a v t' enters =
    record { verdict-is = enters.0; table = go (proper_arc b.count a) (given b.arcs a.tail a.head) refl refl enters.1 }
  where
    go : (x y : Bool) → proper_arc b.count a ≡ x → given b.arcs a.tail a.head ≡ y
        → let after = outcome (cond x (cond (not y) none (some (Repeated i))) (some (Value i))) (add_arc b a) in
        t' ≡ weight_table (kept b after).arcs → Table n after t'
    go false y p q e = tt
    go true true p q e = tt
    go true false p q e = record { well = arc-well_formed a b h.well p q; vertices_are = h.vertices_are; weights_are = e }

-- ---- the list
-- a refusal ends it
pub ends_there : (n : ℕ) (x : Reading) (next : Book → Reading) (r : Refusal) (t : List ℕ) → Err r ≡ verdict_of x → Stands n (and_then x next) (Err r) t
ends_there n (accepted b) next r t e = cc
ends_there n (refused q) next r t e = record { verdict-is = e; table = tt }

-- a good verdict goes on with a book
pub good_book : (n : ℕ) (x : Reading) (t : List ℕ) → Stands n x (Ok tt) t → (b : Book) × (x ≡ accepted b) × IsGraph b n t
good_book n (accepted b) t s = (b, refl, s.table)
good_book n (refused q) t s = let e = s.verdict-is in cc

-- while items are entered, those so far are a book's
pub going_book : (n : ℕ) (xs : List Item) (i : ℕ) (t : List ℕ) → Going n xs i t → (b : Book) × IsGraph b n t
going_book n xs i t g = (g.so_far, g.table)

pub going_first : (n : ℕ) (xs : List Item) (t : List ℕ) → Ok tt ≡ verdict_of (counted n) → t ≡ replicate pairs no_arc → Going n xs 0 t
going_first n xs t is blank =
    let (b, read, table) = good_book n (counted n) t (record { verdict-is = is; table = counted-table n t blank }) in
    record { so_far = b; table = table; rest-is = ap (λ x. and_then x (items 0 xs)) (sym read) }

-- an item is entered, and then those after it
next-item : (xs : List Item) (i : ℕ) (d : Item) (b : Book) → i < length xs
    → items i (drop i xs) b ≡ and_then (with_arc b i (arc_of (get_or xs i d))) (items (suc i) (drop (suc i) xs))
unfolding items
next-item xs i d b h = ap (λ l. items i l b) (drop-cons xs i d h)

module _ (n : ℕ) (xs : List Item) (i : ℕ) (d : Item) (h : i < length xs) (t : List ℕ) (g : Going n xs i t) where
  pub going_on : (t' : List ℕ) → Stands n (with_arc g.so_far i (arc_of (get_or xs i d))) (Ok tt) t' → Going n xs (i + 1) t'
  going_on t' s =
      let (b, read, table) = good_book n (with_arc g.so_far i (arc_of (get_or xs i d))) t' s in
      subst (λ k. Going n xs k t') (sym (add-one i))
      (record {
        so_far = b;
        table = table;
        rest-is = ap (λ x. and_then x (items (suc i) (drop (suc i) xs))) (sym read) ∙ sym (next-item xs i d g.so_far h) ∙ g.rest-is;
      })

  pub going_off : (r : Refusal) (t' : List ℕ) → Stands n (with_arc g.so_far i (arc_of (get_or xs i d))) (Err r) t' → Stands n (listing n xs) (Err r) t'
  going_off r t' s =
      subst (λ x. Stands n x (Err r) t') (sym (next-item xs i d g.so_far h) ∙ g.rest-is)
      (ends_there n (with_arc g.so_far i (arc_of (get_or xs i d))) (items (suc i) (drop (suc i) xs)) r t' s.verdict-is)

no_items : (i : ℕ) (b : Book) → items i [] b ≡ accepted b
unfolding items
no_items i b = refl

pub going_last : (n : ℕ) (xs : List Item) (i : ℕ) (t : List ℕ) → length xs ≤ i → Going n xs i t → Stands n (listing n xs) (Ok tt) t
going_last n xs i t left g =
    subst (λ x. Stands n x (Ok tt) t) (sym (no_items i g.so_far) ∙ ap (λ l. items i l g.so_far) (sym (drop_of_length-le xs {i = i} left)) ∙ g.rest-is)
    (record { verdict-is = refl; table = g.table })

-- ---- planning takes a good verdict's book, and hands a refusal on
module _ (paths : List ℕ) (count start end : ℕ) (old : List ℕ) where
  pub plans-book : (n : ℕ) (x : Reading) (t : List ℕ) (r : Answer) (new : List ℕ)
      → ((b : Book) → IsGraph b n t → PlanningOf (accepted b) paths count start end old r new)
      → Stands n x (Ok tt) t → PlanningOf x paths count start end old r new
  plans-book n x t r new plans s =
      let (b, read, table) = good_book n x t s in
      subst (λ y. PlanningOf y paths count start end old r new) (sym read) (plans b table)

  pub plans-none : (n : ℕ) (x : Reading) (t : List ℕ) (y : Refusal) → Stands n x (Err y) t → PlanningOf x paths count start end old (Err y) old
  plans-none n (accepted b) t y s = let e = s.verdict-is in cc
  plans-none n (refused x) t y s = let e = s.verdict-is in let same : x ≡ y = cc in (ap Err (sym same), refl)
