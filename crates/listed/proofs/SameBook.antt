-- The laws of what specs/SameBook.antt defines.
use Rattle.std.specs.Prelude.{ℕ, suc, ◌≡◌, true, cond, ◌&&◌, leb}
use Rattle.std.proofs.Common.{sym, ap, ap₂, subst, ◌∙◌, le-leb}
use mathlib.Core.List.{List, [], ◌∷◌, ◌++◌, append_assoc, append-nil, Permᴰ}
use Rattle.std.proofs.Math.Option.{none, some}
use Rattle.limits.specs.Limits.{most_vertices}
use Rattle.book.specs.declared.Refusal.TheVariants.{Value}
use Rattle.book.specs.Refusal.{refusal_by}
use Rattle.book.specs.Book.{Book, All, IsArc, PairsOnce, graph}
use Rattle.book.proofs.BookLaws.{reading-is-book, arc-taken, not-before}
use Rattle.book.specs.Reading.{accepted, and_then, outcome, reading, add_arc}
use Rattle.rules.specs.Area.{spelled}
use Rattle.planner.specs.Planning.{plan_tests, Answer, Planned, PlanningOf, Planning}
use Rattle.planner.proofs.RuleSets.{planned-same}
use Rattle.book.specs.declared.Arc.{Arc as Item}
use Rattle.listed.specs.Listing.{arc_of, items, listing}
use Rattle.book.proofs.Reordered.{all_reordered, pairs_reordered, graph_reordered}
use Rattle.listed.specs.SameBook.{arcs_of, more}

good-items : (b : Book) (i : ℕ) (xs : List Item) → All (IsArc b.count) (arcs_of xs) → PairsOnce (b.arcs ++ arcs_of xs)
    → items i xs b ≡ accepted (more b (arcs_of xs))
unfolding items
good-items b i [] proper once = ap (λ l. accepted (record { count = b.count; arcs = l; sets = b.sets })) (sym (append-nil b.arcs))
good-items b i (x ∷ xs) proper once =
    let joined : (b.arcs ++ (arc_of x ∷ [])) ++ arcs_of xs ≡ b.arcs ++ (arc_of x ∷ arcs_of xs) = append_assoc b.arcs (arc_of x ∷ []) (arcs_of xs) in
    ap (λ r. and_then r (items (suc i) xs)) (arc-taken b i (arc_of x) proper.0 (not-before b.arcs (arc_of x) (arcs_of xs) once))
    ∙ good-items (add_arc b (arc_of x)) (suc i) xs proper.1 (subst PairsOnce (sym joined) once)
    ∙ ap (λ l. accepted (record { count = b.count; arcs = l; sets = b.sets })) joined

-- A list of a book's arcs, in any order, reads as a book of these arcs without rule sets.
pub listed-book : (s : List ℕ) (b : Book) → reading s ≡ accepted b → (xs : List Item) → Permᴰ b.arcs (arcs_of xs)
    → listing b.count xs ≡ accepted (record { count = b.count; arcs = arcs_of xs; sets = [] })
listed-book s b read xs same =
    let is = reading-is-book s b read in
    let limits : leb 1 b.count && leb b.count most_vertices ≡ true = ap₂ ◌&&◌ (le-leb _ _ is.some-vertex) (le-leb _ _ is.well_formed.few-vertices) in
    ap (λ x. and_then (outcome (cond x none (some (Value 0))) (record { count = b.count; arcs = []; sets = [] })) (items 0 xs)) limits
    ∙ good-items (record { count = b.count; arcs = []; sets = [] }) 0 xs
    (all_reordered (IsArc b.count) same is.well_formed.arcs-proper) (pairs_reordered same is.well_formed.pairs-once)

-- Planning from a list is planning from a book of the same count and arcs, whatever their order and whatever its rule sets.
pub from-book : (s : List ℕ) (b : Book) → reading s ≡ accepted b → (n : ℕ) (xs : List Item) → n ≡ b.count → Permᴰ b.arcs (arcs_of xs)
    → (paths : List ℕ) (count start end : ℕ) (old : List ℕ) (r : Answer) (new : List ℕ)
    → PlanningOf (listing n xs) paths count start end old r new → Planning s paths count start end old r new
from-book s b read n xs n-is same paths count start end old r new p =
    let q : PlanningOf (accepted (record { count = b.count; arcs = arcs_of xs; sets = [] })) paths count start end old r new =
    subst (λ x. PlanningOf x paths count start end old r new) (ap (λ k. listing k xs) n-is ∙ listed-book s b read xs same) p in
    subst (λ x. PlanningOf x paths count start end old r new) (sym read)
    (subst (λ g. Planned (refusal_by (plan_tests paths count start end old b)) g (spelled count paths) start end old r new)
    (sym (graph_reordered same (reading-is-book s b read).well_formed.pairs-once b.count)) q)

-- Under the same runs area the two have equal answers and equal bytes.
pub same-plan : (s : List ℕ) (b : Book) → reading s ≡ accepted b → (n : ℕ) (xs : List Item) → n ≡ b.count → Permᴰ b.arcs (arcs_of xs)
    → (paths : List ℕ) (count start end : ℕ) (old : List ℕ) (r r' : Answer) (new new' : List ℕ)
    → PlanningOf (listing n xs) paths count start end old r new → Planning s paths count start end old r' new' → (r ≡ r') × (new ≡ new')
same-plan s b read n xs n-is same paths count start end old r r' new new' p p' =
    let in-book : (r : Answer) (new : List ℕ) → Planning s paths count start end old r new → PlanningOf (accepted b) paths count start end old r new =
    λ r new q. subst (λ x. PlanningOf x paths count start end old r new) read q in
    planned-same (refusal_by (plan_tests paths count start end old b)) (graph b) (spelled count paths) (spelled count paths) (λ _ _ a. a) (λ _ _ a. a) start end old r r' new new'
    (in-book r new (from-book s b read n xs n-is same paths count start end old r new p)) (in-book r' new' p')
