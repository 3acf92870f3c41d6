-- Book A's arcs as a list (01), and lists that are refused.
use Rattle.std.specs.Prelude.{ℕ, ◌≤◌, ◌≡◌, refl, List, [], ◌∷◌, ◌++◌, length, drop}
use Rattle.std.proofs.Common.{sym, subst}
use mathlib.Core.List.Permᴰ
use Rattle.book.specs.declared.Refusal.TheVariants.{Value, Repeated}
use Rattle.dates.specs.declared.Date.{Date}
use Rattle.examples.specs.Batches.{marks}
use Rattle.examples.specs.Books.{bytes_a, book_a, book-A}
use Rattle.book.specs.Reading.{accepted, refused}
use Rattle.rules.specs.Operations.{Binding, binding, area_after}
use Rattle.limits.specs.Limits.{longest}
use Rattle.planner.specs.Planning.{PlanningOf, walked}
use Rattle.examples.specs.Plans.{Only, sums}
use Rattle.listed.specs.declared.Arc.{Arc}
use Rattle.listed.specs.Listing.{items, listing}
use Rattle.listed.specs.SameBook.{arcs_of}
use Rattle.listed.proofs.SameBook.{listed-book, from-book}

abbrev arc : ℕ → ℕ → ℕ → Arc
arc tail head weight = record { tail = tail; head = head; weight = weight }

-- book A's first five arcs, and another
abbrev with_last : Arc → List Arc
with_last a = arc 0 1 100 ∷ arc 1 2 100 ∷ arc 2 3 100 ∷ arc 0 2 250 ∷ arc 2 1 50 ∷ a ∷ []

abbrev pub arcs_a : List Arc
arcs_a = with_last (arc 1 3 400)

-- The sum of 01 with marks 3, from the list: under the runs that book A binds, on any date, for every area of 1,600 bytes or more.
pub list_A : (date : Date) (area : List ℕ) (F : List (List ℕ)) → binding bytes_a (marks 3 date) area ≡ Binding.bound F → (old : List ℕ) → longest ≤ length old
    → Only (PlanningOf (listing 4 arcs_a) (area_after (binding bytes_a (marks 3 date) area) area) (length F) 0 3 old) (walked 450 5) ((0 ∷ 1 ∷ 2 ∷ 1 ∷ 2 ∷ 3 ∷ []) ++ drop 6 old)
list_A date area F is old long =
    let after = area_after (binding bytes_a (marks 3 date) area) area in
    let new = (0 ∷ 1 ∷ 2 ∷ 1 ∷ 2 ∷ 3 ∷ []) ++ drop 6 old in
    let given = sums.marks_3 date area F is old long in
    record {
      meets =
          subst (λ x. PlanningOf x after (length F) 0 3 old (walked 450 5) new) (sym (listed-book bytes_a book_a book-A arcs_a (Permᴰ.refl book_a.arcs)))
          (subst (λ x. PlanningOf x after (length F) 0 3 old (walked 450 5) new) book-A given.meets);
      alone = λ r new' p. given.alone r new' (from-book bytes_a book_a book-A 4 arcs_a refl (Permᴰ.refl book_a.arcs) after (length F) 0 3 old r new' p);
    }

-- A bad count is 4 at 0, before any item; 64 is read.
pub no_vertices : listing 0 arcs_a ≡ refused (Value 0)
no_vertices = refl

pub many_vertices : listing 65 (arc 9 9 9 ∷ []) ≡ refused (Value 0)
many_vertices = refl

pub most-vertices : listing 64 [] ≡ accepted (record { count = 64; arcs = []; sets = [] })
unfolding items
most-vertices = refl

-- The first bad item decides: a vertex not below the count, two equal vertices, 1,000,001, and a pair that is repeated; 4 before 5.
pub no_vertex : listing 3 arcs_a ≡ refused (Value 2)
unfolding items
no_vertex = refl

pub same-vertex : listing 4 (with_last (arc 3 3 1)) ≡ refused (Value 5)
unfolding items
same-vertex = refl

pub heavy : listing 4 (with_last (arc 1 3 1000001)) ≡ refused (Value 5)
unfolding items
heavy = refl

pub heaviest : listing 4 (with_last (arc 1 3 1000000)) ≡ accepted (record { count = 4; arcs = arcs_of (with_last (arc 1 3 1000000)); sets = [] })
unfolding items
heaviest = refl

pub repeated : listing 4 (with_last (arc 1 2 7)) ≡ refused (Repeated 5)
unfolding items
repeated = refl

pub repeated-heavy : listing 4 (with_last (arc 1 2 1000001)) ≡ refused (Value 5)
unfolding items
repeated-heavy = refl

-- the reverse of a pair is another pair
pub reverse : listing 4 (with_last (arc 3 2 7)) ≡ accepted (record { count = 4; arcs = arcs_of (with_last (arc 3 2 7)); sets = [] })
unfolding items
reverse = refl
