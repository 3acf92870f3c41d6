-- The laws of what specs/Fields.antt defines.
use Prim.Native.Nat.{ℕ, zero, suc, ◌+◌, ◌≤◌, ◌<◌}
use Rattle.std.specs.Prelude
use Rattle.std.specs.Prelude.{◌≡◌, Bool, not, ◌&&◌, ◌||◌, ◌↔◌, eqb, leb, length, Some, None}
use Rattle.std.proofs.Math.Path.{refl, ap}
use Rattle.std.proofs.Common.{sym, ap₂, subst, ◌∙◌, true≢false, inl, inr, arith, lt-ltb, ltb-true, eqb-true, eq-eqb, ne_eqb}
use Rattle.std.proofs.Math.Bool.{true, false, cond}
use Rattle.std.proofs.lemmas.Bool.{false≢true, not-true}
use Rattle.std.proofs.lemmas.Bool.Decides.{Decides-or}
use mathlib.Core.List.{List, [], ◌∷◌, Memᴰ}
use Rattle.std.proofs.Math.Option.{Option, none, some}
use Rattle.std.proofs.Math.Dec.{ltb}
use Rattle.limits.specs.Limits.{most_vertices, most_sets, most_paths, longest_path}
use Rattle.lists.specs.Test.{and-true, or_false}
use Rattle.walks.specs.Graph.{Arc}
use Rattle.book.specs.declared.Kind.{Kind}
use Rattle.book.specs.declared.Kind.TheVariants.{VertexCount, Path}
use Rattle.book.specs.declared.Refusal.{Refusal}
use Rattle.book.specs.Refusal.{numbered, first_failure}
use Rattle.book.specs.Book.{Book, IsArc, blank, all_paths, given, proper_arc}
use Rattle.book.proofs.BookLaws.{is-arc, arc-passes, vertices-below, below-vertices, given_cons, not-zero}
use Rattle.book.specs.Reading.{Reading, accepted, refused, reading, and_then, outcome, fields, field, extended, kind_at, length_at, end_at, count_at, arc_at, window_at, path_at, follows, fits, proper, seasonal, fresh, room, count_tests, with_arc}
use Rattle.book_bytes.proofs.Adding.{edges-are}
use Rattle.rules.proofs.Sets.{refuted}
use Rattle.book.specs.declared.Arc.{Arc as Listed}
use Rattle.listed.specs.Listing.{arc_of, items as list_items, counted, listing}
use Rattle.content.specs.Content.{Item, an_arc, a_set, a_path, cut, items, item_tests, add_item, with_items, content}
use Rattle.demands.specs.Conditions.{HasNumber, Decides}
use Rattle.demands.proofs.Conditions.{one-refusal, first-none, first_some, le_iff, lt_iff, eq_iff, and-iff, zero_one}
use Rattle.demands.specs.Fields.{Follows, Fits, Proper, Seasonal, New, Fresh, HasRoom, field_conditions, BadField, bad_field, good-field, BadBook, count_conditions, item_conditions, grown, BadItem, bad_item, good_item, counted_book, BadFrom, BadContent, listed_items, BadList, field_tests}

-- ---- each test
nothing-asked : (true ≡ true) ↔ Unit {0}
nothing-asked = (λ _. tt, λ _. refl)

never : (false ≡ true) ↔ ⊥
never = (false≢true, λ x. absurd x)

pos_iff : (n : ℕ) → (not (eqb n 0) ≡ true) ↔ (0 < n)
pos_iff n = (not-zero n, λ l. ap not (ne_eqb n 0 (omega arith)))

not_iff : {A : Type 0} (x : Bool) → (x ≡ false) ↔ A → (not x ≡ true) ↔ A
not_iff x a = (λ e. a.0 (not-true x e), λ h. ap not (a.1 h))

follows-iff : (k : Prelude.Option Kind) (b : Book) → (follows b.count (length b.sets) k ≡ true) ↔ Follows k b
follows-iff (Some VertexCount) b = eq_iff b.count 0
follows-iff (Some Kind.Arc) b = and-iff (not (eqb b.count 0)) (eqb (length b.sets) 0) (pos_iff b.count) (eq_iff (length b.sets) 0)
follows-iff (Some Kind.RuleSet) b = pos_iff b.count
follows-iff (Some Path) b = pos_iff (length b.sets)
follows-iff None b = never

fits_iff : (k : Prelude.Option Kind) (n : ℕ) → (fits k n ≡ true) ↔ Fits k n
fits_iff (Some VertexCount) n = eq_iff n 1
fits_iff (Some Kind.Arc) n = eq_iff n 6
fits_iff (Some Kind.RuleSet) n = Decides-or (eqb n 2) (eqb n 6) (eq_iff n 2) (eq_iff n 6)
fits_iff (Some Path) n = and-iff (leb 2 n) (leb n longest_path) (le_iff 2 n) (le_iff n longest_path)
fits_iff None n = never

arc-iff : (n : ℕ) (a : Arc) → (proper_arc n a ≡ true) ↔ IsArc n a
arc-iff n a = (is-arc n a, arc-passes n a)

proper-iff : (k : Prelude.Option Kind) (s : List ℕ) (b : Book) (at : ℕ) → (proper k s b at ≡ true) ↔ Proper k s b at
proper-iff (Some VertexCount) s b at = and-iff (leb 1 (count_at s at)) (leb (count_at s at) most_vertices) (le_iff 1 (count_at s at)) (le_iff (count_at s at) most_vertices)
proper-iff (Some Kind.Arc) s b at = arc-iff b.count (arc_at s at)
proper-iff (Some Kind.RuleSet) s b at = nothing-asked
proper-iff (Some Path) s b at = (vertices-below b.count (path_at s at), below-vertices b.count (path_at s at))
proper-iff None s b at = nothing-asked

seasonal-iff : (k : Prelude.Option Kind) (s : List ℕ) (at : ℕ) → (seasonal k s at ≡ true) ↔ Seasonal k s at
seasonal-iff (Some VertexCount) s at = nothing-asked
seasonal-iff (Some Kind.Arc) s at = nothing-asked
seasonal-iff (Some Kind.RuleSet) s at = edges-are (window_at s at)
seasonal-iff (Some Path) s at = nothing-asked
seasonal-iff None s at = nothing-asked

new-iff : (arcs : List Arc) (a : Arc) → (given arcs a.tail a.head ≡ false) ↔ New arcs a
new-iff arcs a = (λ e before m. to m e, from arcs)
  where
    same : Arc → Bool
    same c = eqb c.tail a.tail && eqb c.head a.head

    to : {before : Arc} {xs : List Arc} → Memᴰ before xs → given xs a.tail a.head ≡ false → before.tail ≡ a.tail → before.head ≡ a.head → ⊥
    to {before} (Memᴰ.head {x = c} {xs = xs} is) e t h =
        let here : same before ≡ false = ap same is ∙ (or_false (same c) (given xs a.tail a.head) (sym (given_cons c xs a.tail a.head) ∙ e)).0 in
        true≢false (sym (ap₂ ◌&&◌ (eq-eqb _ _ t) (eq-eqb _ _ h)) ∙ here)
    to (Memᴰ.tail {x = c} {xs = xs} m) e t h = to m (or_false (same c) (given xs a.tail a.head) (sym (given_cons c xs a.tail a.head) ∙ e)).1 t h

    from : (xs : List Arc) → New xs a → given xs a.tail a.head ≡ false
    from [] new = refl
    from (c ∷ xs) new =
        let other : same c ≡ false = refuted (same c) (λ e. let (t, h) = and-true (eqb c.tail a.tail) (eqb c.head a.head) e in new c (Memᴰ.head refl) (eqb-true _ _ t) (eqb-true _ _ h)) in
        given_cons c xs a.tail a.head ∙ ap₂ ◌||◌ other (from xs (λ before m. new before (Memᴰ.tail m)))

fresh-iff : (k : Prelude.Option Kind) (s : List ℕ) (b : Book) (at : ℕ) → (fresh k s b at ≡ true) ↔ Fresh k s b at
fresh-iff (Some VertexCount) s b at = nothing-asked
fresh-iff (Some Kind.Arc) s b at = not_iff (given b.arcs (arc_at s at).tail (arc_at s at).head) (new-iff b.arcs (arc_at s at))
fresh-iff (Some Kind.RuleSet) s b at = nothing-asked
fresh-iff (Some Path) s b at = nothing-asked
fresh-iff None s b at = nothing-asked

room-iff : (k : Prelude.Option Kind) (b : Book) → (room k b ≡ true) ↔ HasRoom k b
room-iff (Some VertexCount) b = nothing-asked
room-iff (Some Kind.Arc) b = nothing-asked
room-iff (Some Kind.RuleSet) b = lt_iff (length b.sets) most_sets
room-iff (Some Path) b = lt_iff (length (all_paths b.sets)) most_paths
room-iff None b = nothing-asked

field-decides : (s : List ℕ) (b : Book) (at : ℕ) → Decides at (field_tests s b at) (field_conditions s b at)
field-decides s b at =
    let k = kind_at s at in (
      le_iff (at + 3) (length s),
      (refl, refl),
      λ _. (
        follows-iff k b,
        (refl, refl),
        λ _. (
          fits_iff k (length_at s at),
          (refl, refl),
          λ _. (
            le_iff (end_at s at) (length s),
            (refl, refl),
            λ _. (
              proper-iff k s b at,
              (refl, refl),
              λ _. (seasonal-iff k s at, (refl, refl), λ _. (fresh-iff k s b at, (refl, refl), λ _. (room-iff k b, (refl, refl), λ _. tt))),
            ),
          ),
        ),
      ),
    )

module _ (s : List ℕ) (x : Refusal) where
  to_bad : (turns : ℕ) (b : Book) (at : ℕ) → fields turns s b at ≡ refused x → BadField s b at x
  unfolding fields
  to_bad zero b at e = zero_one (cc)
  to_bad (suc turns) b at e = inside (ltb at (length s)) refl e (to_bad turns)
    where
      inside : (t : Bool) → ltb at (length s) ≡ t → cond t (and_then (field s b at) (λ b'. fields turns s b' (end_at s at))) (accepted b) ≡ refused x
          → ((b' : Book) (at' : ℕ) → fields turns s b' at' ≡ refused x → BadField s b' at' x) → BadField s b at x
      inside false l e ih = zero_one (cc)
      inside true l e ih = by (first_failure (field_tests s b at)) refl e
        where
          by : (o : Option Refusal) → first_failure (field_tests s b at) ≡ o → and_then (outcome o (extended (kind_at s at) s b at)) (λ b'. fields turns s b' (end_at s at)) ≡ refused x → BadField s b at x
          by none f e = good-field (ltb-true _ _ l) ((first-none at (field_tests s b at) (field_conditions s b at) (field-decides s b at)).0 f) (ih _ _ e)
          by (some y) f e = let same : y ≡ x = cc in bad_field (ltb-true _ _ l) ((first_some at (field_tests s b at) (field_conditions s b at) x (field-decides s b at)).0 (f ∙ ap some same))

  from_bad : (turns : ℕ) {b : Book} {at : ℕ} → BadField s b at x → length s ≤ at + turns → fields turns s b at ≡ refused x
  unfolding fields
  from_bad zero (bad_field l f) enough = absurd (omega arith)
  from_bad zero (good-field l h rest) enough = absurd (omega arith)
  from_bad (suc turns) (bad_field {b = b} {at = at} l f) enough =
      ap (λ t. cond t (and_then (field s b at) (λ b'. fields turns s b' (end_at s at))) (accepted b)) (lt-ltb at (length s) l)
      ∙ ap (λ o. and_then (outcome o (extended (kind_at s at) s b at)) (λ b'. fields turns s b' (end_at s at))) ((first_some at (field_tests s b at) (field_conditions s b at) x (field-decides s b at)).1 f)
  from_bad (suc turns) (good-field {b = b} {at = at} l h rest) enough =
      ap (λ t. cond t (and_then (field s b at) (λ b'. fields turns s b' (end_at s at))) (accepted b)) (lt-ltb at (length s) l)
      ∙ ap (λ o. and_then (outcome o (extended (kind_at s at) s b at)) (λ b'. fields turns s b' (end_at s at))) ((first-none at (field_tests s b at) (field_conditions s b at) (field-decides s b at)).1 h)
      ∙ from_bad turns rest (omega arith)

nothing_in_none : {b : Book} {at : ℕ} {x : Refusal} → BadField [] b at x → ⊥
nothing_in_none (bad_field l f) = omega arith
nothing_in_none (good-field l h rest) = omega arith

-- Reading is refused under x exactly for a bad book.
pub bad_book : (s : List ℕ) (x : Refusal) → (reading s ≡ refused x) ↔ BadBook s x
unfolding reading
bad_book [] x = (λ e. let same : numbered 1 0 ≡ x = cc in inl (refl, subst (λ (y : Refusal). HasNumber y 1 0) same (refl, refl)), from)
  where
    from : BadBook [] x → refused (numbered 1 0) ≡ refused x
    from (inl (_, has)) = let same : numbered 1 0 ≡ x = one-refusal {n = 1} {at = 0} (refl, refl) has in ap refused same
    from (inr f) = absurd (nothing_in_none f)
bad_book (c ∷ s) x = (λ e. inr (to_bad (c ∷ s) x (length (c ∷ s)) blank 0 e), from)
  where
    from : BadBook (c ∷ s) x → fields (length (c ∷ s)) (c ∷ s) blank 0 ≡ refused x
    from (inl (e, _)) = zero_one (cc)
    from (inr f) = from_bad (c ∷ s) x (length (c ∷ s)) f (omega arith)

-- ---- a content
item_decides : (i : ℕ) (b : Book) (y : Item) → Decides i (item_tests b i y) (item_conditions b y)
item_decides i b (an_arc a) = (arc-iff b.count a, (refl, refl), λ _. (not_iff (given b.arcs a.tail a.head) (new-iff b.arcs a), (refl, refl), λ _. tt))
item_decides i b (a_set f) =
    (lt_iff f.flags 65536, (refl, refl), λ _. (edges-are f.window, (refl, refl), λ _. (lt_iff (length b.sets) most_sets, (refl, refl), λ _. tt)))
item_decides i b (a_path p) = (
  and-iff (leb 2 (length p)) (leb (length p) longest_path) (le_iff 2 (length p)) (le_iff (length p) longest_path),
  (refl, refl),
  λ _. (
    (vertices-below b.count p, below-vertices b.count p),
    (refl, refl),
    λ _. (lt_iff (length (all_paths b.sets)) most_paths, (refl, refl), λ _. tt),
  ),
)
item_decides i b cut = (never, (refl, refl), λ _. tt)

pub count-decides : (n : ℕ) → Decides 0 (count_tests 0 n) (count_conditions n)
count-decides n = (and-iff (leb 1 n) (leb n most_vertices) (le_iff 1 n) (le_iff n most_vertices), (refl, refl), λ _. tt)

grown-is : (b : Book) (y : Item) → grown b y ≡ add_item b y
grown-is b (an_arc a) = refl
grown-is b (a_set f) = refl
grown-is b (a_path p) = refl
grown-is b cut = refl

module _ (x : Refusal) where
  to_bad_item : (i : ℕ) (xs : List Item) (b : Book) → with_items i xs b ≡ refused x → BadItem i xs b x
  unfolding with_items
  to_bad_item i [] b e = zero_one (cc)
  to_bad_item i (y ∷ xs) b e = by (first_failure (item_tests b i y)) refl e (to_bad_item (suc i) xs)
    where
      by : (o : Option Refusal) → first_failure (item_tests b i y) ≡ o → and_then (outcome o (add_item b y)) (with_items (suc i) xs) ≡ refused x
          → ((b' : Book) → with_items (suc i) xs b' ≡ refused x → BadItem (suc i) xs b' x) → BadItem i (y ∷ xs) b x
      by none f e ih =
          good_item ((first-none i (item_tests b i y) (item_conditions b y) (item_decides i b y)).0 f)
          (subst (λ c. BadItem (suc i) xs c x) (sym (grown-is b y)) (ih (add_item b y) e))
      by (some z) f e ih = let same : z ≡ x = cc in bad_item ((first_some i (item_tests b i y) (item_conditions b y) x (item_decides i b y)).0 (f ∙ ap some same))

  from_bad_item : {i : ℕ} {xs : List Item} {b : Book} → BadItem i xs b x → with_items i xs b ≡ refused x
  unfolding with_items
  from_bad_item (bad_item {i = i} {y = y} {xs = xs} {b = b} f) =
      ap (λ o. and_then (outcome o (add_item b y)) (with_items (suc i) xs)) ((first_some i (item_tests b i y) (item_conditions b y) x (item_decides i b y)).1 f)
  from_bad_item (good_item {i = i} {y = y} {xs = xs} {b = b} h rest) =
      ap (λ o. and_then (outcome o (add_item b y)) (with_items (suc i) xs)) ((first-none i (item_tests b i y) (item_conditions b y) (item_decides i b y)).1 h)
      ∙ ap (with_items (suc i) xs) (sym (grown-is b y))
      ∙ from_bad_item rest

-- A count and items are refused under x exactly for a bad count or a bad item.
bad_from : (i n : ℕ) (xs : List Item) (x : Refusal) → (and_then (counted n) (with_items i xs) ≡ refused x) ↔ BadFrom i n xs x
bad_from i n xs x = (λ e. to (first_failure (count_tests 0 n)) refl e, from)
  where
    to : (o : Option Refusal) → first_failure (count_tests 0 n) ≡ o → and_then (outcome o (counted_book n)) (with_items i xs) ≡ refused x → BadFrom i n xs x
    to none f e = inr ((first-none 0 (count_tests 0 n) (count_conditions n) (count-decides n)).0 f, to_bad_item x i xs (counted_book n) e)
    to (some y) f e = let same : y ≡ x = cc in inl ((first_some 0 (count_tests 0 n) (count_conditions n) x (count-decides n)).0 (f ∙ ap some same))

    from : BadFrom i n xs x → and_then (counted n) (with_items i xs) ≡ refused x
    from (inl f) = ap (λ o. and_then (outcome o (counted_book n)) (with_items i xs)) ((first_some 0 (count_tests 0 n) (count_conditions n) x (count-decides n)).1 f)
    from (inr (h, rest)) =
        ap (λ o. and_then (outcome o (counted_book n)) (with_items i xs)) ((first-none 0 (count_tests 0 n) (count_conditions n) (count-decides n)).1 h) ∙ from_bad_item x rest

pub bad_content : (n : ℕ) (arcs sets : List ℕ) (x : Refusal) → (content n arcs sets ≡ refused x) ↔ BadContent n arcs sets x
bad_content n arcs sets x = bad_from 1 n (items arcs sets) x

-- ---- a list
and-then-same : (r : Reading) (f g : Book → Reading) → ((b : Book) → f b ≡ g b) → and_then r f ≡ and_then r g
and-then-same (accepted b) f g same = same b
and-then-same (refused y) f g same = refl

-- Arcs as a list are arcs among a content's items.
list_as_items : (i : ℕ) (xs : List Listed) (b : Book) → list_items i xs b ≡ with_items i (listed_items xs) b
unfolding list_items with_items
list_as_items i [] b = refl
list_as_items i (a ∷ xs) b = and-then-same (with_arc b i (arc_of a)) (list_items (suc i) xs) (with_items (suc i) (listed_items xs)) (list_as_items (suc i) xs)

-- A list is refused under x exactly for a bad count or a bad item.
pub bad_list : (n : ℕ) (xs : List Listed) (x : Refusal) → (listing n xs ≡ refused x) ↔ BadList n xs x
bad_list n xs x =
    subst (λ r. (r ≡ refused x) ↔ BadList n xs x)
    (sym (and-then-same (counted n) (list_items 0 xs) (with_items 0 (listed_items xs)) (list_as_items 0 xs)))
    (bad_from 0 n (listed_items xs) x)
