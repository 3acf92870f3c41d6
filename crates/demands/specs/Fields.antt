-- 01, 'Who can cause a refusal', of the book's maker: 1 to 6, and 14 of 02, in words, field by field. 'The first bad field decides', and 'refusals 1 to 6 carry the
-- byte at which the field starts', as 14 does. Likewise, with the item's index, of the items of a content (02, order 6): 3, 4, 14, 5, 6; and of a list of arcs: 4, 5. And
-- that reading decides just this.
use Prim.Native.Nat.{ℕ, suc, ◌+◌, ◌≤◌, ◌<◌}
use Rattle.std.specs.Prelude.{◌≡◌, ◌⊎◌, map, length, Option, Some, None}
use mathlib.Core.List.{List, [], ◌∷◌, ◌++◌, Memᴰ}
use Rattle.limits.specs.Limits.{most_vertices, most_sets, most_paths, longest_path}
use Rattle.dates.specs.declared.Window.{Window}
use Rattle.dates.specs.Calendar.{IsWindow}
use Rattle.walks.specs.Graph.{Arc}
use Rattle.book.specs.declared.Kind.{Kind}
use Rattle.book.specs.declared.Kind.TheVariants.{VertexCount, Path}
use Rattle.book.specs.declared.Refusal.{Refusal}
use Rattle.book.specs.Refusal.{Test}
use Rattle.book.specs.Book.{Book, All, IsArc, blank, all_paths}
use Rattle.book.specs.Reading.{framing, content, extended, kind_at, length_at, end_at, count_at, arc_at, window_at, path_at, add_path}
use Rattle.book.specs.declared.Arc.{Arc as Listed}
use Rattle.listed.specs.Listing.{arc_of}
use Rattle.content.specs.Content.{Item, an_arc, a_set, a_path, cut, items}
use Rattle.demands.specs.Conditions.{Condition, asks, AllHold, HasNumber, FirstFails}

-- ---- the conditions of a field, after the book b that the fields before it make
-- 2: a known tag, where the order lets it stand: the count once and first, then arcs, then rule sets, each followed by its paths.
abbrev pub Follows : Option Kind → Book → Type 0
Follows (Some VertexCount) b = b.count ≡ 0
Follows (Some Kind.Arc) b = (0 < b.count) × (length b.sets ≡ 0)
Follows (Some Kind.RuleSet) b = 0 < b.count
Follows (Some Path) b = 0 < length b.sets
Follows None b = ⊥

-- 3: a length that its tag has.
abbrev pub Fits : Option Kind → ℕ → Type 0
Fits (Some VertexCount) n = n ≡ 1
Fits (Some Kind.Arc) n = n ≡ 6
Fits (Some Kind.RuleSet) n = (n ≡ 2) ⊎ (n ≡ 6)
Fits (Some Path) n = (2 ≤ n) × (n ≤ longest_path)
Fits None n = ⊥

-- 4: a count of 1 to 64; two different vertices below the count, and at most 1,000,000; a path of vertices below the count.
abbrev pub Proper : Option Kind → List ℕ → Book → ℕ → Type 0
Proper (Some VertexCount) s b at = (1 ≤ count_at s at) × (count_at s at ≤ most_vertices)
Proper (Some Kind.Arc) s b at = IsArc b.count (arc_at s at)
Proper (Some Kind.RuleSet) s b at = Unit {0}
Proper (Some Path) s b at = All (λ v. v < b.count) (path_at s at)
Proper None s b at = Unit {0}

-- 14: the edges of a rule set's window, if it has one, are days that some year has.
abbrev pub Seasonal : Option Kind → List ℕ → ℕ → Type 0
Seasonal (Some VertexCount) s at = Unit {0}
Seasonal (Some Kind.Arc) s at = Unit {0}
Seasonal (Some Kind.RuleSet) s at = (w : Window) → window_at s at ≡ Some w → IsWindow w
Seasonal (Some Path) s at = Unit {0}
Seasonal None s at = Unit {0}

-- 5: no arc of that tail and head before it.
abbrev pub New : List Arc → Arc → Type 0
New arcs a = (before : Arc) → Memᴰ before arcs → before.tail ≡ a.tail → before.head ≡ a.head → ⊥

abbrev pub Fresh : Option Kind → List ℕ → Book → ℕ → Type 0
Fresh (Some VertexCount) s b at = Unit {0}
Fresh (Some Kind.Arc) s b at = New b.arcs (arc_at s at)
Fresh (Some Kind.RuleSet) s b at = Unit {0}
Fresh (Some Path) s b at = Unit {0}
Fresh None s b at = Unit {0}

-- 6: not the 17th rule set, nor the 257th path.
abbrev pub HasRoom : Option Kind → Book → Type 0
HasRoom (Some VertexCount) b = Unit {0}
HasRoom (Some Kind.Arc) b = Unit {0}
HasRoom (Some Kind.RuleSet) b = length b.sets < most_sets
HasRoom (Some Path) b = length (all_paths b.sets) < most_paths
HasRoom None b = Unit {0}

-- 01: 'Within a field: 1 for the head, 2, 3, 1 for the body, 4, 5, 6.' 02: 14 'in the place of 4'.
abbrev pub field_conditions : List ℕ → Book → ℕ → List Condition
field_conditions s b at =
    asks 1 (at + 3 ≤ length s)
    ∷ asks 2 (Follows (kind_at s at) b)
    ∷ asks 3 (Fits (kind_at s at) (length_at s at))
    ∷ asks 1 (end_at s at ≤ length s)
    ∷ asks 4 (Proper (kind_at s at) s b at)
    ∷ asks 14 (Seasonal (kind_at s at) s at)
    ∷ asks 5 (Fresh (kind_at s at) s b at)
    ∷ asks 6 (HasRoom (kind_at s at) b)
    ∷ []

-- ---- the statement
-- From a byte on, after a book: a bad field, or a good one and a bad one after it.
pub data BadField (s : List ℕ) : Book → ℕ → Refusal → Type 0 where
  bad_field : {b : Book} {at : ℕ} {x : Refusal} → at < length s → FirstFails at (field_conditions s b at) x → BadField s b at x
  good-field : {b : Book} {at : ℕ} {x : Refusal} → at < length s → AllHold (field_conditions s b at) → BadField s (extended (kind_at s at) s b at) (end_at s at) x → BadField s b at x

-- 'also the empty book, at 0'
abbrev pub BadBook : List ℕ → Refusal → Type 0
BadBook s x = ((s ≡ []) × HasNumber x 1 0) ⊎ BadField s blank 0 x

-- ---- a content
-- 4: a count of 1 to 64.
abbrev pub count_conditions : ℕ → List Condition
count_conditions n = asks 4 ((1 ≤ n) × (n ≤ most_vertices)) ∷ []

-- What is asked of an item, after the book b that the items before it make: of an arc 4 and 5, as of its field; of a rule set 4, flags of 16 bits, 14 and 6; of a path 3
-- ('a run of under 2 or over 8 grades'), 4 and 6. Numbers that end before their item does are 3.
abbrev pub item_conditions : Book → Item → List Condition
item_conditions b (an_arc a) = asks 4 (IsArc b.count a) ∷ asks 5 (New b.arcs a) ∷ []
item_conditions b (a_set f) =
    asks 4 (f.flags < 65536) ∷ asks 14 ((w : Window) → f.window ≡ Some w → IsWindow w) ∷ asks 6 (length b.sets < most_sets) ∷ []
item_conditions b (a_path p) =
    asks 3 ((2 ≤ length p) × (length p ≤ longest_path)) ∷ asks 4 (All (λ v. v < b.count) p) ∷ asks 6 (length (all_paths b.sets) < most_paths) ∷ []
item_conditions b cut = asks 3 ⊥ ∷ []

-- The book with an item more. It is said here, so that what is asked of the next item does not follow how items are taken.
abbrev pub grown : Book → Item → Book
grown b (an_arc a) = record { count = b.count; arcs = b.arcs ++ (a ∷ []); sets = b.sets }
grown b (a_set f) = record { count = b.count; arcs = b.arcs; sets = b.sets ++ (record { needs = f; paths = [] } ∷ []) }
grown b (a_path p) = record { count = b.count; arcs = b.arcs; sets = add_path b.sets p }
grown b cut = b

-- From an index on, after a book: a bad item, or a good one and a bad one after it: 'the first bad item decides'.
pub data BadItem : ℕ → List Item → Book → Refusal → Type 0 where
  bad_item : {i : ℕ} {y : Item} {xs : List Item} {b : Book} {x : Refusal} → FirstFails i (item_conditions b y) x → BadItem i (y ∷ xs) b x
  good_item : {i : ℕ} {y : Item} {xs : List Item} {b : Book} {x : Refusal} → AllHold (item_conditions b y) → BadItem (suc i) xs (grown b y) x → BadItem i (y ∷ xs) b x

abbrev pub counted_book : ℕ → Book
counted_book n = record { count = n; arcs = []; sets = [] }

-- The count, with index 0, comes before any item; then the items, the first of which has index i.
abbrev pub BadFrom : ℕ → ℕ → List Item → Refusal → Type 0
BadFrom i n xs x = FirstFails 0 (count_conditions n) x ⊎ (AllHold (count_conditions n) × BadItem i xs (counted_book n) x)

-- 'Content is checked in the order count, changeovers as given, sheets each followed by its runs, .. with the item's index in that order, the count being 0'.
abbrev pub BadContent : ℕ → List ℕ → List ℕ → Refusal → Type 0
BadContent n arcs sets x = BadFrom 1 n (items arcs sets) x

-- The same of a list of arcs with its count: 'refusals 4 and 5 then give the item's index from 0; a bad count is 4 with index 0, before any item'.
abbrev pub listed_items : List Listed → List Item
listed_items xs = map (λ a. an_arc (arc_of a)) xs

abbrev pub BadList : ℕ → List Listed → Refusal → Type 0
BadList n xs x = BadFrom 0 n (listed_items xs) x

-- ---- a field
abbrev pub field_tests : List ℕ → Book → ℕ → List Test
field_tests s b at = framing s b.count (length b.sets) at ++ content (kind_at s at) s b at
