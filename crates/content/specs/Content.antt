-- A book's content in numbers (02, order 6): what a tool that edits sheets holds of a book. Any numbers are a content, or are refused.
use Rattle.std.specs.Prelude.{ℕ, zero, suc, ◌+◌, ◌-◌, false, cond, List, [], ◌∷◌, ◌++◌, eqb, leb, ltb, length, get_or, take, drop, Option, Some, None}
use Rattle.dates.specs.declared.Window.{Window}
use Rattle.walks.specs.Graph.{Arc}
use Rattle.book.specs.declared.Needs.{Needs}
use Rattle.book.specs.Refusal.{Test, test_at, first_failure}
use Rattle.book.specs.Book.{Book, blank, path_length}
use Rattle.book.specs.Reading.{Reading, accepted, and_then, outcome, add_arc, add_set, add_path, arc_tests, set_tests, path_tests, with_count}

-- What stands after the count: an arc, a rule set, a path of the rule set before it; or numbers that end before their item does.
pub data Item : Type 0 where
  an_arc : Arc → Item
  a_set : Needs → Item
  a_path : List ℕ → Item
  cut : Item

-- ---- from numbers to items
-- An arc is three numbers: tail, head, weight.
abbrev pub arc_in : List ℕ → Arc
arc_in s = record { tail = get_or s 0 0; head = get_or s 1 0; weight = get_or s 2 0 }

unfoldable pub arc_items : List ℕ → List Item
arc_items [] = []
arc_items (u ∷ []) = cut ∷ []
arc_items (u ∷ v ∷ []) = cut ∷ []
arc_items (u ∷ v ∷ w ∷ s) = an_arc (arc_in (u ∷ v ∷ w ∷ s)) ∷ arc_items s

-- A rule set is its flags; 0, or another number and a window, in four numbers: first day, first month, last day, last month; and the number of its paths, which follow.
abbrev pub set_size : List ℕ → ℕ
set_size s = cond (eqb (get_or s 1 0) 0) 3 7

abbrev pub window_in : List ℕ → Option Window
window_in s =
    cond (eqb (get_or s 1 0) 0) None
    (Some (record { first = record { day = get_or s 2 0; month = get_or s 3 0 }; last = record { day = get_or s 4 0; month = get_or s 5 0 } }))

abbrev pub needs_in : List ℕ → Needs
needs_in s = record { flags = get_or s 0 0; window = window_in s }

abbrev pub paths_in : List ℕ → ℕ
paths_in s = get_or s (set_size s - 1) 0

-- A path is its length, and that many vertices.
abbrev pub path_size : List ℕ → ℕ
path_size s = 1 + get_or s 0 0

abbrev pub path_in : List ℕ → List ℕ
path_in s = take (get_or s 0 0) (drop 1 s)

-- What comes next, where so many paths of the last rule set are still to come: a rule set, or one of these. How many numbers it has, which item it is, and how many paths
-- are to come after it.
abbrev pub item_size : ℕ → List ℕ → ℕ
item_size zero s = set_size s
item_size (suc more) s = path_size s

abbrev pub next_item : ℕ → List ℕ → Item
next_item zero s = a_set (needs_in s)
next_item (suc more) s = a_path (path_in s)

abbrev pub to_come : ℕ → List ℕ → ℕ
to_come zero s = paths_in s
to_come (suc more) s = more

-- The item of so many numbers, if they are there, and what comes after it.
abbrev pub whole : ℕ → List ℕ → Item → List Item → List Item
whole size s x rest = cond (leb size (length s)) (x ∷ rest) (cut ∷ [])

-- Rule sets and their paths, up to the end of the numbers. Each item takes a number at least, so with more turns than numbers the turns never run out first.
unfoldable pub set_items : ℕ → ℕ → List ℕ → List Item
set_items zero more s = []
set_items (suc turns) zero [] = []
set_items (suc turns) zero (x ∷ s) =
    whole (item_size zero (x ∷ s)) (x ∷ s) (next_item zero (x ∷ s)) (set_items turns (to_come zero (x ∷ s)) (drop (item_size zero (x ∷ s)) (x ∷ s)))
set_items (suc turns) (suc more) s =
    whole (item_size (suc more) s) s (next_item (suc more) s) (set_items turns (to_come (suc more) s) (drop (item_size (suc more) s) s))

abbrev pub items : List ℕ → List ℕ → List Item
items arcs sets = arc_items arcs ++ set_items (suc (length sets)) 0 sets

-- ---- from items to a book
-- The tests of an item, told with its index. 3: a path of 2 to 8 vertices, and no item that is cut. 4 of a rule set: flags of 16 bits.
abbrev pub item_tests : Book → ℕ → Item → List Test
item_tests b i (an_arc a) = arc_tests b i a
item_tests b i (a_set f) = test_at i 4 (ltb f.flags 65536) ∷ set_tests b i f
item_tests b i (a_path p) = test_at i 3 (path_length (length p)) ∷ path_tests b i p
item_tests b i cut = test_at i 3 false ∷ []

abbrev pub add_item : Book → Item → Book
add_item b (an_arc a) = add_arc b a
add_item b (a_set f) = add_set b f
add_item b (a_path p) = record { count = b.count; arcs = b.arcs; sets = add_path b.sets p }
add_item b cut = b

abbrev pub with_item : Book → ℕ → Item → Reading
with_item b i x = outcome (first_failure (item_tests b i x)) (add_item b x)

-- The items from index i on, after a book; the first bad one decides.
unfoldable pub with_items : ℕ → List Item → Book → Reading
with_items i [] b = accepted b
with_items i (x ∷ xs) b = and_then (with_item b i x) (with_items (suc i) xs)

-- The count has index 0.
abbrev pub content : ℕ → List ℕ → List ℕ → Reading
content n arcs sets = and_then (with_count blank 0 n) (with_items 1 (items arcs sets))
