-- The numbers of a book: those of its arcs and of its rule sets, and the items that they say. What numbers say is told with no parser: it is the numbers that a book has.
use Rattle.std.specs.Prelude.{ℕ, ◌≤◌, ◌<◌, ◌⊎◌, ◌≡◌, map, length, get_or, Option, Some, None}
use mathlib.Core.List.{List, [], ◌∷◌, ◌++◌, flat_map, Permᴰ}
use Rattle.dates.specs.declared.Window.{Window}
use Rattle.walks.specs.Graph.{Arc}
use Rattle.book.specs.declared.Needs.{Needs}
use Rattle.book.specs.Book.{RuleSet, Book}
use Rattle.content.specs.Content.{Item, an_arc, a_set, a_path}

-- The items of a rule set: its needs, then its paths.
abbrev pub set_list : RuleSet → List Item
set_list s = a_set s.needs ∷ map a_path s.paths

-- The items of a book, after its count.
abbrev pub book_items : Book → List Item
book_items b = map an_arc b.arcs ++ flat_map set_list b.sets

-- ---- numbers
-- An arc in three numbers.
abbrev pub arc_numbers : Arc → List ℕ
arc_numbers a = a.tail ∷ a.head ∷ a.weight ∷ []

-- A window is shown as five numbers, the first of them not 0; no window is shown as 0.
abbrev pub ShownAs : Option Window → List ℕ → Type 0
ShownAs None ns = ns ≡ 0 ∷ []
ShownAs (Some w) ns = (mark : ℕ) × (1 ≤ mark) × (ns ≡ mark ∷ w.first.day ∷ w.first.month ∷ w.last.day ∷ w.last.month ∷ [])

-- A path in numbers: its length, then its vertices.
abbrev pub path_numbers : List ℕ → List ℕ
path_numbers p = length p ∷ p

-- A rule set in numbers, its window shown as such numbers: its flags, its window, the number of its paths, and the paths.
abbrev pub set_shown : RuleSet → List ℕ → List ℕ
set_shown s shown = s.needs.flags ∷ (shown ++ (length s.paths ∷ flat_map path_numbers s.paths))

-- The numbers of rule sets: one after the other, and no number more.
abbrev pub SetsSaid : List RuleSet → List ℕ → Type 0
SetsSaid [] ns = ns ≡ []
SetsSaid (s ∷ ss) ns = (shown : List ℕ) × (rest : List ℕ) × ShownAs s.needs.window shown × SetsSaid ss rest × (ns ≡ set_shown s shown ++ rest)

-- The numbers say the arcs of a book, and its rule sets.
pub record Said (b : Book) (arcs sets : List ℕ) : Type 0 where
  pub arcs_are : arcs ≡ flat_map arc_numbers b.arcs
  pub sets_are : SetsSaid b.sets sets

-- The numbers that every rule set has: a window after 1.
abbrev pub window_numbers : Option Window → List ℕ
window_numbers None = 0 ∷ []
window_numbers (Some w) = 1 ∷ w.first.day ∷ w.first.month ∷ w.last.day ∷ w.last.month ∷ []

abbrev pub set_numbers : RuleSet → List ℕ
set_numbers s = set_shown s (window_numbers s.needs.window)

-- ---- numbers that end too early
-- within an arc
abbrev pub EndInArc : List ℕ → Type 0
EndInArc ns = (1 ≤ length ns) × (length ns ≤ 2)

-- within a rule set, before its paths: it has 3 numbers, or 7 where the second is not 0
abbrev pub EndInSet : List ℕ → Type 0
EndInSet ns = (1 ≤ length ns) × ((length ns < 3) ⊎ ((1 ≤ get_or ns 1 0) × (length ns < 7)))

-- within a path, or before it
abbrev pub EndInPath : List ℕ → Type 0
EndInPath ns = (ns ≡ []) ⊎ ((size : ℕ) × (vertices : List ℕ) × (ns ≡ size ∷ vertices) × (length vertices < size))

-- within the paths of a rule set that has the needs f: its numbers up to paths that are whole, then others, where it has more paths
pub record EndInPaths (f : Needs) (paths : List (List ℕ)) (ns : List ℕ) : Type 0 where
  pub shown : List ℕ
  pub shows : ShownAs f.window shown
  pub many : ℕ
  pub more : length paths < many
  pub cut_off : List ℕ
  pub ends : EndInPath cut_off
  pub are : ns ≡ f.flags ∷ (shown ++ (many ∷ (flat_map path_numbers paths ++ cut_off)))

-- Numbers that end within an arc.
pub record CutArcs (ns : List ℕ) : Type 0 where
  pub arcs : List Arc
  pub rest : List ℕ
  pub are : ns ≡ flat_map arc_numbers arcs ++ rest
  pub ends : EndInArc rest

-- Numbers that end within a rule set, after others that are whole.
pub record CutSets (ns : List ℕ) : Type 0 where
  pub sets : List RuleSet
  pub front : List ℕ
  pub rest : List ℕ
  pub said : SetsSaid sets front
  pub are : ns ≡ front ++ rest
  pub ends : EndInSet rest ⊎ ((f : Needs) × (paths : List (List ℕ)) × EndInPaths f paths rest)

-- ---- arcs in another order
-- Numbers of the same arcs, in whatever order.
pub record SameButOrder (arcs arcs' : List ℕ) : Type 0 where
  pub given : List Arc
  pub given' : List Arc
  pub first : arcs ≡ flat_map arc_numbers given
  pub second : arcs' ≡ flat_map arc_numbers given'
  pub permuted : Permᴰ given given'
