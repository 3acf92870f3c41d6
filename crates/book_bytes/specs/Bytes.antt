-- A book's bytes, and the rules that a book keeps. No reader stands in either.
use Rattle.std.specs.Prelude.{ℕ, ◌/◌, ◌%◌, ◌≤◌, ◌<◌, ◌≡◌, length, Option, Some, None}
use mathlib.Core.List.{List, [], ◌∷◌, ◌++◌, flat_map}
use Rattle.limits.specs.Limits.{most_vertices, most_sets, most_paths}
use Rattle.dates.specs.declared.Window.{Window}
use Rattle.dates.specs.Calendar.{IsWindow}
use Rattle.walks.specs.Graph.{Arc}
use Rattle.book.specs.declared.Needs.{Needs}
use Rattle.book.specs.Book.{RuleSet, Book, All, IsArc, PairsOnce, IsPath, all_paths}

-- ---- the bytes
-- a byte string
abbrev pub AreBytes : List ℕ → Type 0
AreBytes s = All (λ x. x < 256) s

-- a number in two bytes, and in four, the high byte first
abbrev pub two_bytes : ℕ → List ℕ
two_bytes n = n / 256 ∷ n % 256 ∷ []

abbrev pub four_bytes : ℕ → List ℕ
four_bytes n = two_bytes (n / 65536) ++ two_bytes (n % 65536)

-- a field: its tag, the length of its body, and the body
abbrev pub field_of : ℕ → List ℕ → List ℕ
field_of tag body = (tag ∷ two_bytes (length body)) ++ body

-- tag 01: the count of vertices
abbrev pub count_field : ℕ → List ℕ
count_field n = field_of 1 (n ∷ [])

-- tag 02: an arc
abbrev pub arc_field : Arc → List ℕ
arc_field a = field_of 2 (a.tail ∷ a.head ∷ four_bytes a.weight)

-- tag 03: what a rule set needs: its flags, and its window, a byte each for day and month, if it has one
abbrev pub window_bytes : Option Window → List ℕ
window_bytes None = []
window_bytes (Some w) = w.first.day ∷ w.first.month ∷ w.last.day ∷ w.last.month ∷ []

abbrev pub needs_field : Needs → List ℕ
needs_field needs = field_of 3 (two_bytes needs.flags ++ window_bytes needs.window)

-- tag 04: a forbidden path, a byte a vertex
abbrev pub path_field : List ℕ → List ℕ
path_field path = field_of 4 path

-- a rule set is followed by its paths
abbrev pub set_fields : RuleSet → List ℕ
set_fields s = needs_field s.needs ++ flat_map path_field s.paths

-- a book's bytes
unfoldable pub bytes_of : Book → List ℕ
bytes_of b = count_field b.count ++ flat_map arc_field b.arcs ++ flat_map set_fields b.sets

-- ---- the rules
-- What a rule set may need: flags of 16 bits, and a window between two days that some year has, if any.
pub record ProperNeeds (needs : Needs) : Type 0 where
  pub flags-fit : needs.flags < 65536
  pub edges : (w : Window) → needs.window ≡ Some w → IsWindow w

-- 01's section 'The book', and 02 (4): a count of 1 to 64; arcs between two different vertices below the count, of weight at most 1,000,000, no pair
-- twice; at most 16 rule sets, each with such needs; at most 256 paths in all, each of 2 to 8 vertices below the count
pub record Keeps (b : Book) : Type 0 where
  pub some-vertex : 1 ≤ b.count
  pub few-vertices : b.count ≤ most_vertices
  pub arcs-proper : All (IsArc b.count) b.arcs
  pub pairs-once : PairsOnce b.arcs
  pub few-sets : length b.sets ≤ most_sets
  pub needs-proper : All (λ s. ProperNeeds s.needs) b.sets
  pub few-paths : length (all_paths b.sets) ≤ most_paths
  pub paths-proper : All (IsPath b.count) (all_paths b.sets)

-- 02 (4): the longest book has 39,252 bytes
abbrev pub longest_book : ℕ
longest_book = 39252
