-- What a book means: its count of vertices, its arcs (01: changeovers, with the litres lost to slop as weights), and its rule sets.
use Rattle.std.specs.Prelude.{ℕ, ◌≤◌, ◌<◌, ◌≡◌, ◌≢◌, Bool, false, not, ◌&&◌, List, [], ◌∷◌, ◌++◌, length, eqb, leb, ltb}
use Rattle.limits.specs.Limits.{most_vertices, heaviest, most_sets, most_paths, longest_path}
use Rattle.lists.specs.Test.{all}
use Rattle.walks.specs.Graph.{Graph, Arc, is_some, weight_in, from_arcs}
use Rattle.book.specs.declared.Counts.{Counts}
use Rattle.book.specs.declared.Needs.{Needs}

-- 01: a sheet, with what it needs of a batch and its runs as its paths, in the book's order
pub record RuleSet : Type 0 where
  pub needs : Needs
  pub paths : List (List ℕ)

-- 01: a book. The vertices (grades) are the numbers below the count; arcs and rule sets stand in the book's order
pub record Book : Type 0 where
  pub count : ℕ
  pub arcs : List Arc
  pub sets : List RuleSet

-- the digraph of a book
abbrev pub graph : Book → Graph
graph b = from_arcs b.count b.arcs

-- nothing read yet
abbrev pub blank : Book
blank = record { count = 0; arcs = []; sets = [] }

-- the forbidden paths of all rule sets, in the book's order, repeated ones too
unfoldable pub all_paths : List RuleSet → List (List ℕ)
all_paths [] = []
all_paths (s ∷ ss) = s.paths ++ all_paths ss

-- the four counts that reading gives
abbrev pub counts : Book → Counts
counts b =
    record { vertices = b.count; arcs = length b.arcs; sets = length b.sets; paths = length (all_paths b.sets) }

-- whether an arc from tail to head is among the arcs
abbrev pub given : List Arc → ℕ → ℕ → Bool
given arcs tail head = is_some (weight_in arcs tail head)

-- whether all are vertices of a book with `count` vertices
unfoldable pub are_vertices : ℕ → List ℕ → Bool
are_vertices count p = all (λ v. ltb v count) p

-- 01, 02 (2): a run that the book's rules take, in a book with `count` vertices: 2 to 8 vertices below the count, a vertex as often as one likes
abbrev pub path_length : ℕ → Bool
path_length n = leb 2 n && leb n longest_path

unfoldable pub is_path : ℕ → List ℕ → Bool
is_path count p = path_length (length p) && are_vertices count p

-- a count of vertices that a book may have
abbrev pub is_count : ℕ → Bool
is_count n = leb 1 n && leb n most_vertices

-- two different vertices below the count, and a weight of at most 1,000,000 (01: litres)
abbrev pub proper_arc : ℕ → Arc → Bool
proper_arc count a = ltb a.tail count && ltb a.head count && not (eqb a.tail a.head) && leb a.weight heaviest

-- P of each element
abbrev pub All : {A : Type 0} → (A → Type 0) → List A → Type 0
All P [] = Unit
All P (x ∷ xs) = P x × All P xs

-- an arc of a book with `count` vertices
pub record IsArc (count : ℕ) (a : Arc) : Type 0 where
  pub tail-below : a.tail < count
  pub head-below : a.head < count
  pub different : a.tail ≢ a.head
  pub light : a.weight ≤ heaviest

-- no pair twice
abbrev pub PairsOnce : List Arc → Type 0
PairsOnce [] = Unit
PairsOnce (a ∷ rest) = (given rest a.tail a.head ≡ false) × PairsOnce rest

-- a forbidden path of a book with `count` vertices
pub record IsPath (count : ℕ) (p : List ℕ) : Type 0 where
  pub two : 2 ≤ length p
  pub eight : length p ≤ longest_path
  pub below : All (λ v. v < count) p

-- what holds of every book that is read, and of what has been read of one
pub record WellFormed (b : Book) : Type 0 where
  pub few-vertices : b.count ≤ most_vertices
  pub counted : 1 ≤ length b.sets → 1 ≤ b.count
  pub arcs-proper : All (IsArc b.count) b.arcs
  pub pairs-once : PairsOnce b.arcs
  pub few-sets : length b.sets ≤ most_sets
  pub few-paths : length (all_paths b.sets) ≤ most_paths
  pub paths-proper : All (IsPath b.count) (all_paths b.sets)
