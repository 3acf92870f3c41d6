-- A book's meaning as tables, for the layers above.
use Rattle.std.specs.Prelude.{ℕ, suc, ◌+◌, ◌-◌, ◌*◌, ◌≡◌, List, [], ◌∷◌, ◌++◌, map, length, set, replicate, Result, Ok, Err, None}
use Rattle.limits.specs.Limits.{most_vertices, pairs, most_sets, most_paths, area_size, no_arc, longest_path}
use Rattle.walks.specs.Graph.{Arc}
use Rattle.book.specs.declared.Loaded.{Loaded}
use Rattle.book.specs.declared.Needs.{Needs}
use Rattle.book.specs.declared.Refusal.{Refusal}
use Rattle.book.specs.Book.{RuleSet, Book, WellFormed, all_paths, counts}
use Rattle.book.specs.Reading.{Reading, accepted, refused, verdict_of, with_arc, kept}

-- a list with one value after it up to n elements; with zeros
abbrev pub padded_with : {A : Type 0} → A → ℕ → List A → List A
padded_with x n l = l ++ replicate (n - length l) x

abbrev pub padded : ℕ → List ℕ → List ℕ
padded = padded_with 0

-- the weight of the arc from u to v stands at u * 64 + v, in rising order of u, then v
unfoldable pub entered : List ℕ → List Arc → List ℕ
entered t [] = t
entered t (a ∷ rest) = entered (set t (a.tail * most_vertices + a.head) a.weight) rest

abbrev pub weight_table : List Arc → List ℕ
weight_table arcs = entered (replicate pairs no_arc) arcs

-- what each rule set needs
abbrev pub needs_of : List RuleSet → List Needs
needs_of ss = map (λ s. s.needs) ss

abbrev pub nothing_needed : Needs
nothing_needed = record { flags = 0; window = None }

-- for each forbidden path of the book, the index of its rule set; k is the first set's
unfoldable pub owners_from : ℕ → List RuleSet → List ℕ
owners_from k [] = []
owners_from k (s ∷ ss) = replicate (length s.paths) k ++ owners_from (suc k) ss

-- a forbidden path as an entry of nine bytes: its length, its vertices, and zeros
abbrev pub entry : List ℕ → List ℕ
entry p = length p ∷ padded longest_path p

unfoldable pub entries : List (List ℕ) → List ℕ
entries [] = []
entries (p ∷ ps) = entry p ++ entries ps

abbrev pub needs_table : List RuleSet → List Needs
needs_table ss = padded_with nothing_needed most_sets (needs_of ss)

abbrev pub owner_table : List RuleSet → List ℕ
owner_table ss = padded most_paths (owners_from 0 ss)

abbrev pub path_table : List RuleSet → List ℕ
path_table ss = padded area_size (entries (all_paths ss))

-- The count and the table of weights are those of the well-formed book b ...
pub record IsGraph (b : Book) (vertices : ℕ) (weights : List ℕ) : Type 0 where
  pub well : WellFormed b
  pub vertices_are : vertices ≡ b.count
  pub weights_are : weights ≡ weight_table b.arcs

-- ... so are the number of paths and the tables of the rule sets ...
pub record IsSets (b : Book) (paths : ℕ) (needs : List Needs) (owners entries : List ℕ) : Type 0 where
  pub well : WellFormed b
  pub counted : paths ≡ length (all_paths b.sets)
  pub needs_are : needs ≡ needs_table b.sets
  pub owners_are : owners ≡ owner_table b.sets
  pub paths_are : entries ≡ path_table b.sets

-- ... and so is all that loading b gives: these counts and tables are this well-formed book.
pub record IsLoaded (b : Book) (l : Loaded) : Type 0 where
  pub counted : l.counts ≡ counts b
  pub graph : IsGraph b l.counts.vertices l.weights
  pub sets : IsSets b l.counts.paths l.needs l.owners l.entries

-- What a reading that is to leave P of the book answers, with what it leaves.
abbrev pub Leaves : (Book → Loaded → Type 0) → Reading → Result Loaded Refusal → Type 0
Leaves P (accepted b) (Ok l) = P b l
Leaves P (accepted b) (Err r) = ⊥
Leaves P (refused q) (Ok l) = ⊥
Leaves P (refused q) (Err r) = r ≡ q

-- What loading answers: the book's counts and tables, or its refusal.
abbrev pub LoadedAs : Reading → Result Loaded Refusal → Type 0
LoadedAs = Leaves IsLoaded

-- what stands there after a step that answers r
abbrev pub left : Result Unit Refusal → Loaded → Result Loaded Refusal
left (Ok u) l = Ok l
left (Err r) l = Err r

-- The counts and the tables are those of b, whether it is well formed or not.
pub record AreTables (b : Book) (l : Loaded) : Type 0 where
  pub counts_are : l.counts ≡ counts b
  pub weights_are : l.weights ≡ weight_table b.arcs
  pub needs_are : l.needs ≡ needs_table b.sets
  pub owners_are : l.owners ≡ owner_table b.sets
  pub paths_are : l.entries ≡ path_table b.sets

-- What entering an arc into the book b's table of weights answers and leaves: a refusal leaves the table as it was.
abbrev pub Enters : Book → ℕ → Arc → Result Unit Refusal → List ℕ → Type 0
Enters b at a v new = (v ≡ verdict_of (with_arc b at a)) × (new ≡ weight_table (kept b (with_arc b at a)).arcs)

-- what stands for nothing yet
pub record Blank (l : Loaded) : Type 0 where
  pub nothing_counted : l.counts ≡ record { vertices = 0; arcs = 0; sets = 0; paths = 0 }
  pub no_arcs : l.weights ≡ replicate pairs no_arc
  pub no_needs : l.needs ≡ replicate most_sets nothing_needed
  pub no_owners : l.owners ≡ replicate most_paths 0
  pub no_paths : l.entries ≡ replicate area_size 0
