-- A book with its arcs in rising order of tail, then head.
use Rattle.std.specs.Prelude.{ℕ, zero, suc, ◌/◌, ◌%◌, ◌<◌, ◌⊎◌, ◌≡◌, List, [], ◌∷◌}
use Rattle.std.proofs.Math.Option.{Option, none, some}
use Rattle.limits.specs.Limits.{most_vertices, pairs}
use Rattle.walks.specs.Graph.{Arc, weight_in}
use Rattle.book.specs.Book.{Book, All}

-- The arc of a pair, where it has a weight, before other arcs.
abbrev pub put : ℕ → ℕ → Option ℕ → List Arc → List Arc
put u v none rest = rest
put u v (some w) rest = record { tail = u; head = v; weight = w } ∷ rest

-- The arcs of n pairs from pair k on, where the pair of u and v is u * 64 + v.
unfoldable pub read_off : (ℕ → ℕ → Option ℕ) → ℕ → ℕ → List Arc
read_off weight zero k = []
read_off weight (suc n) k = put (k / most_vertices) (k % most_vertices) (weight (k / most_vertices) (k % most_vertices)) (read_off weight n (suc k))

-- All arcs, read off the table of pairs in rising order.
abbrev pub rising : List Arc → List Arc
rising arcs = read_off (weight_in arcs) pairs 0

abbrev pub in_order : Book → Book
in_order b = record { count = b.count; arcs = rising b.arcs; sets = b.sets }

-- ---- what the laws say of it
-- By tail, then head.
abbrev pub Before : Arc → Arc → Type 0
Before a b = (a.tail < b.tail) ⊎ ((a.tail ≡ b.tail) × (a.head < b.head))

-- Each before all after it.
abbrev pub Rising : List Arc → Type 0
Rising [] = Unit {0}
Rising (a ∷ rest) = All (Before a) rest × Rising rest
