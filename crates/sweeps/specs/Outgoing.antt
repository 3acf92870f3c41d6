-- The arcs of a graph's table as words.
use Rattle.std.specs.Prelude.{Bool, not, List, ℕ, ◌+◌, ◌*◌, ◌<◌, ◌≡◌, eqb, get_or}
use Rattle.limits.specs.Limits.{no_arc, most_vertices}
use Rattle.walks.specs.declared.ArcTable.{ArcTable}
use Rattle.product.specs.Word.{word}

-- There is an arc from u to v.
abbrev pub is_arc : List ℕ → ℕ → ℕ → Bool
is_arc weights u v = not (eqb (get_or weights (u * most_vertices + v) 0) no_arc)

-- The vertices below n to which there is one from u, as a word.
abbrev pub outgoing : List ℕ → ℕ → ℕ → ℕ
outgoing weights u n = word (is_arc weights u) n

-- The words of a table's vertices.
abbrev pub Outgoing : ArcTable → List ℕ → Type 0
Outgoing arcs words = (u : ℕ) → u < arcs.vertices → get_or words u 0 ≡ outgoing arcs.weights.now u arcs.vertices
