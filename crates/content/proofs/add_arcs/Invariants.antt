-- The arcs so far are in the tables; those that are left come to what all of them come to.
use Rattle.std.specs.Prelude.{◌+◌, ◌*◌, ◌≤◌, ◌≡◌, [], length, drop}
use Rattle.book.specs.Book.{Book}
use Rattle.content.specs.Content.{arc_items, with_items}
use Rattle.content.specs.Loading.{Begun, Going}
use Rattle.content.proofs.add_arcs.Given as goal

abbrev pub invariant-loop-k : goal.invariant-loop-k
invariant-loop-k l =
    (b : Book) → Begun b l.initial.book → b.arcs ≡ []
    → (g : Going (with_items 1 (arc_items l.s) b) (1 + l.k) (arc_items (drop (l.k * 3) l.s)) l.book) × (length g.so_far.arcs ≤ l.k)
