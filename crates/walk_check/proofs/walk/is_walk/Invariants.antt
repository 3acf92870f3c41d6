use Rattle.std.proofs.Common.{◌≡◌}
use Rattle.std.specs.Slice.Iter.{windows_rest, windows_size}
use Rattle.book.specs.Book.{Book}
use Rattle.book.specs.Tables.{IsGraph}
use Rattle.walk_check.proofs.Walks.{Left}
use Rattle.walk_check.proofs.walk.is_walk.Given as goal

abbrev pub invariant-loop-pair : goal.invariant-loop-pair
invariant-loop-pair l =
    (goal.iterator-loop-pair).can_next l.pair-iterator
    × (goal.iterator-loop-pair).is_finite l.pair-iterator
    × (windows_size l.pair-iterator ≡ 2)
    × ((b : Book) → IsGraph b l.arcs.vertices l.arcs.weights.now → Left b l.walk (windows_rest l.pair-iterator))
