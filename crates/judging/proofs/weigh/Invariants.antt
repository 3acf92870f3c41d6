use Rattle.std.proofs.Common.{◌≡◌, true}
use Rattle.std.specs.Slice.Iter.{windows_rest, windows_size}
use Rattle.walks.specs.Walk.{is_walk}
use Rattle.book.specs.Book.{Book, graph}
use Rattle.book.specs.Tables.{IsGraph}
use Rattle.judging.proofs.Weighing.{Weighed}
use Rattle.judging.proofs.weigh.Given as goal

abbrev pub invariant-loop-pair : goal.invariant-loop-pair
invariant-loop-pair l =
    (goal.iterator-loop-pair).can_next l.pair-iterator
    × (goal.iterator-loop-pair).is_finite l.pair-iterator
    × (windows_size l.pair-iterator ≡ 2)
    × ((b : Book) → IsGraph b l.arcs.vertices l.arcs.weights.now → is_walk (graph b) l.walk ≡ true → Weighed (graph b) l.walk l.sum (windows_rest l.pair-iterator))
