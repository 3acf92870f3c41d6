-- The edges over the vertices below `next` have lowered the entry; the others are left.
use Rattle.std.proofs.Common.{◌≡◌, ℕ}
use Rattle.distances.specs.Table.{lowest}
use Rattle.product.specs.Visit.{Ahead}
use Rattle.product.specs.View.{open_at, edges_below}
use Rattle.sweeps.proofs.Sweep.pull.Given as goal

abbrev pub invariant-loop-left : goal.invariant-loop-left
invariant-loop-left l =
    (next : ℕ) × Ahead (open_at l.self.product l.q) l.self.product.arcs.vertices next l.left × (l.least ≡ lowest l.old (edges_below l.self.product l.q next) l.entry)

abbrev pub decreases-loop-left : goal.decreases-loop-left
decreases-loop-left l = l.left
