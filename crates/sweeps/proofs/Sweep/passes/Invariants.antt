-- The tables take turns.
use Rattle.std.proofs.Common.{◌-◌, ◌≤◌, length}
use Rattle.distances.proofs.Turns.{Turns}
use Rattle.sweeps.specs.Sweep.{edges_in}
use Rattle.sweeps.proofs.Sweep.passes.Given as goal

abbrev pub invariant-loop-count : goal.invariant-loop-count
invariant-loop-count l = (1 ≤ l.count) × Turns (edges_in l.self (length l.fn.table)) l.fn.table (l.count - 1) l.table l.other

abbrev pub decreases-loop-count : goal.decreases-loop-count
decreases-loop-count l = length l.fn.table - l.count
