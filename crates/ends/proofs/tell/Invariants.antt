-- The numbers of the vertices below v are written.
use Rattle.std.proofs.Common.{◌≡◌, ◌*◌, ◌++◌, drop}
use Rattle.distances.specs.Table.{at}
use Rattle.ends.specs.Least.{numbers}
use Rattle.ends.proofs.tell.Given as goal

abbrev pub invariant-loop-v : goal.invariant-loop-v
invariant-loop-v l = l.ends ≡ numbers (at l.least) l.v ++ drop (2 * l.v) l.initial.ends
