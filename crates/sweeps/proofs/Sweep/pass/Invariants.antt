-- The edges of the states below q are relaxed.
use Rattle.std.proofs.Common.{◌≡◌}
use Rattle.distances.specs.Table.{relaxes}
use Rattle.sweeps.specs.Sweep.{edges_in}
use Rattle.sweeps.proofs.Sweep.pass.Given as goal

abbrev pub invariant-loop-q : goal.invariant-loop-q
invariant-loop-q l = l.new ≡ relaxes l.old (edges_in l.self l.q) l.fn.new
