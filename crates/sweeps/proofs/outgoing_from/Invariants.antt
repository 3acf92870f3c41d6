-- The word has the arcs to the vertices below v.
use Rattle.std.proofs.Common.{◌≡◌}
use Rattle.sweeps.specs.Outgoing.{outgoing}
use Rattle.sweeps.proofs.outgoing_from.Given as goal

abbrev pub invariant-loop-v : goal.invariant-loop-v
invariant-loop-v l = l.word ≡ outgoing l.arcs.weights.now l.u l.v
