-- After some reports the trials are in a state of theirs, and the reports that are left lead from it to the end.
use Rattle.std.proofs.Common.{◌-◌, length}
use Rattle.trials.specs.Operations.{answering}
use Rattle.series.proofs.Replaying.{Replayed}
use Rattle.series.proofs.replay.Given as goal

abbrev pub invariant-loop-made : goal.invariant-loop-made
invariant-loop-made l = Replayed l.bytes l.fn.batch l.start l.end l.reports l.fn.paths l.fn.walk (answering l.rec l.paths l.walk) l.at

abbrev pub decreases-loop-made : goal.decreases-loop-made
decreases-loop-made l = length l.reports - l.at
