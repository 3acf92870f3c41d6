-- What has been read so far is what stands there.
use Rattle.std.proofs.Common.{◌-◌, length}
use Rattle.book.proofs.Loop.{Reached}
use Rattle.book.proofs.Loaded.fields.Given as goal

abbrev pub invariant-loop-at : goal.invariant-loop-at
invariant-loop-at l = Reached l.bytes l.at l.self

abbrev pub decreases-loop-at : goal.decreases-loop-at
decreases-loop-at l = length l.bytes - l.at
