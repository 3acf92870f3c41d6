-- Begin, each report in turn, and the end of the list.
use Rattle.series.proofs.Replaying.{replayed-begin, replayed-made, replayed-last}
use Rattle.series.proofs.replay.Goals as goal

pub loop-made-init : goal.loop-made-init
loop-made-init c = replayed-begin _ _ _ _ _ _ _ _ _ _ c.in_ok-rec.ensures

pub loop-made-preserved : goal.loop-made-preserved
loop-made-preserved c =
    rw c.record_of-rec.ensures (replayed-made _ _ _ _ _ _ _ c.loop-made.invariant c.in-Some.made _ _ c.in-Some.ensures)

pub returns : goal.returns
returns c = replayed-last _ _ _ _ _ _ _ c.loop-made.invariant _ _ c.in_default.ensures
