-- A turn lowers the entry of its state's vertex, or keeps it.
use Rattle.ends.proofs.Gathering.{gathered_none, gathered_lower, gathered_keep}
use Rattle.ends.proofs.gather.Goals as goal
use Rattle.ends.proofs.gather.Goals.{then-d-least, else-d-least}

pub loop-q-init : goal.loop-q-init
loop-q-init c = gathered_none _ _ _ c.requires.unreached

pub loop-q-preserved : goal.loop-q-preserved
loop-q-preserved c =
    let q = c.loop-q.q in
    let below = c.requires.stands q c.loop-q-test.true in
    elim c.if-d-least.branch [
      | then-d-least w ↦ rw w.least-is (gathered_lower _ _ q c.loop-q.invariant below w.if-d-least.true)
      | else-d-least w ↦ rw w.least-is (gathered_keep _ _ q c.loop-q.invariant below w.if-d-least.false)
    ]
