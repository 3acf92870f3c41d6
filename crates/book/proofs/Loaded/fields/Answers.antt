-- The loop keeps what `Reached` says, and each way out gives the reading.
use Rattle.book.proofs.Loop.{started, finished, stopped, onward}
use Rattle.book.proofs.Loaded.fields.Goals as goal

pub loop-at-init : goal.loop-at-init
loop-at-init c = started c.args.bytes.now c.args.self.now c.requires.some_byte c.requires.nothing_read

pub returns-in_default : goal.returns-in_default
returns-in_default c =
    let r = c.loop-at.invariant in
    rw c.in_default.is (stopped c.args.bytes.now c.loop-at.at c.loop-at.self r c.loop-at-test.true _ (c.in_default.ensures.leaves r.book r.tables))

pub loop-at-preserved : goal.loop-at-preserved
loop-at-preserved c =
    let r = c.loop-at.invariant in
    onward c.args.bytes.now c.loop-at.at c.loop-at.self r c.loop-at-test.true _ (c.in-Ok.ensures.leaves r.book r.tables) _ c.field_end-at.ensures

pub returns : goal.returns
returns c = finished c.args.bytes.now c.loop-at.at c.loop-at.self c.loop-at.invariant c.loop-at-test.false
