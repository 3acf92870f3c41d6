-- By what a pass does to tables that take turns.
use Rattle.std.proofs.Common.{◌≡◌, suc, ◌+◌, ◌-◌, ◌<◌, refl, length, arith}
use Rattle.distances.proofs.Turns.{turns-none}
use Rattle.sweeps.proofs.Turning.{turned-before, turned-next, turned-few, turned-last}
use Rattle.sweeps.proofs.Sweep.passes.Goals as goal

pub loop-count-init : goal.loop-count-init
loop-count-init c = (omega arith, turns-none refl c.requires.same)

pub pass-requires-clause-before : goal.pass-requires-clause-before
pass-requires-clause-before c = turned-before c.args.self c.requires.capped c.loop-count.invariant.1

pub overflow_add-count : goal.overflow_add-count
overflow_add-count c =
    let few = turned-few c.args.self c.loop-count.invariant.1 c.pass.ensures.after c.pass.ensures.changed c.requires.ready c.loop-count-test.true in
    record { fits = omega (arith, (c.requires.ready.fits.rows (c.loop-count.count - 1) few).few-states) }

pub pass-requires-in-loop-count-clause-before : goal.pass-requires-in-loop-count-clause-before
pass-requires-in-loop-count-clause-before c =
    let next = turned-next c.args.self c.loop-count.invariant.1 c.pass.ensures.after c.pass.ensures.changed c.loop-count-test.true in
    turned-before c.args.self c.requires.capped next

pub returns-then-not-pass-clause-after : goal.returns-then-not-pass-clause-after
returns-then-not-pass-clause-after c =
    let next = turned-next c.args.self c.loop-count.invariant.1 c.pass.ensures.after c.pass.ensures.changed c.loop-count-test.true in
    (turned-last c.args.self next c.pass-in-loop-count.ensures.after c.pass-in-loop-count.ensures.changed c.requires.ready c.if-not-pass.true).1

pub returns-then-not-pass-clause-counted : goal.returns-then-not-pass-clause-counted
returns-then-not-pass-clause-counted c =
    let next = turned-next c.args.self c.loop-count.invariant.1 c.pass.ensures.after c.pass.ensures.changed c.loop-count-test.true in
    let counted = (turned-last c.args.self next c.pass-in-loop-count.ensures.after c.pass-in-loop-count.ensures.changed c.requires.ready c.if-not-pass.true).2 in
    omega (arith, counted)

pub returns-clause-after : goal.returns-clause-after
returns-clause-after c = (turned-last c.args.self c.loop-count.invariant.1 c.pass.ensures.after c.pass.ensures.changed c.requires.ready c.loop-count-test.false).0

pub returns-clause-counted : goal.returns-clause-counted
returns-clause-counted c =
    let counted = (turned-last c.args.self c.loop-count.invariant.1 c.pass.ensures.after c.pass.ensures.changed c.requires.ready c.loop-count-test.false).2 in
    omega (arith, counted)

-- The second pass changed an entry too, so there are more states than passes so far.
few-again : (c : goal.Else-not-pass) → c.loop-count.count < length c.args.table.now
few-again c =
    let next = turned-next c.args.self c.loop-count.invariant.1 c.pass.ensures.after c.pass.ensures.changed c.loop-count-test.true in
    let few = turned-few c.args.self next c.pass-in-loop-count.ensures.after c.pass-in-loop-count.ensures.changed c.requires.ready c.if-not-pass.false in
    omega (arith, few, c.loop-count.invariant.0)

pub overflow_add-count-in-loop-count : goal.overflow_add-count-in-loop-count
overflow_add-count-in-loop-count c = record { fits = omega (arith, (c.requires.ready.fits.rows c.loop-count.count (few-again c)).few-states) }

pub loop-count-smaller : goal.loop-count-smaller
loop-count-smaller c = omega (arith, few-again c)

pub loop-count-preserved : goal.loop-count-preserved
loop-count-preserved c =
    let next = turned-next c.args.self c.loop-count.invariant.1 c.pass.ensures.after c.pass.ensures.changed c.loop-count-test.true in
    let again = turned-next c.args.self next c.pass-in-loop-count.ensures.after c.pass-in-loop-count.ensures.changed c.if-not-pass.false in
    let count : suc (suc (c.loop-count.count - 1)) ≡ c.loop-count.count + 1 + 1 - 1 = omega (arith, c.loop-count.invariant.0) in
    (omega arith, rw count at again)
