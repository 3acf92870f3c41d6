-- From each item to the next, or to the refusal of the list.
use Rattle.std.proofs.lemmas.Result.{err_from_is_err_and}
use Rattle.listed.proofs.StandingLaws.{going_first, going_on, going_off, going_last}
use Rattle.listed.proofs.load.Goals as goal

pub loop-i-init : goal.loop-i-init
loop-i-init c = going_first c.args.vertices c.args.arcs.now c.args.weights.now c.in_ok-counted.ensures c.requires.blank

pub returns-in_err-enter : goal.returns-in_err-enter
returns-in_err-enter c =
    let p = err_from_is_err_and c.from_residual-in_err-enter.result c.from_residual-in_err-enter.ensures.1 in
    let g = c.loop-i.invariant in
    rw (p.1, p.2)
    (going_off c.args.vertices c.args.arcs.now c.loop-i.i _ c.loop-i-test.true c.loop-i.weights g c.in_err-enter.field-0.0 c.enter.new.weights (c.in_err-enter.ensures g.so_far g.table))

pub loop-i-preserved : goal.loop-i-preserved
loop-i-preserved c = going_on c.args.vertices c.args.arcs.now c.loop-i.i _ c.loop-i-test.true c.loop-i.weights c.loop-i.invariant c.enter.new.weights (c.in_ok-enter.ensures c.loop-i.invariant.so_far c.loop-i.invariant.table)

pub returns : goal.returns
returns c = going_last c.args.vertices c.args.arcs.now c.loop-i.i c.loop-i.weights c.loop-i-test.false c.loop-i.invariant
