-- The judgement, and then the record's step.
use Rattle.std.proofs.lemmas.Result.{err_from_is_err_and}
use Rattle.trial_rules.specs.Trials.{passed}
use Rattle.trials.proofs.Reporting.{in_book, refused, has_passed}
use Rattle.trials.proofs.report.accept_passed.Goals as goal

pub returns-in_err-judge : goal.returns-in_err-judge
returns-in_err-judge c =
    let a = c.args in
    let h = in_book _ _ c.in_ok-read.ensures c.arcs.ensures.vertices c.arcs.ensures.weights in
    let r = err_from_is_err_and c.from_residual-in_err-judge.result c.from_residual-in_err-judge.ensures.1 in
    rw (r.1, r.2) (refused h a.rec a.paths.now a.walk.now c.in_err-judge.ensures passed)

pub returns : goal.returns
returns c =
    let h = in_book _ _ c.in_ok-read.ensures c.arcs.ensures.vertices c.arcs.ensures.weights in
    rw c.passed.ensures (has_passed h c.args.rec c.args.paths.now c.args.walk.now c.in_ok-judge.ensures)
