-- The judgement, that of the named path, and then the plan anew.
use Rattle.std.proofs.Common.{sym, ap, ◌∙◌}
use Rattle.std.proofs.lemmas.Result.{err_from_is_err_and}
use Rattle.trial_rules.specs.Trials.{failed}
use Rattle.trials.specs.Operations.{reporting_of}
use Rattle.trials.proofs.Reporting.{in_book, refused, walk-fits, refused_named, ready}
use Rattle.trials.proofs.report.accept_failed.Goals as goal

pub returns-in_err-judge : goal.returns-in_err-judge
returns-in_err-judge c =
    let a = c.args in
    let h = in_book _ _ c.in_ok-read.ensures c.arcs-arcs.ensures.vertices c.arcs-arcs.ensures.weights in
    let r = err_from_is_err_and c.from_residual-in_err-judge.result c.from_residual-in_err-judge.ensures.1 in
    rw (r.1, r.2) (refused h a.rec a.paths.now a.walk.now c.in_err-judge.ensures (failed a.named.now))

pub judge_named-requires-clause-graph : goal.judge_named-requires-clause-graph
judge_named-requires-clause-graph c =
    let h = in_book _ _ c.in_ok-read.ensures c.arcs-arcs.ensures.vertices c.arcs-arcs.ensures.weights in
    (h.book, h.graph-is)

pub judge_named-requires-clause-within : goal.judge_named-requires-clause-within
judge_named-requires-clause-within c =
    let a = c.args in
    let h = in_book _ _ c.in_ok-read.ensures c.arcs-arcs.ensures.vertices c.arcs-arcs.ensures.weights in
    walk-fits h a.rec a.paths.now a.walk.now c.in_ok-judge.ensures

pub returns-in_err-judge_named : goal.returns-in_err-judge_named
returns-in_err-judge_named c =
    let a = c.args in
    let h = in_book _ _ c.in_ok-read.ensures c.arcs-arcs.ensures.vertices c.arcs-arcs.ensures.weights in
    let r = err_from_is_err_and c.from_residual-in_err-judge_named.result c.from_residual-in_err-judge_named.ensures.1 in
    rw (r.1, r.2) (refused_named h a.rec a.paths.now a.walk.now c.in_ok-judge.ensures a.named.now c.in_err-judge_named.ensures)

pub replan-requires : goal.replan-requires
replan-requires c =
    let a = c.args in
    let h = in_book _ _ c.in_ok-read.ensures c.arcs-arcs.ensures.vertices c.arcs-arcs.ensures.weights in
    (h.book, h.graph-is, ready h a.rec a.paths.now a.walk.now c.in_ok-judge.ensures a.named.now c.in_ok-judge_named.ensures)

pub returns : goal.returns
returns c =
    let a = c.args in
    let h = in_book _ _ c.in_ok-read.ensures c.arcs-arcs.ensures.vertices c.arcs-arcs.ensures.weights in
    let unrefused = ready h a.rec a.paths.now a.walk.now c.in_ok-judge.ensures a.named.now c.in_ok-judge_named.ensures in
    c.replan.ensures h.book h.graph-is unrefused ∙ sym (ap (λ x. reporting_of x a.rec a.paths.now a.walk.now (failed a.named.now)) h.is)
