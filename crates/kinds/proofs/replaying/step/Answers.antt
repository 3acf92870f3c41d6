-- Begin and the reports one by one are a replay, and a refused begin is a refused replay.
use Rattle.series.proofs.Replaying.{not-begun}
use Rattle.kinds.proofs.Stepped.{stepped}
use Rattle.kinds.proofs.replaying.step.Goals as goal

pub returns-in-Ok : goal.returns-in-Ok
returns-in-Ok g c =
    let case = c.args.case in
    stepped case.bytes.now case.batch case.start case.end case.reports.now c.args.paths.now c.args.walk.now c.in-Ok.first _ _ _ _ _ c.in-Ok.ensures c.make_all.ensures

pub returns-in-Err : goal.returns-in-Err
returns-in-Err g c =
    let case = c.args.case in
    not-begun case.bytes.now case.batch case.start case.end case.reports.now c.args.paths.now c.args.walk.now c.in-Err.refusal _ _ c.in-Err.ensures
