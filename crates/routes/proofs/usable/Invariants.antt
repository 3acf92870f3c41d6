-- The word has the usable vertices below v.
use Rattle.std.proofs.Common.{get_or}
use Rattle.routes.specs.Route.{is_usable}
use Rattle.routes.proofs.Choosing.{Choosing}
use Rattle.routes.proofs.usable.Given as goal

abbrev pub invariant-loop-v : goal.invariant-loop-v
invariant-loop-v l =
    let p = l.product in
    Choosing (is_usable p.arcs.weights.now p.steps.now p.blocked.now p.latest.now l.table l.q) (get_or p.blocked.now l.q 0) l.bits l.word l.v
