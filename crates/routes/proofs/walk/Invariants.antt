-- The vertices up to the loop's are written.
use Rattle.std.proofs.Common.{◌+◌, ◌∷◌}
use Rattle.routes.proofs.Walking.{Walking}
use Rattle.routes.proofs.walk.Given as goal

abbrev pub invariant-loop-vertex : goal.invariant-loop-vertex
invariant-loop-vertex l =
    let p = l.product in
    Walking p.arcs.weights.now p.steps.now p.blocked.now p.latest.now l.table p.arcs.vertices l.start (l.start ∷ l.initial.vertex-items) (l.start ∷ l.vertex-items) l.q (l.vertex-index + 1)
