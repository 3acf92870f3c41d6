use Rattle.std.proofs.Common.{◌∙◌, arith}
use Rattle.walk_check.proofs.Pairs.{pair-turn}
use Rattle.walk_check.proofs.Walks.{not-vertex, not_arc, left-next, as_checked}
use Rattle.walk_check.proofs.walk.is_walk.Goals as goal
use Rattle.walk_check.proofs.walk.is_walk.Goals.{then-arcs-v-via-then-arcs-v, then-arcs-v-via-else-arcs-v+then-arcs-u}

pub returns-then-arcs-v : goal.returns-then-arcs-v
returns-then-arcs-v c = λ b g.
    let t = pair-turn c.loop-pair.pair-iterator c.next.new.self c.in-Some.pair c.loop-pair.invariant.2 c.in-Some.ensures.steps in
    let left = c.loop-pair.invariant.3 b g in
    as_checked b c.args.walk.now c.if-walk-gt-LONGEST.false
    (elim c.then-arcs-v.branch [
      | then-arcs-v-via-then-arcs-v w ↦ not-vertex left g t.two (c.from-u.ensures ∙ t.first) (c.from-v.ensures ∙ t.second) w.if-arcs-v.true
      | then-arcs-v-via-else-arcs-v+then-arcs-u w ↦ not_arc left g t.two (c.from-u.ensures ∙ t.first) (c.from-v.ensures ∙ t.second) w.if-arcs-v.false w.if-arcs-u.true
    ])

pub loop-pair-preserved : goal.loop-pair-preserved
loop-pair-preserved c =
    let t = pair-turn c.loop-pair.pair-iterator c.next.new.self c.in-Some.pair c.loop-pair.invariant.2 c.in-Some.ensures.steps in (
      omega (arith, c.in-Some.ensures.steps.0),
      tt,
      c.in-Some.ensures.steps.0 ∙ c.loop-pair.invariant.2,
      λ b g. rw t.next (left-next (c.loop-pair.invariant.3 b g) g t.two (c.from-u.ensures ∙ t.first) (c.from-v.ensures ∙ t.second) c.if-arcs-v.false c.if-arcs-u.false),
    )
