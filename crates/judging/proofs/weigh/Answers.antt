use Rattle.std.proofs.Common.{◌∙◌, arith}
use Rattle.book.proofs.LoadedLaws.{graph-weights}
use Rattle.walk_check.proofs.Pairs.{pair-turn}
use Rattle.judging.proofs.Weighing.{next-weighed}
use Rattle.judging.proofs.weigh.Goals as goal

pub loop-pair-preserved : goal.loop-pair-preserved
loop-pair-preserved c =
    let t = pair-turn c.loop-pair.pair-iterator c.next.new.self c.in-Some.pair c.loop-pair.invariant.2 c.in-Some.ensures.steps in (
      omega (arith, c.in-Some.ensures.steps.0),
      tt,
      c.in-Some.ensures.steps.0 ∙ c.loop-pair.invariant.2,
      λ b g e. rw (t.next, c.from-sum.ensures) (next-weighed (c.loop-pair.invariant.3 b g e) (graph-weights g) t.two (c.from-u.ensures ∙ t.first) (c.from-v.ensures ∙ t.second)),
    )
