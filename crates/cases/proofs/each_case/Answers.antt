-- A frame more, and what is served behind it.
use Rattle.std.proofs.Common.{take, refl, ◌∷◌}
use denote.Param.Always.{mut_next}
use Rattle.std.proofs.lemmas.Fn.{called_at}
use Rattle.cases.proofs.each_case.Goals as goal

pub loop-preserved : goal.loop-preserved
loop-preserved g c = (
  mut_next g.F.FnMut _ _ _ _ _ c.answer.ensures refl c.loop.invariant.0,
  λ s.
      c.loop.invariant.1 (
        take c.in-Some.size c.next_case.new.buffer ∷ s.0,
        s.1,
        (_, c.in-Some.ensures.taken, s.2),
        (_, called_at g.F.FnMut c.answer.ensures refl, s.3),
      ),
)
