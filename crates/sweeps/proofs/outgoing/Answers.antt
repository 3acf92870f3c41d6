-- The word of vertex u is written, the others stay.
use Rattle.std.proofs.Common.{◌∙◌, arith, length-set, get_or-set_same, get_or-set_other}
use Rattle.std.proofs.Math.Logic.{by_cases}
use Rattle.std.proofs.Math.Decide.{ℕ_discrete}
use Rattle.sweeps.proofs.outgoing.Goals as goal

pub loop-u-preserved : goal.loop-u-preserved
loop-u-preserved c = (
  length-set c.loop-u.words c.loop-u.u c.outgoing_from.result ∙ c.loop-u.invariant.0,
  λ w h. by_cases (ℕ_discrete w c.loop-u.u)
      (λ e. rw e (get_or-set_same c.loop-u.words c.loop-u.u c.outgoing_from.result 0 (omega arith) ∙ c.outgoing_from.ensures))
      (λ d. get_or-set_other c.loop-u.words c.loop-u.u w c.outgoing_from.result 0 d ∙ c.loop-u.invariant.1 w (omega arith)),
)
