-- Each report leads on where the list from its place leads, and behind the last one none is left.
use Rattle.std.proofs.Common.{◌∙◌}
use Rattle.kinds.proofs.Stepped.{made-next, made-last}
use Rattle.kinds.proofs.replaying.make_all.Goals as goal

pub loop-made-preserved : goal.loop-made-preserved
loop-made-preserved g c =
    rw c.record_of-rec.ensures (made-next _ _ _ _ _ _ c.in-Some.made c.in-Some.ensures ∙ c.loop-made.invariant)

pub returns : goal.returns
returns g c = made-last _ _ c.args.reports.now c.loop-made.at _ _ c.in_default.ensures ∙ c.loop-made.invariant
