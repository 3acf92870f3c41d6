use Rattle.std.proofs.Common.{◌∷◌, add-one, sym, arith, take}
use Rattle.std.specs.Prelude.{get_or}
use Rattle.text.specs.Text.{decimal, followed}
use Rattle.text.proofs.TextLaws.{followed-none, followed-next}
use Rattle.text.proofs.Writing.{wrote_none, wrote_as, wrote_then}
use Rattle.text.proofs.followed.Goals as goal

pub loop-v-init : goal.loop-v-init
loop-v-init g c = record { written = rw followed-none (wrote_none c.args.out.now.items); short = omega arith }

pub loop-v-preserved : goal.loop-v-preserved
loop-v-preserved g c =
    let walk = c.args.walk.now in
    let i = c.loop-v.v-index in
    let old = c.args.out.now.items in
    record {
      written =
          rw add-one (wrote_as old (sym (followed-next walk i c.loop-v-test.true))
          (wrote_then (followed (take i walk)) (32 ∷ decimal (get_or walk i 0)) old c.loop-v.invariant.written c.vertex.ensures.written));
      short = omega arith;
    }
