-- By what a turn of the loop makes of the word.
use Rattle.std.proofs.Common.{refl, arith, eq-eqb, ne_eqb}
use Rattle.product.specs.Word.{word}
use Rattle.product.proofs.Marking.{marked-in, marked-out, marked-fits}
use Rattle.sweeps.specs.Outgoing.{is_arc}
use Rattle.sweeps.proofs.outgoing_from.Goals as goal
use Rattle.sweeps.proofs.outgoing_from.Goals.{then-arcs-row, else-arcs-row}

pub loop-v-init : goal.loop-v-init
unfolding word
loop-v-init c = refl

pub overflow_add-word : goal.overflow_add-word
overflow_add-word c = record { fits = marked-fits (is_arc c.args.arcs.weights.now c.args.u) c.loop-v.invariant (omega arith) }

pub loop-v-preserved : goal.loop-v-preserved
loop-v-preserved c =
    let p = is_arc c.args.arcs.weights.now c.args.u in
    elim c.if-arcs-row.branch [
      | then-arcs-row w ↦ rw w.word-is (marked-in p c.loop-v.invariant (omega arith) (rw (ne_eqb _ _ w.if-arcs-row.true)))
      | else-arcs-row w ↦ rw w.word-is (marked-out p c.loop-v.invariant (rw (eq-eqb _ _ w.if-arcs-row.false)))
    ]
