-- Vertex v is in the word exactly if it is open and the entry falls over it.
use Rattle.std.proofs.Common.{sym, ◌∙◌, arith}
use Rattle.routes.proofs.Choosing.{open_test, choosing_none, choosing_in, choosing_out, chosen-fits, usable-yes, usable_dear, usable_shut}
use Rattle.routes.proofs.usable.Goals as goal
use Rattle.routes.proofs.usable.Goals.{then-is_open+then-table-r, then-is_open+else-table-r, else-is_open}

pub loop-v-init : goal.loop-v-init
loop-v-init c = choosing_none _ _

pub overflow_add-word : goal.overflow_add-word
overflow_add-word c = record { fits = chosen-fits c.loop-v.invariant (omega arith) }

pub loop-v-preserved : goal.loop-v-preserved
loop-v-preserved c =
    let p = c.args.product in
    let opened = c.is_open.ensures ∙ open_test p.arcs.weights.now p.steps.now p.blocked.now p.latest.now c.args.q c.loop-v.v c.loop-v.bits c.loop-v.invariant.left_is in
    elim c.if-is_open.branch [
      | then-is_open+then-table-r w ↦ rw w.word-is (choosing_in c.loop-v.invariant (omega arith) (usable-yes (sym opened ∙ w.if-is_open.true) w.if-table-r.true))
      | then-is_open+else-table-r w ↦ rw w.word-is (choosing_out c.loop-v.invariant (usable_dear (sym opened ∙ w.if-is_open.true) w.if-table-r.false))
      | else-is_open w ↦ rw w.word-is (choosing_out c.loop-v.invariant (usable_shut _ (sym opened ∙ w.if-is_open.false)))
    ]
