-- By a turn of the loop, which writes what `base_entry` says.
use Rattle.std.proofs.Common.{◌≡◌, cond, refl, ap, ◌∙◌, arith}
use Rattle.distances.specs.Table.{inf}
use Rattle.product.specs.Base.{is_towards, vertex_of}
use Rattle.product.proofs.Looping.{base-none, base-next}
use Rattle.product.proofs.Product.base.Goals as goal
use Rattle.product.proofs.Product.base.Goals.{then-counted, else-counted}

pub loop-q-init : goal.loop-q-init
loop-q-init c = base-none _ _ _ _

pub loop-q-preserved : goal.loop-q-preserved
loop-q-preserved c =
    let entry : c.if-counted.entry ≡ cond c.counts-counted.result 0 inf = elim c.if-counted.branch [
      | then-counted w ↦ w.entry-is ∙ rw w.if-counted.true refl
      | else-counted w ↦ w.entry-is ∙ rw w.if-counted.false refl
    ] in
    base-next (is_towards c.args.goal) c.args.self.latest.now (vertex_of c.args.goal) c.args.table.now c.loop-q.q (omega arith) (entry ∙ ap (λ b. cond b 0 inf) c.counts-counted.ensures) c.loop-q.invariant
