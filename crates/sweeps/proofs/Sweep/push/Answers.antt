-- Each turn takes the edge over the lowest vertex that is left. By a state that is not reached no entry is lowered.
use Rattle.std.proofs.Common.{suc, ◌<◌, refl, ap, sym, ◌∙◌, arith}
use Rattle.std.specs.Int.Count.{count_trailing_zeros}
use Rattle.distances.specs.Table.{relaxes}
use Rattle.distances.specs.Reverse.{swap, swapped}
use Rattle.distances.proofs.Rows.{relax-lower, relax-kept, relaxes-kept}
use Rattle.product.specs.Product.{edges_from, edge_over}
use Rattle.product.specs.View.{edges_of}
use Rattle.product.proofs.Edges.{edges-tail, swapped-head}
use Rattle.product.proofs.Visit.{ahead-all, visited-all}
use Rattle.sweeps.proofs.Visiting.{visit-head, visit-light, visit-rest, pushed}
use Rattle.sweeps.proofs.Sweep.push.Goals as goal
use Rattle.sweeps.proofs.Sweep.push.Goals.{then-reach-new, else-reach-new}

pub returns-then-here-eq-INF : goal.returns-then-here-eq-INF
returns-then-here-eq-INF c =
    let p = c.args.self.product in
    sym (relaxes-kept c.args.old.now (swapped (edges_of p c.args.q)) c.args.new.now
    (λ e i. rw (swapped-head (edges_of p c.args.q) (edges-tail p.arcs.weights.now p.steps.now p.blocked.now p.latest.now c.args.q p.arcs.vertices) e i) (omega (arith, c.requires.new_capped e.tail, c.if-here-eq-INF.true))))

pub loop-left-init : goal.loop-left-init
unfolding edges_from
loop-left-init c = (0, ahead-all c.open-left.ensures, refl)

pub overflow_mul-reach : goal.overflow_mul-reach
overflow_mul-reach c = record { fits = omega (arith, visit-light c.args.self.product c.requires.ready.fits c.requires.within c.loop-left.invariant.1 (omega arith)) }

pub overflow_add-reach-in-loop-left : goal.overflow_add-reach-in-loop-left
overflow_add-reach-in-loop-left c = record { fits = omega (arith, visit-light c.args.self.product c.requires.ready.fits c.requires.within c.loop-left.invariant.1 (omega arith)) }

pub bounds-new-head : goal.bounds-new-head
bounds-new-head c = omega (arith, visit-head c.args.self.product c.requires.ready.fits c.requires.within c.loop-left.invariant.1 (omega arith), c.requires.same_length, c.loop-left.auto.new)

pub loop-left-preserved : goal.loop-left-preserved
loop-left-preserved c =
    let p = c.args.self.product in
    let some : 0 < c.loop-left.left = omega arith in
    let a = c.loop-left.invariant.1 in
    let v = count_trailing_zeros 64 c.loop-left.left in
    let e = swap (edge_over p.arcs.weights.now p.steps.now p.blocked.now p.latest.now c.args.q v) in
    let turned = pushed p c.requires.ready.fits c.requires.within a some c.args.old.now c.args.new.now in (
      suc v,
      visit-rest p c.requires.ready.fits c.requires.within a some,
      elim c.if-reach-new.branch [
        | then-reach-new w ↦ rw w.new-is (sym (turned ∙ rw (← c.loop-left.invariant.2) (relax-lower c.args.old.now e c.loop-left.new w.if-reach-new.true)))
        | else-reach-new w ↦ rw w.new-is (sym (turned ∙ rw (← c.loop-left.invariant.2) (relax-kept c.args.old.now e c.loop-left.new (omega (arith, w.if-reach-new.false)))))
      ],
    )

pub returns : goal.returns
returns c =
    let p = c.args.self.product in
    c.loop-left.invariant.2 ∙ ap (λ es. relaxes c.args.old.now (swapped es) c.args.new.now) (sym (visited-all p.arcs.weights.now p.steps.now p.blocked.now p.latest.now c.args.q (rw c.loop-left-test.false at c.loop-left.invariant.1)))
