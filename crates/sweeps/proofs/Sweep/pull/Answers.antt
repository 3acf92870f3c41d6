-- Each turn takes the edge over the lowest vertex that is left.
use Rattle.std.proofs.Common.{suc, ◌<◌, refl, ap, sym, ◌∙◌, arith}
use Rattle.std.specs.Int.Count.{count_trailing_zeros}
use Rattle.distances.specs.Table.{lowest}
use Rattle.product.specs.Product.{edges_from}
use Rattle.product.proofs.Visit.{ahead-all, visited-all}
use Rattle.sweeps.proofs.Visiting.{visit-head, visit-light, visit-rest, pulled}
use Rattle.sweeps.proofs.Sweep.pull.Goals as goal
use Rattle.sweeps.proofs.Sweep.pull.Goals.{then-reach-least, else-reach-least}

pub loop-left-init : goal.loop-left-init
unfolding edges_from
loop-left-init c = (0, ahead-all c.open-left.ensures, refl)

pub bounds-old-head : goal.bounds-old-head
bounds-old-head c = visit-head c.args.self.product c.requires.ready.fits c.requires.within c.loop-left.invariant.1 (omega arith)

pub overflow_mul-reach : goal.overflow_mul-reach
overflow_mul-reach c = record { fits = omega (arith, visit-light c.args.self.product c.requires.ready.fits c.requires.within c.loop-left.invariant.1 (omega arith)) }

pub overflow_add-reach-in-loop-left : goal.overflow_add-reach-in-loop-left
overflow_add-reach-in-loop-left c = record { fits = omega (arith, visit-light c.args.self.product c.requires.ready.fits c.requires.within c.loop-left.invariant.1 (omega arith)) }

pub loop-left-preserved : goal.loop-left-preserved
loop-left-preserved c =
    let p = c.args.self.product in
    let some : 0 < c.loop-left.left = omega arith in
    let a = c.loop-left.invariant.1 in
    let low = pulled p c.requires.ready.fits c.requires.within a some c.args.old.now c.args.entry in (
      suc (count_trailing_zeros 64 c.loop-left.left),
      visit-rest p c.requires.ready.fits c.requires.within a some,
      elim c.if-reach-least.branch [
        | then-reach-least w ↦ rw w.least-is (omega (arith, low, c.loop-left.invariant.2, w.if-reach-least.true))
        | else-reach-least w ↦ rw w.least-is (omega (arith, low, c.loop-left.invariant.2, w.if-reach-least.false))
      ],
    )

pub returns : goal.returns
returns c =
    let p = c.args.self.product in
    c.loop-left.invariant.2 ∙ ap (λ es. lowest c.args.old.now es c.args.entry) (sym (visited-all p.arcs.weights.now p.steps.now p.blocked.now p.latest.now c.args.q (rw c.loop-left-test.false at c.loop-left.invariant.1)))
