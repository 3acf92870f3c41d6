-- An arc more is added.
use Rattle.std.proofs.Common.{[], ◌++◌, ◌*◌, drop, ap, arith}
use Rattle.std.proofs.lemmas.List.{take_rest}
use Rattle.write_cases.specs.Inputs.{arc_numbers}
use Rattle.write_cases.proofs.InputLaws.{arcs-first, arcs_on, arcs-last}
use Rattle.write_cases.proofs.KeptLaws.{adds_none, adds_then, adds_as}
use Rattle.write_cases.proofs.input.add_arcs.Goals as goal

pub loop-k-init : goal.loop-k-init
loop-k-init c = ([], arcs-first c.args.n c.args.input.now, adds_none c.args.out.now.items)

pub loop-k-preserved : goal.loop-k-preserved
loop-k-preserved c =
    let s = c.args.input.now in
    let (xs, all, added) = c.loop-k.invariant in (
      xs ++ arc_numbers (drop (c.loop-k.k * 6) s),
      arcs_on c.args.n c.loop-k.k s _ xs (omega (arith, c.loop-k-test.true)) all,
      adds_then xs _ added (adds_as (ap arc_numbers (take_rest s (c.loop-k.k * 6))) c.add_arc.ensures),
    )

pub returns-clause-numbers : goal.returns-clause-numbers
returns-clause-numbers c =
    let s = c.args.input.now in
    let (xs, all, added) = c.loop-k.invariant in
    adds_as (arcs-last c.args.n c.loop-k.k (drop (c.loop-k.k * 6) s) _ xs (omega (arith, c.loop-k-test.false)) all) added
