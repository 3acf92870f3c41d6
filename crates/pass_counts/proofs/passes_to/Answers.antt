-- There are no more states than vertices, and what was measured without forbidden paths is counted.
use Rattle.std.proofs.Common.{◌≤◌, [], refl, arith, lit<, length-take-le}
use Rattle.limits.specs.Limits.{most_vertices}
use Rattle.automaton.specs.Area.{spells_nil}
use Rattle.measuring.specs.Work.{blank_work}
use Rattle.measuring.proofs.Counted.{measured-counted, bounded-nil}
use Rattle.pass_counts.proofs.passes_to.Goals as goal

pub measure-requires : goal.measure-requires
measure-requires c =
    let (g, count-is, weighed) = c.requires.weighed in
    let few : c.args.arcs.vertices ≤ most_vertices = omega (arith, count-is, weighed.few) in
    (lit< tt, (record { paths = []; spells = spells_nil []; bounded = bounded-nil _ few }, (c.requires.weighed, blank_work _ most_vertices _ (omega arith) refl)))

pub returns : goal.returns
returns c g count-is weighed =
    let few : c.args.arcs.vertices ≤ most_vertices = omega (arith, count-is, weighed.few) in
    measured-counted (c.measure.ensures.measured_all g [] count-is weighed (spells_nil []) (bounded-nil _ few)) (length-take-le c.measure.result.states _ (omega arith)) c.measure.ensures.counted
