-- The distances are those from the start, and the entries are read off them.
use Rattle.std.proofs.Common.{◌*◌, ◌++◌, drop, refl, ap, ◌∙◌, lit<, arith}
use Rattle.states.specs.Count.{most_states}
use Rattle.states.proofs.Count.{few-states}
use Rattle.measuring.specs.Work.{blank_work}
use Rattle.ends.proofs.Filled.{measured_standing, measured_ends}
use Rattle.end_search.proofs.search_ends.Goals as goal

pub measure-measures-requires : goal.measure-measures-requires
measure-measures-requires c =
    let given = c.requires.given in
    (lit< tt, (given, (c.requires.weighed, blank_work _ most_states _ (few-states c.args.arcs.vertices c.args.paths.count given.bounded.few-vertices (omega (arith, given.spells.paths, given.bounded.few))) refl)))

pub fill_ends-requires-clause-standing : goal.fill_ends-requires-clause-standing
fill_ends-requires-clause-standing c =
    let given = c.requires.given in
    let (graph, count-is, weighed) = c.requires.weighed in
    measured_standing (c.measure-measures.ensures.measured_all graph given.paths count-is weighed given.spells given.bounded)

pub returns : goal.returns
returns c graph F count-is weighed spells bounded =
    c.fill_ends.ensures
    ∙ ap (λ l. l ++ drop (2 * c.args.arcs.vertices) c.args.ends.now) (measured_ends (c.measure-measures.ensures.measured_all graph F count-is weighed spells bounded) bounded c.requires.start_below)
