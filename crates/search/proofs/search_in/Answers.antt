-- The distances are those to the end, and the best walk is read off them.
use Rattle.walks.proofs.Avoid.{Avoids-single}
use Rattle.search.proofs.search_in.Goals as goal

pub least_walk-requires-clause-measured : goal.least_walk-requires-clause-measured
least_walk-requires-clause-measured g c =
    let asked = c.requires.asked in
    let (graph, count-is, weighed) = asked.weighed in
    let of = c.of-product.ensures in
    rw (of.vertices, of.weights, of.steps, of.blocked, of.latest) (graph, asked.given.paths, c.args.end, c.measure-measures.ensures.measured_all graph asked.given.paths count-is weighed asked.given.spells asked.given.bounded)

pub returns : goal.returns
returns g c graph F count-is weighed spells bounded =
    let of = c.of-product.ensures in
    c.least_walk.ensures graph F c.args.end
    (rw (of.vertices, of.weights, of.steps, of.blocked, of.latest) (c.measure-measures.ensures.measured_all graph F count-is weighed spells bounded))
    (Avoids-single bounded.long c.args.start)
