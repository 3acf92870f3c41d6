-- What was built and measured is what was asked for.
use Rattle.routes.proofs.Planned.{prepared-fits}
use Rattle.product.specs.Base.{is_towards, vertex_of}
use Rattle.measuring.specs.Work.{front-prepared, back_measured}
use Rattle.measuring.proofs.measure.Goals as goal

pub distances-passes-requires-clause-fits : goal.distances-passes-requires-clause-fits
distances-passes-requires-clause-fits c =
    let given = c.requires.given in
    let (graph, count-is, weighed) = c.requires.weighed in
    prepared-fits (front-prepared given.spells (c.build-states.ensures given.paths given.spells given.bounded) c.args.table.now c.requires.room.entries count-is weighed)

pub returns-clause-measured_all : goal.returns-clause-measured_all
returns-clause-measured_all c graph F count-is weighed spells bounded =
    back_measured spells (c.build-states.ensures F spells bounded) c.args.table.now c.requires.room.entries c.distances-passes.new.table c.distances-passes.auto.table count-is weighed (is_towards c.args.goal)
    (vertex_of c.args.goal) c.distances-passes.ensures.after
