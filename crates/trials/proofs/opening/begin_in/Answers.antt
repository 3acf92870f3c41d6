-- The known paths, the walk and the record, where nothing is refused.
use Rattle.std.proofs.Common.{sym, ◌∙◌, arith, length-take-le}
use Rattle.rules.proofs.Laws.{gathered_valid}
use Rattle.trials.proofs.Beginning.{begun-short, begun}
use Rattle.trials.proofs.opening.begin_in.Goals as goal

pub find-found-requires-clause-valid_paths : goal.find-found-requires-clause-valid_paths
find-found-requires-clause-valid_paths c =
    let (b, h) = c.requires in
    let (counted, filled) = c.gather-count.ensures b h.sets in
    rw (c.arcs-arcs.ensures.vertices, h.graph.vertices_are) (gathered_valid _ b h.graph.well counted filled)

pub copy_from_slice-requires : goal.copy_from_slice-requires
copy_from_slice-requires c = omega (arith, length-take-le 2304 c.args.paths.now (omega arith), c.gather-count.auto.area)

pub replanned-requires : goal.replanned-requires
replanned-requires c =
    let a = c.args in
    let (b, h) = c.requires in
    let (counted, filled) = c.gather-count.ensures b h.sets in
    begun-short b h _ a.start a.end a.paths.now a.walk.now (omega arith) (omega arith) (omega arith) (omega arith) counted filled
    c.find-found.result c.find-found.new.walk (c.find-found.ensures b (rw (c.arcs-arcs.ensures.vertices, c.arcs-arcs.ensures.weights) h.graph))

pub returns : goal.returns
returns c b h =
    let a = c.args in
    let (counted, filled) = c.gather-count.ensures b h.sets in
    rw (c.replanned.ensures, c.new.ensures, c.copy_from_slice.ensures.after)
    (begun b h a.batch a.start a.end a.paths.now a.walk.now (omega arith) (omega arith) (omega arith) (omega arith) counted filled
    c.find-found.result c.find-found.new.walk (c.find-found.ensures b (rw (c.arcs-arcs.ensures.vertices, c.arcs-arcs.ensures.weights) h.graph))
    (sym c.is_valid.ensures ∙ c.if-not-is_valid.false))
