-- The count, the arcs, and the rule sets.
use Rattle.std.proofs.lemmas.Result.{err_from_is_err_and}
use Rattle.content.proofs.LoadingLaws.{count-begun, count-refused, content-arcs, content-sets, arcs-begun}
use Rattle.content.proofs.load.Goals as goal

pub returns-in_err-add_count : goal.returns-in_err-add_count
returns-in_err-add_count c =
    let a = c.args in
    let p = err_from_is_err_and c.from_residual.result c.from_residual.ensures.1 in
    rw (p.1, p.2) (count-refused a.vertices c.blank-book.result c.blank-book.ensures a.arcs.now a.sets.now _ c.in_err-add_count.ensures.leaves)

pub add_arcs-requires : goal.add_arcs-requires
add_arcs-requires c =
    let (b, _, begun, none) = count-begun c.args.vertices c.blank-book.result c.blank-book.ensures c.add_count.new.self c.in_ok-add_count.ensures.leaves in
    record { begun = (b, begun, none) }

pub returns-in_err-add_arcs : goal.returns-in_err-add_arcs
returns-in_err-add_arcs c =
    let a = c.args in
    let p = err_from_is_err_and c.from_residual-in_err-add_arcs.result c.from_residual-in_err-add_arcs.ensures.1 in
    let (b, e, begun, none) = count-begun a.vertices c.blank-book.result c.blank-book.ensures c.add_count.new.self c.in_ok-add_count.ensures.leaves in
    rw (p.1, p.2) (content-arcs a.vertices a.arcs.now a.sets.now b e _ (c.in_err-add_arcs.ensures b begun none))

pub add_sets-requires-clause-begun : goal.add_sets-requires-clause-begun
add_sets-requires-clause-begun c =
    let (b, _, begun, none) = count-begun c.args.vertices c.blank-book.result c.blank-book.ensures c.add_count.new.self c.in_ok-add_count.ensures.leaves in
    let (d, _, then) = arcs-begun 1 _ b c.add_arcs.new.book begun.some-vertex (c.in_ok-add_arcs.ensures b begun none) in
    (d, then)

pub returns-in_err-add_sets : goal.returns-in_err-add_sets
returns-in_err-add_sets c =
    let a = c.args in
    let p = err_from_is_err_and c.from_residual-in_err-add_sets.result c.from_residual-in_err-add_sets.ensures.1 in
    let (b, e, begun, none) = count-begun a.vertices c.blank-book.result c.blank-book.ensures c.add_count.new.self c.in_ok-add_count.ensures.leaves in
    let (d, is, then) = arcs-begun 1 _ b c.add_arcs.new.book begun.some-vertex (c.in_ok-add_arcs.ensures b begun none) in
    rw (p.1, p.2) (content-sets a.vertices a.arcs.now a.sets.now b e d is _ (c.in_err-add_sets.ensures d then))

pub returns : goal.returns
returns c =
    let a = c.args in
    let (b, e, begun, none) = count-begun a.vertices c.blank-book.result c.blank-book.ensures c.add_count.new.self c.in_ok-add_count.ensures.leaves in
    let (d, is, then) = arcs-begun 1 _ b c.add_arcs.new.book begun.some-vertex (c.in_ok-add_arcs.ensures b begun none) in
    content-sets a.vertices a.arcs.now a.sets.now b e d is _ (c.in_ok-add_sets.ensures d then)
