-- The tests that led to each return are those of an arc, the table standing for the arcs so far.
use Rattle.std.proofs.Common.{sym, ◌∙◌, arith}
use Rattle.book.specs.Reading.{arc_of}
use Rattle.book.proofs.ArcField.{arc-repeated, arc-added}
use Rattle.book.proofs.field.enter_arc.Goals as goal

pub returns-then-weights-pair-clause-enters : goal.returns-then-weights-pair-clause-enters
returns-then-weights-pair-clause-enters c b h =
    let a = c.args in
    arc-repeated a.vertices b a.weights.now h a.at (arc_of a.arc) (sym c.is_proper.ensures ∙ c.if-not-is_proper.false) _ (omega arith) c.if-weights-pair.true

pub returns-clause-enters : goal.returns-clause-enters
returns-clause-enters c b h =
    let a = c.args in
    arc-added a.vertices b a.weights.now h a.at (arc_of a.arc) (sym c.is_proper.ensures ∙ c.if-not-is_proper.false) _ (omega arith) c.if-weights-pair.false
