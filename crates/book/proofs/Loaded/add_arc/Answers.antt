-- The arc is entered, and counted where it is.
use Rattle.std.proofs.lemmas.Result.{err_from_is_err_and}
use Rattle.book.specs.Reading.{arc_of}
use Rattle.book.proofs.ArcField.{arc-refused, arc-counted}
use Rattle.book.proofs.Loaded.add_arc.Goals as goal

pub returns-in_err-enter_arc-clause-leaves : goal.returns-in_err-enter_arc-clause-leaves
returns-in_err-enter_arc-clause-leaves c b h =
    let a = c.args in
    let p = err_from_is_err_and c.from_residual.result c.from_residual.ensures.1 in
    rw (p.1, p.2) (arc-refused a.self.now b a.at h (arc_of a.arc) _ _ (c.in_err-enter_arc.ensures.enters b h.graph))

pub returns-clause-leaves : goal.returns-clause-leaves
returns-clause-leaves c b h =
    let a = c.args in
    arc-counted a.self.now b a.at h (arc_of a.arc) _ (c.in_ok-enter_arc.ensures.enters b h.graph)
