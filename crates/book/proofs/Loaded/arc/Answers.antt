-- The arc that was read is the field's.
use Rattle.std.proofs.Common.{subst}
use Rattle.book.specs.Reading.{with_arc}
use Rattle.book.specs.Tables.{AreTables, Leaves, left}
use Rattle.book.proofs.ArcField.{arc-read}
use Rattle.book.proofs.Loaded.arc.Goals as goal

pub returns-clause-leaves : goal.returns-clause-leaves
returns-clause-leaves c b h =
    let a = c.args in
    let read = arc-read a.bytes.now a.at _ _ _ c.from.ensures c.from-2.ensures c.u32_at.ensures in
    subst (λ x. Leaves AreTables (with_arc b a.at x) (left c.add_arc.result c.add_arc.new.self)) read (c.add_arc.ensures.leaves b h)
