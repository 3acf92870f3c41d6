-- The path that was read is the field's.
use Rattle.std.proofs.Common.{subst}
use Rattle.book.specs.Reading.{with_path}
use Rattle.book.specs.Tables.{AreTables, Leaves, left}
use Rattle.book.proofs.Added.{path_part}
use Rattle.book.proofs.Loaded.path.Goals as goal

pub returns-clause-leaves : goal.returns-clause-leaves
returns-clause-leaves c b h =
    let a = c.args in
    subst (λ p. Leaves AreTables (with_path b a.at p) (left c.add_path.result c.add_path.new.self))
    (path_part a.bytes.now a.at c.field_end.result c.field_end.ensures c.requires.whole)
    (c.add_path.ensures.leaves b h)
