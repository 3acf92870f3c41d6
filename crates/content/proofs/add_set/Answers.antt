-- What it needs is taken.
use Rattle.std.proofs.Common.{subst}
use Rattle.book.specs.Tables.{LoadedAs, left}
use Rattle.content.specs.Content.{a_set, with_item}
use Rattle.content.proofs.LoadingLaws.{set-loaded}
use Rattle.content.proofs.add_set.Goals as goal

pub returns : goal.returns
returns c b h =
    let (is, flags) = c.in_ok-needs.ensures in
    subst (λ f. LoadedAs (with_item b c.args.i (a_set f)) (left c.add_set.result c.add_set.new.self)) is
    (set-loaded b c.args.i c.args.book.now h c.add_set.result c.add_set.new.self c.in_ok-needs.needs flags (c.add_set.ensures.leaves b h.tables))
