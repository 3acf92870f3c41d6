-- A set more, its needs right after the others'.
use Rattle.std.proofs.Common.{sym, ◌∙◌}
use Rattle.book.proofs.Added.{set-added}
use Rattle.book.proofs.Loaded.add_set.Goals as goal

pub returns-clause-leaves : goal.returns-clause-leaves
returns-clause-leaves c b h =
    let a = c.args in
    set-added a.self.now b h a.at a.needs (sym c.is_valid.ensures ∙ c.if-not-is_valid.false) c.if-k-ge-MOST_SETS.false
