use Rattle.std.proofs.Common.{eqb, ◌∙◌, rules}
use borrow.Author.Tests.{tests}
use Rattle.std.specs.Cmp.Lexicographic.{pointwise}
use Rattle.std.proofs.lemmas.Iterator.Search.{any_from_yields_List}
use Rattle.rules.specs.Area.{blocks}
use Rattle.rules.proofs.Chunks.{YieldsList-from_chunks, any-member}
use Rattle.rules.proofs.area.found.Goals as goal

pub returns : goal.returns
returns c =
    let entry = c.args.entry.now in
    let table = c.args.table.now in
    any_from_yields_List (pointwise eqb entry) _ _ _ c.any.ensures.ran
    (YieldsList-from_chunks c.args.n table c.requires (search rules) (search rules))
    (λ x b q k. search (rules, tests))
    ∙ any-member entry (blocks c.args.n table)
