use Rattle.std.proofs.Common.{eqb, sym, ◌∙◌, rules}
use borrow.Author.Tests.{tests, eqb-true}
use Rattle.std.specs.Cmp.Lexicographic.{pointwise}
use Rattle.std.proofs.lemmas.Iterator.Search.{any_from_yields_List}
use Rattle.judging.proofs.Occurring.{YieldsList-from_windows, among-windows, empty-occurs, some-vertex}
use Rattle.judging.proofs.occurs.Goals as goal

pub returns-then-is_empty : goal.returns-then-is_empty
returns-then-is_empty c =
    c.if-is_empty.true ∙ sym (empty-occurs c.args.path.now c.args.walk.now (eqb-true _ _ (sym c.is_empty.ensures ∙ c.if-is_empty.true)))

pub returns-else-is_empty : goal.returns-else-is_empty
returns-else-is_empty c =
    let path = c.args.path.now in
    let walk = c.args.walk.now in
    let some = some-vertex path (sym c.is_empty.ensures ∙ c.if-is_empty.false) in
    any_from_yields_List (pointwise eqb path) _ _ _ c.any.ensures.ran
    (YieldsList-from_windows _ walk some c.windows.ensures.rest c.windows.ensures.size)
    (λ x b q k. search (rules, tests))
    ∙ among-windows path walk some
