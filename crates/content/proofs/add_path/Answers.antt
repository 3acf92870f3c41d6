-- A path of a length that it may have is taken if its vertices are bytes; else one of them is no vertex.
use Rattle.std.proofs.Common.{sym, subst, ◌∙◌}
use Rattle.book.specs.Reading.{with_path}
use Rattle.book.specs.Tables.{AreTables, Leaves, left}
use Rattle.content.specs.Content.{a_path, with_item}
use Rattle.content.proofs.LoadingLaws.{vertex-refused, refused-loaded, path-loaded}
use Rattle.content.proofs.add_path.Goals as goal

pub returns-in_default : goal.returns-in_default
returns-in_default c b h some =
    let a = c.args in
    refused-loaded (with_item b a.i (a_path a.path.now)) _ a.book.now
    (vertex-refused b a.i a.path.now h.tables.graph.well.few-vertices (sym c.is_path_length.ensures ∙ c.if-not-is_path_length.false) c.in_default.ensures)

pub returns : goal.returns
returns c b h some =
    let a = c.args in
    path-loaded b a.i a.book.now h c.add_path.result c.add_path.new.self a.path.now some (sym c.is_path_length.ensures ∙ c.if-not-is_path_length.false)
    (subst (λ p. Leaves AreTables (with_path b a.i p) (left c.add_path.result c.add_path.new.self)) c.in-Some.ensures (c.add_path.ensures.leaves b h.tables))
