-- The runs area spells its paths, and the table is that of the book's graph.
use Rattle.std.proofs.Common.{sym}
use Rattle.book.specs.Book.{graph}
use Rattle.book.proofs.LoadedLaws.{graph-few, graph-weights}
use Rattle.rules.specs.Area.{spelled}
use Rattle.rules.proofs.ValidLaws.{valid→Valid}
use Rattle.planner.proofs.ValidArea.{valid-spells, valid-bounded, valid-given}
use Rattle.planner.proofs.find.Goals as goal

pub best_walk-requires-clause-given : goal.best_walk-requires-clause-given
best_walk-requires-clause-given c = valid-given _ _ _ (graph-few c.requires.graph.1) (valid→Valid _ _ _ c.requires.valid_paths)

pub best_walk-requires-clause-weighed : goal.best_walk-requires-clause-weighed
best_walk-requires-clause-weighed c =
    let (b, g) = c.requires.graph in
    (graph b, sym g.vertices_are, graph-weights g)

pub returns : goal.returns
returns c b g =
    let v = valid→Valid _ _ _ c.requires.valid_paths in
    rw c.from.ensures at
    (c.best_walk.ensures (graph b) (spelled c.args.paths.count c.args.paths.bytes.now) (sym g.vertices_are) (graph-weights g)
    (valid-spells _ _ _ (graph-few g) v) (valid-bounded _ _ _ (graph-few g) v))
