-- The counts are those of the book that was read.
use Rattle.std.proofs.Common.{sym, ap, subst, ◌∙◌}
use Rattle.walks.specs.Weights.{Weights}
use Rattle.book.specs.Book.{graph}
use Rattle.book.proofs.LoadedLaws.{loaded, graph-weights}
use Rattle.pass_counts.specs.Most.{most_from}
use Rattle.pass_cases.proofs.count.Goals as goal

pub passes_to_each-requires : goal.passes_to_each-requires
passes_to_each-requires c =
    let f = loaded _ c.in_ok-book.book c.in_ok-book.ensures in
    record {
      weighed = (
        graph f.book,
        sym (c.arcs.ensures.vertices ∙ f.tables.graph.vertices_are),
        subst (Weights (graph f.book)) (sym c.arcs.ensures.weights) (graph-weights f.tables.graph),
      );
    }

pub returns : goal.returns
returns c =
    let f = loaded _ c.in_ok-book.book c.in_ok-book.ensures in
    let vertices = f.tables.graph.vertices_are in
    rw f.is (record {
      vertices_are = vertices;
      passes_are =
          c.passes_to_each.ensures (graph f.book) (sym (c.arcs.ensures.vertices ∙ vertices)) (subst (Weights (graph f.book)) (sym c.arcs.ensures.weights) (graph-weights f.tables.graph));
      most_is = c.most_changes.ensures ∙ ap (λ n. most_from c.args.bytes.now n n) vertices;
    })
