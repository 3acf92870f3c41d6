-- The table of ends is filled under the known paths of the book, and its lines are those of the board.
use Rattle.std.proofs.Common.{sym, ◌∙◌, ap, length, arith}
use Rattle.book.proofs.LoadedLaws.{loaded, graph-few}
use Rattle.rules.specs.Area.{valid}
use Rattle.rules.proofs.Laws.{gathered_valid}
use Rattle.text.proofs.Writing.{wrote_as}
use Rattle.board_text.proofs.BoardLaws.{undated, filled_text, wrote_printed}
use Rattle.board_text.proofs.board_lines.Goals as goal

pub fill-requires-clause-valid_paths : goal.fill-requires-clause-valid_paths
fill-requires-clause-valid_paths c =
    let f = loaded _ c.in_ok-book.book c.in_ok-book.ensures in
    let (counted, filled) = c.gather-count.ensures f.book f.tables.sets in
    ap (λ n. valid n c.gather-count.new.area c.gather-count.result) (c.arcs.ensures.vertices ∙ f.tables.graph.vertices_are)
    ∙ gathered_valid c.from_bytes-batch.result f.book f.tables.graph.well counted filled

pub returns-then-not-is_valid : goal.returns-then-not-is_valid
returns-then-not-is_valid c =
    let l = c.in_ok-book.book in
    let f = loaded _ l c.in_ok-book.ensures in
    record {
      written = (
        c.requires.blank,
        undated c.args.input.now l c.in-len7-up.len_at_least f (omega arith) c.from_bytes-batch.result c.from_bytes-batch.ensures
            (sym c.is_valid.ensures ∙ c.if-not-is_valid.true),
      );
    }

pub returns : goal.returns
returns c =
    let l = c.in_ok-book.book in
    let f = loaded _ l c.in_ok-book.ensures in
    let text = filled_text c.args.input.now l c.in-len7-up.len_at_least f (omega arith) c.from_bytes-batch.result c.from_bytes-batch.ensures (sym c.is_valid.ensures ∙ c.if-not-is_valid.false)
    c.gather-count.result c.gather-count.new.area (c.gather-count.ensures f.book f.tables.sets)
    c.arcs.result.vertices c.arcs.result.weights.now c.arcs.ensures.vertices c.arcs.ensures.weights _ c.fill.new.table c.fill.ensures in
    let few = graph-few f.tables.graph in
    record {
      written =
          wrote_printed c.args.input.now c.requires.blank (wrote_as _ (sym text) c.lines.ensures.written)
          (omega (arith, c.lines.ensures.short, ap length c.requires.blank, few));
    }
