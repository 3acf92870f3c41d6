-- A pair with the mark of no arc adds nothing, and any other adds its arc.
use Rattle.std.specs.Prelude.{◌+◌}
use mathlib.Core.List.{flat_map}
use Rattle.std.proofs.Common.{ap, ◌∙◌}
use Rattle.book_bytes.specs.Bytes.{arc_field, longest_book}
use Rattle.writing.proofs.Pieces.{left_as, left_none, left_next, left_room}
use Rattle.writing.proofs.ArcsLaws.{arcs_from, arc_at, fields_past, no_field_here, field_here}
use Rattle.writing.proofs.fields.arcs.Goals as goal
use Rattle.writing.proofs.fields.arcs.Goals.{then-weight, else-weight}

pub arc-requires-clause-room : goal.arc-requires-clause-room
arc-requires-clause-room c =
    let (b, kept, room) = c.requires.room in
    let k = c.loop-pair.pair in
    left_room (arc_field (arc_at c.args.book.now.weights k)) (flat_map arc_field (arcs_from b (k + 1))) (c.loop-pair.invariant b kept)
    (field_here kept.tables.graph k c.loop-pair-test.true c.if-weight.true) longest_book room

pub loop-pair-preserved : goal.loop-pair-preserved
loop-pair-preserved c b kept =
    let k = c.loop-pair.pair in
    let before = c.loop-pair.invariant b kept in
    elim c.if-weight.branch [
      | then-weight w ↦
          left_next (arc_field (arc_at c.args.book.now.weights k)) (flat_map arc_field (arcs_from b (k + 1))) before
          (field_here kept.tables.graph k c.loop-pair-test.true w.if-weight.true) (ap (λ o. o.items) w.out-is ∙ w.arc.ensures)
      | else-weight w ↦ rw w.out-is (left_as before (no_field_here kept.tables.graph k c.loop-pair-test.true w.if-weight.false))
    ]

pub returns : goal.returns
returns c b kept = left_none (c.loop-pair.invariant b kept) (fields_past b c.loop-pair.pair c.loop-pair-test.false)
