-- The arcs of the pairs from here on are still to be written.
use mathlib.Core.List.{flat_map}
use Rattle.book.specs.Book.{Book}
use Rattle.book_bytes.specs.Bytes.{arc_field}
use Rattle.writing.specs.Rising.{rising}
use Rattle.writing.specs.Kept.{Kept}
use Rattle.writing.proofs.Pieces.{Left}
use Rattle.writing.proofs.ArcsLaws.{arcs_from}
use Rattle.writing.proofs.fields.arcs.Given as goal

abbrev pub invariant-loop-pair : goal.invariant-loop-pair
invariant-loop-pair l =
    (b : Book) → Kept b l.book → Left (flat_map arc_field (rising b.arcs)) l.initial.out.items (flat_map arc_field (arcs_from b l.pair)) l.out.items
