-- The rule sets from here on are still to be written, and the first path of the next is known.
use Rattle.std.specs.Prelude.{◌≡◌, drop}
use mathlib.Core.List.{flat_map}
use Rattle.book.specs.Book.{Book}
use Rattle.book_bytes.specs.Bytes.{set_fields}
use Rattle.writing.specs.Kept.{Kept, first_path}
use Rattle.writing.proofs.Pieces.{Left}
use Rattle.writing.proofs.fields.sets.Given as goal

abbrev pub invariant-loop-k : goal.invariant-loop-k
invariant-loop-k l =
    (b : Book) → Kept b l.book
    → (l.j ≡ first_path b l.k) × Left (flat_map set_fields b.sets) l.initial.out.items (flat_map set_fields (drop l.k b.sets)) l.out.items
