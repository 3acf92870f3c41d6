-- What a rule set needs is written, then its paths.
use Rattle.std.specs.Prelude.{◌+◌, refl, get_or, drop}
use mathlib.Core.List.{flat_map}
use Rattle.book.specs.Book.{all_paths}
use Rattle.book.specs.Tables.{nothing_needed}
use Rattle.book_bytes.specs.Bytes.{needs_field, path_field, set_fields, longest_book}
use Rattle.writing.specs.Kept.{set_at}
use Rattle.writing.proofs.Pieces.{left_all, left_none, left_next, left_room}
use Rattle.writing.proofs.SetsLaws.{set_listed, no_set_left, set_left}
use Rattle.writing.proofs.fields.sets.Goals as goal

pub loop-k-init : goal.loop-k-init
unfolding all_paths
loop-k-init c b kept = (refl, left_all)

pub needs-requires : goal.needs-requires
needs-requires c =
    let (b, kept, room) = c.requires.room in
    let k = c.loop-k.k in
    record { room = left_room (needs_field (get_or c.args.book.now.needs k nothing_needed)) _ (c.loop-k.invariant b kept).1 (set_left kept k c.loop-k-test.true) longest_book room }

pub paths-j-requires : goal.paths-j-requires
paths-j-requires c =
    let (b, kept, room) = c.requires.room in
    let k = c.loop-k.k in
    let (first, before) = c.loop-k.invariant b kept in
    record {
      room = (
        b,
        record { kept = kept; listed = set_listed kept k c.loop-k-test.true; first = first },
        left_room (flat_map path_field (set_at b k).paths) (flat_map set_fields (drop (k + 1) b.sets))
            (left_next _ _ before (set_left kept k c.loop-k-test.true) c.needs.ensures) refl longest_book room,
      );
    }

pub loop-k-preserved : goal.loop-k-preserved
loop-k-preserved c b kept =
    let k = c.loop-k.k in
    let (first, before) = c.loop-k.invariant b kept in
    let (next, written) = c.paths-j.ensures b (record { kept = kept; listed = set_listed kept k c.loop-k-test.true; first = first }) in (
      next,
      left_next (flat_map path_field (set_at b k).paths) (flat_map set_fields (drop (k + 1) b.sets))
          (left_next _ _ before (set_left kept k c.loop-k-test.true) c.needs.ensures) refl written,
    )

pub returns : goal.returns
returns c b kept = left_none (c.loop-k.invariant b kept).1 (no_set_left kept c.loop-k.k c.loop-k-test.false)
