-- The count, the arcs and the rule sets, one after another.
use Rattle.std.specs.Prelude.{ℕ, ◌≤◌, ◌+◌, ◌≡◌, refl, length}
use Rattle.std.proofs.Common.{sym, ap, ◌∙◌, arith}
use mathlib.Core.List.{List, [], ◌∷◌, ◌++◌, append_assoc, append-nil, flat_map}
use Rattle.book.specs.declared.Loaded.{Loaded}
use Rattle.book.specs.Book.{Book}
use Rattle.book_bytes.specs.Bytes.{field_of, count_field, arc_field, set_fields, bytes_of, longest_book}
use Rattle.writing.specs.Rising.{rising}
use Rattle.writing.specs.Kept.{Kept}
use Rattle.writing.specs.Writing.{bytes_in_order}
use Rattle.writing.proofs.RisingLaws.{short_in_order}
use Rattle.writing.proofs.Pieces.{Left, left_all, left_none, left_next, left_room}
use Rattle.writing.proofs.bytes.Goals as goal

-- a buffer without a byte, and after each piece
module _ {b : Book} {l : Loaded} (kept : Kept b l) {old : List ℕ} (blank : old ≡ []) where
  abbrev arcs : List ℕ
  arcs = flat_map arc_field (rising b.arcs)

  abbrev sets : List ℕ
  sets = flat_map set_fields b.sets

  room : length old + length (bytes_in_order b) ≤ longest_book
  room = omega (arith, ap length blank, short_in_order b kept.keeps)

  pieces : bytes_in_order b ≡ field_of 1 (l.counts.vertices ∷ []) ++ (arcs ++ sets)
  unfolding bytes_of
  pieces = append_assoc (count_field b.count) arcs sets ∙ ap (λ n. count_field n ++ (arcs ++ sets)) (sym kept.tables.graph.vertices_are)

  module _ {counted : List ℕ} (count : counted ≡ old ++ field_of 1 (l.counts.vertices ∷ [])) where
    after_count : Left (bytes_in_order b) old (arcs ++ sets) counted
    after_count = left_next _ _ left_all pieces count

    arcs_room : length counted + length arcs ≤ longest_book
    arcs_room = left_room arcs sets after_count refl longest_book room

    module _ {joined : List ℕ} (join : joined ≡ counted ++ arcs) where
      after_arcs : Left (bytes_in_order b) old sets joined
      after_arcs = left_next arcs sets after_count refl join

      sets_room : length joined + length sets ≤ longest_book
      sets_room = left_room sets [] after_arcs (sym (append-nil sets)) longest_book room

      whole : {new : List ℕ} → new ≡ joined ++ sets → new ≡ bytes_in_order b
      whole e = left_none (left_next sets [] after_arcs (sym (append-nil sets)) e) refl ∙ ap (λ o. o ++ bytes_in_order b) blank

pub arcs-requires : goal.arcs-requires
arcs-requires c =
    let (b, kept) = c.requires in
    record { room = (b, kept, arcs_room kept c.new-out.ensures c.field.ensures) }

pub sets-requires : goal.sets-requires
sets-requires c =
    let (b, kept) = c.requires in
    record { room = (b, kept, sets_room kept c.new-out.ensures c.field.ensures (c.arcs.ensures b kept)) }

pub returns : goal.returns
returns c b kept = whole kept c.new-out.ensures c.field.ensures (c.arcs.ensures b kept) (c.sets.ensures b kept)
