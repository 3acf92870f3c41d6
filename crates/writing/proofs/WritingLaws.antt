-- The book that a content comes to, and what is answered and left by the room that an area has for its bytes.
use Rattle.std.specs.Prelude.{ℕ, ◌≤◌, ◌<◌, ◌≡◌, length, drop, Ok, Err}
use Rattle.std.proofs.Common.{sym, ap, subst, le-leb}
use Rattle.std.proofs.lemmas.Bool.{lt-leb}
use mathlib.Core.List.{List, [], ◌∷◌, ◌++◌}
use Rattle.book.specs.declared.Loaded.{Loaded}
use Rattle.book.specs.declared.Refusal.TheVariants.{NoRoom}
use Rattle.book.specs.Refusal.{test, refusal_by}
use Rattle.book.specs.Book.{Book}
use Rattle.book.specs.Reading.{accepted}
use Rattle.book.specs.Tables.{IsLoaded, LoadedAs}
use Rattle.book.proofs.LoadedLaws.{leaves-accepted}
use Rattle.content.specs.Content.{content}
use Rattle.writing.specs.Kept.{Kept}
use Rattle.writing.specs.Writing.{bytes_in_order, answer_by, area_by, WritingOf}
use Rattle.writing.proofs.ContentLaws.{content-keeps}

module _ (b : Book) (area : List ℕ) where
  no_room-for : length area < length (bytes_in_order b) → WritingOf (accepted b) area (Err NoRoom) area
  no_room-for h =
      let refused = ap (λ x. refusal_by (test 18 x ∷ [])) (lt-leb (length (bytes_in_order b)) (length area) h) in
      (sym (ap (λ o. answer_by o b) refused), sym (ap (λ o. area_by o b area) refused))

  room_for : length (bytes_in_order b) ≤ length area
      → WritingOf (accepted b) area (Ok (length (bytes_in_order b))) (bytes_in_order b ++ drop (length (bytes_in_order b)) area)
  room_for h =
      let taken = ap (λ x. refusal_by (test 18 x ∷ [])) (le-leb (length (bytes_in_order b)) (length area) h) in
      (sym (ap (λ o. answer_by o b) taken), sym (ap (λ o. area_by o b area) taken))

module _ (n : ℕ) (arcs sets : List ℕ) (l : Loaded) (held : LoadedAs (content n arcs sets) (Ok l)) where
  -- The tables are those of a book that keeps the rules.
  pub book-kept : (b : Book) × Kept b l × (content n arcs sets ≡ accepted b)
  book-kept =
      let (b, is, tables) = leaves-accepted IsLoaded (content n arcs sets) l held in
      (b, record { tables = tables; keeps = (content-keeps n arcs sets b is).0 }, is)

  module _ (area : List ℕ) {bytes : List ℕ} (book-bytes : (b : Book) → Kept b l → bytes ≡ bytes_in_order b) where
    pub not-written : length area < length bytes → WritingOf (content n arcs sets) area (Err NoRoom) area
    not-written h =
        let (b, kept, is) = book-kept in
        subst (λ x. WritingOf x area (Err NoRoom) area) (sym is) (no_room-for b area (subst (λ s. length area < length s) (book-bytes b kept) h))

    pub written : length bytes ≤ length area → WritingOf (content n arcs sets) area (Ok (length bytes)) (bytes ++ drop (length bytes) area)
    written h =
        let (b, kept, is) = book-kept in
        subst (λ x. WritingOf x area (Ok (length bytes)) (bytes ++ drop (length bytes) area)) (sym is)
        (rw (book-bytes b kept) (room_for b area (subst (λ s. length s ≤ length area) (book-bytes b kept) h)))
