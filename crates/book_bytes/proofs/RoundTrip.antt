-- The theorem: a byte string is read as a book exactly when the book keeps the rules and the bytes are its own; and what follows from it.
use Rattle.std.specs.Prelude.{ℕ, ◌≤◌, ◌↔◌, ◌≡◌, refl, List, [], length}
use Rattle.std.proofs.Common.{sym, ap, ◌∙◌, arith}
use Rattle.book.specs.declared.Refusal.{Refusal}
use Rattle.book.specs.Book.{Book}
use Rattle.book.specs.Reading.{Reading, accepted, refused, reading}
use Rattle.book_bytes.specs.Bytes.{AreBytes, bytes_of, Keeps, longest_book}
use Rattle.book_bytes.proofs.ReadsLaws.{book-reads, reads-fields}
use Rattle.book_bytes.proofs.Written.{read_keeps, read-bytes}
use Rattle.book_bytes.proofs.LongBook.{longest-book}

-- Every book that keeps the rules is read.
pub every_book_read : (b : Book) → Keeps b → reading (bytes_of b) ≡ accepted b
unfolding reading bytes_of
every_book_read b keeps = reads-fields (book-reads b keeps) [] (length (bytes_of b)) (omega arith)

pub round_trip : (s : List ℕ) → AreBytes s → (b : Book) → (reading s ≡ accepted b) ↔ (Keeps b × (s ≡ bytes_of b))
round_trip s bytes b = (λ e. (read_keeps s bytes b e, read-bytes s bytes b e), λ h. ap reading h.1 ∙ every_book_read b h.0)

-- Nothing else is read: bytes are refused exactly when they are no such book's.
pub refused_otherwise : (s : List ℕ) → AreBytes s → ((r : Refusal) × (reading s ≡ refused r)) ↔ ((b : Book) → Keeps b → s ≡ bytes_of b → ⊥)
refused_otherwise s bytes = (other, go (reading s) refl)
  where
    other : (r : Refusal) × (reading s ≡ refused r) → (b : Book) → Keeps b → s ≡ bytes_of b → ⊥
    other (r, e) b keeps same =
        let read : reading s ≡ accepted b = (round_trip s bytes b).1 (keeps, same) in
        let no : ◌≡◌ {A = ℕ} 0 1 = cc in
        omega arith

    go : (x : Reading) → reading s ≡ x → ((b : Book) → Keeps b → s ≡ bytes_of b → ⊥) → (r : Refusal) × (reading s ≡ refused r)
    go (accepted b) e none = absurd (none b (read_keeps s bytes b e) (read-bytes s bytes b e))
    go (refused r) e none = (r, e)

-- No two byte strings are the same book ...
pub same-book : (s t : List ℕ) → AreBytes s → AreBytes t → (b : Book) → reading s ≡ accepted b → reading t ≡ accepted b → s ≡ t
same-book s t s-bytes t-bytes b e d = read-bytes s s-bytes b e ∙ sym (read-bytes t t-bytes b d)

-- ... and no two books have the same bytes.
pub same_bytes : (b c : Book) → Keeps b → Keeps c → bytes_of b ≡ bytes_of c → b ≡ c
same_bytes b c b-keeps c-keeps e = cc (every_book_read b b-keeps, every_book_read c c-keeps)

-- No book is longer than the longest.
pub longest-bytes : (b : Book) → Keeps b → length (bytes_of b) ≤ longest_book
longest-bytes b keeps = longest-book (bytes_of b) b (every_book_read b keeps)
