-- The tables of a book that was loaded are those of a book that keeps the rules.
use Rattle.std.specs.Prelude.{ℕ, suc, ◌<◌, ◌≡◌, List, [], ◌∷◌, get_or, Ok}
use Rattle.book.specs.declared.Loaded.{Loaded}
use Rattle.book.specs.Book.{Book}
use Rattle.book.specs.Reading.{accepted, reading}
use Rattle.book.specs.Tables.{IsLoaded, LoadedAs}
use Rattle.book.proofs.LoadedLaws.{leaves-accepted}
use Rattle.book_bytes.specs.Bytes.{AreBytes}
use Rattle.book_bytes.proofs.Written.{read_keeps}
use Rattle.writing.specs.Kept.{Kept}

bytes-are : (s : List ℕ) → ((i : ℕ) → get_or s i 0 < 256) → AreBytes s
bytes-are [] each = tt
bytes-are (x ∷ s) each = (each 0, bytes-are s (λ i. each (suc i)))

pub loaded-kept : (s : List ℕ) → ((i : ℕ) → get_or s i 0 < 256) → (l : Loaded) → LoadedAs (reading s) (Ok l) → (b : Book) × Kept b l × (reading s ≡ accepted b)
loaded-kept s each l held =
    let (b, is, tables) = leaves-accepted IsLoaded (reading s) l held in
    (b, record { tables = tables; keeps = read_keeps s (bytes-are s each) b is }, is)
