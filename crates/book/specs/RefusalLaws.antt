-- Laws of the first test that fails.
use Rattle.std.specs.Prelude.{◌≡◌, true, false, List, ◌∷◌}
use Rattle.book.specs.declared.Refusal.{Refusal}
use Rattle.book.specs.Refusal.{Test}
use Rattle.book.specs.Book.{All}

abbrev pub Hold : List Test → Type 0
Hold ts = All (λ t. t.holds ≡ true) ts

-- The tests before one hold, and that one fails.
pub data Fails : List Test → Refusal → Type 0 where
  here : {t : Test} {ts : List Test} → t.holds ≡ false → Fails (t ∷ ts) t.refusal
  later : {t : Test} {ts : List Test} {r : Refusal} → t.holds ≡ true → Fails ts r → Fails (t ∷ ts) r
