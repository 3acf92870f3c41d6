-- The next case of a stream lies in the front of the buffer.
use Rattle.std.specs.Prelude.{ℕ, ◌≤◌, ◌≡◌, List, length, take, drop, Option, None, Some}
use Rattle.std.specs.Int.{from_be_bytes, w32}
use Rattle.std.proofs.Common.{subst}

abbrev pub FitsIn : Option ℕ → List ℕ → Type 0
FitsIn (Some n) l = n ≤ length l
FitsIn None l = Unit

pub case_fits : (r : Option ℕ) (n : ℕ) (l : List ℕ) → FitsIn r l → r ≡ Some n → n ≤ length l
case_fits r n l fits is = subst (λ x. FitsIn x l) is fits

-- The n bytes in the front of l are the frame at the front of a stream, where the bytes of that are known: n in four bytes, high byte
-- first, and then the n bytes.
abbrev pub IsFrame : ℕ → Option (List ℕ) → List ℕ → Type 0
IsFrame n (Some s) l = (n ≡ from_be_bytes w32 s) × (take n l ≡ take n (drop 4 s))
IsFrame n None l = Unit
