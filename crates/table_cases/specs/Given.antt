-- The numbers of a table that a case gives, four bytes each.
use Rattle.std.specs.Prelude.{ℕ, zero, suc, ◌+◌, ◌*◌, ◌<◌, ◌≤◌, List, [], ◌∷◌, ◌++◌, ◌≡◌, refl, length, drop, set}
use Rattle.std.proofs.Common.{append_assoc, ◌∙◌, add-one, arith, length-append, length-drop, drop-cons}
use Rattle.std.proofs.lemmas.List.{set_at}
use Rattle.record_bytes.specs.Numbers.{four_at}

-- The first n of those that start at a place of s.
unfoldable pub fours : List ℕ → ℕ → ℕ → List ℕ
fours s from zero = []
fours s from (suc n) = fours s from n ++ (four_at s (from + n * 4) ∷ [])

pub length-fours : (s : List ℕ) (from n : ℕ) → length (fours s from n) ≡ n
unfolding fours
length-fours s from zero = refl
length-fours s from (suc n) = rw length-append (omega (arith, length-fours s from n))

written : (front old : List ℕ) (k x : ℕ) → length front ≡ k → k < length old → set (front ++ drop k old) k x ≡ (front ++ (x ∷ [])) ++ drop (k + 1) old
written front old k x size room = rw (drop-cons old k 0 room, add-one, append_assoc) (set_at front _ (drop (suc k) old) x k size)

-- A table whose first n numbers are given.
abbrev pub given : List ℕ → ℕ → ℕ → List ℕ → List ℕ
given s from n old = fours s from n ++ drop n old

pub given-none : (s : List ℕ) (from : ℕ) (old : List ℕ) → given s from 0 old ≡ old
unfolding fours
given-none s from old = refl

pub length-given : (s : List ℕ) (from n : ℕ) (old : List ℕ) → n ≤ length old → length (given s from n old) ≡ length old
length-given s from n old room = simp (length-append, length-drop, length-fours) (omega (arith, room))

pub given-next : (s : List ℕ) (from n : ℕ) (old : List ℕ) → n < length old → set (given s from n old) n (four_at s (from + n * 4)) ≡ given s from (n + 1) old
unfolding fours
given-next s from n old room = written (fours s from n) old n (four_at s (from + n * 4)) (length-fours s from n) room ∙ rw (add-one n) refl
