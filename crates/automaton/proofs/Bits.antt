-- Bits of a word, and a bit that is set.
use mathlib.Core.Path.{◌≡◌, ap, ◌∙◌}
use Prim.Native.Nat.{ℕ, ◌+◌, ◌-◌, ◌*◌, ◌/◌, ◌%◌, ◌^◌, max, ◌<◌}
use native.Mathlib.Nat.{zero-div, div_self, div-eq_of_lt}
use native.Mathlib.Omega.{arith}
use native.Mathlib.Decide.{dec_lt}
use lib.Bits.{bit_or, or_step, or_shr}
use lib.Pow.{pow_pos, pow-lt, pow-add, shl-shr}
use Rattle.automaton.specs.Built.{bit}

pub bit-zero : (v : ℕ) → bit 0 v ≡ 0
bit-zero v = rw zero-div

pub bit_or_lem : (a b v : ℕ) → bit (bit_or a b) v ≡ max (bit a v) (bit b v)
bit_or_lem a b v = ap (λ (x : ℕ). x % 2) (or_shr a b v ∙ or_step (a / 2 ^ v) (b / 2 ^ v)) ∙ omega arith

pub bit-same : (v : ℕ) → bit (2 ^ v) v ≡ 1
bit-same v = rw (div_self (pow_pos v))

pub bit-other : (v u : ℕ) → (u ≡ v → ⊥) → bit (2 ^ v) u ≡ 0
bit-other v u d = cases (dec_lt u v)
  where
    cases : Dec (u < v) → bit (2 ^ v) u ≡ 0
    cases (yes h) =
        let k = v - u - 1 in
        let power : 2 ^ v ≡ 2 ^ k * 2 * 2 ^ u = ap (λ (x : ℕ). 2 ^ x) (let s : v ≡ k + 1 + u = omega arith in s) ∙ pow-add 2 (k + 1) u ∙ ap (λ (x : ℕ). x * 2 ^ u) (pow-add 2 k 1) in
        ap (λ (x : ℕ). x / 2 ^ u % 2) power ∙ ap (λ (x : ℕ). x % 2) (shl-shr (2 ^ k * 2) u) ∙ omega arith
    cases (no h) = rw (div-eq_of_lt (pow-lt {i = v} {j = u} (omega arith)))
