-- The flags that a rule set needs are held exactly if masking them leaves them as they are.
use Rattle.std.proofs.Common.{◌≡◌, ℕ, zero, suc, ◌+◌, ◌*◌, ◌/◌, ◌%◌, ◌^◌, ◌<◌, ◌&&◌, eqb, leb, bit_and, refl, sym, ap₂, ◌∙◌, arith, eq-eqb, eqb-true}
use Rattle.std.proofs.lemmas.Nat.{and_block, and_le_l}
use Rattle.lists.specs.Test.{and-true}
use Rattle.rules.proofs.Sets.{iff}
use Rattle.rules.specs.Binding.{covers}

-- one flag
one-held : (r s : ℕ) → r < 2 → s < 2 → eqb (bit_and r s) r ≡ leb r s
one-held zero zero h k = refl
one-held zero (suc zero) h k = refl
one-held (suc zero) zero h k = refl
one-held (suc zero) (suc zero) h k = refl
one-held zero (suc (suc s)) h k = absurd (omega arith)
one-held (suc zero) (suc (suc s)) h k = absurd (omega arith)
one-held (suc (suc r)) s h k = absurd (omega arith)

pub held-covers : (k n h : ℕ) → n < 2 ^ k → eqb (bit_and n h) n ≡ covers k n h
unfolding covers
held-covers zero n h b = eq-eqb (bit_and n h) n (omega (arith, and_le_l n h))
held-covers (suc k) n h b =
    let later = held-covers k (n / 2) (h / 2) (omega arith) in
    let low : ℕ = bit_and (n % 2) (h % 2) in
    let high : ℕ = bit_and (n / 2) (h / 2) in
    let split : bit_and n h ≡ high * 2 + low =
    ap₂ bit_and (let e : n ≡ n / 2 * 2 ^ 1 + n % 2 = omega arith in e) (let e : h ≡ h / 2 * 2 ^ 1 + h % 2 = omega arith in e)
    ∙ and_block 1 (n / 2) (h / 2) (n % 2) (h % 2) (omega arith) (omega arith) in
    let small = and_le_l (n % 2) (h % 2) in
    let front = and_le_l (n / 2) (h / 2) in
    iff (eqb (bit_and n h) n) (leb (n % 2) (h % 2) && covers k (n / 2) (h / 2))
    (λ e. let whole = eqb-true (bit_and n h) n e in
    ap₂ (λ x y. x && y) (sym (one-held (n % 2) (h % 2) (omega arith) (omega arith)) ∙ eq-eqb low (n % 2) (omega arith)) (sym later ∙ eq-eqb high (n / 2) (omega arith)))
    (λ e. let (a, c) = and-true (leb (n % 2) (h % 2)) (covers k (n / 2) (h / 2)) e in
    let p = eqb-true low (n % 2) (one-held (n % 2) (h % 2) (omega arith) (omega arith) ∙ a) in
    let q = eqb-true high (n / 2) (later ∙ c) in
    eq-eqb (bit_and n h) n (omega arith))
