-- A word that grows bit by bit: one turn of a loop over the vertices.
use Rattle.std.specs.Prelude.{Bool, true, false, ◌≡◌, refl, ℕ, suc, ◌+◌, ◌*◌, ◌%◌, ◌^◌, ◌<◌, ◌≤◌}
use Rattle.std.proofs.Common.{ap, ◌∙◌, add-one, pow-suc, arith}
use native.Mathlib.Nat.{one-mul, mod-eq_of_lt}
use lib.Pow.{pow_mono, pow-lt}
use Rattle.product.specs.Word.{word}
use Rattle.product.proofs.Word.{word_lt}

-- The bit of a vertex below 64, as a shift of 1 gives it.
shifted : (v : ℕ) → v < 64 → (1 * 2 ^ v) % 2 ^ 64 ≡ 2 ^ v
shifted v h =
    let fits : 2 ^ v < 2 ^ 64 = pow-lt h in
    ap (λ x. x % 2 ^ 64) (one-mul (2 ^ v)) ∙ mod-eq_of_lt fits

module _ (p : ℕ → Bool) {marked v : ℕ} (is : marked ≡ word p v) where
  pub marked-in : v < 64 → p v ≡ true → marked + (1 * 2 ^ v) % 2 ^ 64 ≡ word p (v + 1)
  unfolding word
  marked-in b h = rw (shifted v b, add-one v, h, is) refl

  pub marked-out : p v ≡ false → marked ≡ word p (v + 1)
  unfolding word
  marked-out h = rw (add-one v, h, is) refl

  -- The word has room for the bit of v.
  pub marked-fits : v < 64 → marked + (1 * 2 ^ v) % 2 ^ 64 < 2 ^ 64
  marked-fits b =
      let double : 2 ^ suc v ≤ 2 ^ 64 = pow_mono b in
      rw (shifted v b) (omega (arith, is, word_lt p v, pow-suc 2 v))
