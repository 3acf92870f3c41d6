-- What `usable` has done when it is at vertex v, and what one turn of its loop does.
use Rattle.std.proofs.Common.{Bool, true, false, not, List, ◌&&◌, ◌≡◌, ◌≢◌, refl, sym, ap, ◌∙◌, ℕ, ◌+◌, ◌*◌, ◌/◌, ◌%◌, ◌^◌, ◌<◌, eqb, eq-eqb, ne_eqb, get_or, add-one, pow-suc}
use native.Mathlib.Nat.{div-one, div-div-eq-div-mul}
use Rattle.limits.specs.Limits.{no_arc}
use Rattle.product.specs.Product.{arc_at, is_open}
use Rattle.product.specs.Word.{word}
use Rattle.product.proofs.Marking.{marked-in, marked-out, marked-fits}

-- The bits that are left after v halvings have the bit of v at their lowest place.
next-half : (x v : ℕ) → x / 2 ^ v / 2 ≡ x / 2 ^ (v + 1)
next-half x v = div-div-eq-div-mul x (2 ^ v) 2 ∙ ap (λ y. x / y) (sym (ap (λ y. 2 ^ y) (add-one v) ∙ pow-suc 2 v))

pub open_test : (weights steps blockeds latests : List ℕ) (q v left : ℕ) → left ≡ get_or blockeds q 0 / 2 ^ v
    → not (eqb (arc_at weights steps blockeds latests q v) no_arc) && eqb (left % 2) 0 ≡ is_open weights steps blockeds latests q v
open_test weights steps blockeds latests q v left e = ap (λ x. not (eqb (arc_at weights steps blockeds latests q v) no_arc) && eqb (x % 2) 0) e

pub record Choosing (p : ℕ → Bool) (bits left chosen v : ℕ) : Type 0 where
  pub left_is : left ≡ bits / 2 ^ v
  pub chosen_is : chosen ≡ word p v

pub choosing_none : (p : ℕ → Bool) (bits : ℕ) → Choosing p bits bits 0 0
unfolding word
choosing_none p bits = record { left_is = sym (div-one bits); chosen_is = refl }

module _ {p : ℕ → Bool} {bits left chosen v : ℕ} (c : Choosing p bits left chosen v) where
  pub choosing_in : v < 64 → p v ≡ true → Choosing p bits (left / 2) (chosen + (1 * 2 ^ v) % 2 ^ 64) (v + 1)
  choosing_in b h = record { left_is = ap (λ x. x / 2) c.left_is ∙ next-half bits v; chosen_is = marked-in p c.chosen_is b h }

  pub choosing_out : p v ≡ false → Choosing p bits (left / 2) chosen (v + 1)
  choosing_out h = record { left_is = ap (λ x. x / 2) c.left_is ∙ next-half bits v; chosen_is = marked-out p c.chosen_is h }

  pub chosen-fits : v < 64 → chosen + (1 * 2 ^ v) % 2 ^ 64 < 2 ^ 64
  chosen-fits = marked-fits p c.chosen_is

-- The test of a usable vertex by its parts: it is open, and the entry falls.
pub usable-yes : {o : Bool} {x y : ℕ} → o ≡ true → x ≡ y → o && eqb x y ≡ true
usable-yes {x = x} {y} o e = rw (o, eq-eqb x y e)

pub usable_dear : {o : Bool} {x y : ℕ} → o ≡ true → x ≢ y → o && eqb x y ≡ false
usable_dear {x = x} {y} o e = rw (o, ne_eqb x y e)

pub usable_shut : {o : Bool} (e : Bool) → o ≡ false → o && e ≡ false
usable_shut e o = rw o
