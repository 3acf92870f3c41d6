-- The laws of what specs/Cost.antt defines.
use Rattle.std.specs.Prelude.{◌≡◌, ℕ, ◌≤◌}
use Rattle.std.proofs.Common.{inl, inr, arith, le_trans}
use Rattle.walks.proofs.Order.{Tiebreak-antisym}
use Rattle.walks.proofs.Preorder.{Tiebreak-trans}
use Rattle.states.specs.Cost.{Cost, ◌≤ᶜ◌, via}

pub ≤ᶜ-trans : {x y z : Cost} → x ≤ᶜ y → y ≤ᶜ z → x ≤ᶜ z
≤ᶜ-trans = Tiebreak-trans le_trans

pub ≤ᶜ-antisym : {x y : Cost} → x ≤ᶜ y → y ≤ᶜ x → x ≡ y
≤ᶜ-antisym {x} {y} p q =
    let h = Tiebreak-antisym p q in
    let k : x.hops ≡ y.hops = omega arith in
    λ i. record { weight = h.0 i; hops = k i }

pub via_mono : (a : ℕ) {x y : Cost} → x ≤ᶜ y → via a x ≤ᶜ via a y
via_mono a (inl p) = inl (omega arith)
via_mono a (inr p) = inr (omega arith)

pub via_cancel : (a : ℕ) {x y : Cost} → via a x ≤ᶜ via a y → x ≤ᶜ y
via_cancel a (inl p) = inl (omega arith)
via_cancel a (inr p) = inr (omega arith)
