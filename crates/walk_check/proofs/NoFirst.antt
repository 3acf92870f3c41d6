-- Where no number from n on passes, there is no first.
use Prim.Native.Nat.{ℕ, zero, suc, ◌+◌, ◌-◌, ◌≤◌}
use Rattle.std.specs.Prelude.{Bool, false}
use Rattle.std.proofs.Common.{arith}
use Rattle.std.proofs.Math.Option.{none}
use Rattle.std.proofs.Math.Path.{◌≡◌, refl}
use Rattle.walk_check.specs.Checking.{first_from}

-- ---- the first number that passes
pub first-none : (p : ℕ → Bool) (k n : ℕ) → ((m : ℕ) → n ≤ m → p m ≡ false) → first_from p k n ≡ none
unfolding first_from
first-none p zero n h = refl
first-none p (suc k) n h = rw (h n (omega arith)) (first-none p k (suc n) (λ m l. h m (omega arith)))
