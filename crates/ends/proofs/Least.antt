-- The laws of what specs/Least.antt defines.
use Rattle.std.specs.Prelude.{cond, [], ◌∷◌, ◌++◌, ◌≡◌, refl, ℕ, zero, suc, ◌*◌, ◌/◌, ◌%◌, ◌<◌, ◌≤◌, length}
use Rattle.std.proofs.Common.{ap, ap₂, arith, lt-ltb, le-ltb, length-append}
use Rattle.distances.specs.Table.{inf}
use Rattle.distances.specs.Pack.{hops_limit}
use Rattle.ends.specs.Ends.{no_end}
use Rattle.ends.specs.Least.{told, numbers}

pub told-near : (x : ℕ) → x < inf → told x ≡ x / hops_limit ∷ x % hops_limit ∷ []
told-near x h = ap (λ b. cond b (x / hops_limit) no_end ∷ cond b (x % hops_limit) no_end ∷ []) (lt-ltb x inf h)

pub told-far : (x : ℕ) → inf ≤ x → told x ≡ no_end ∷ no_end ∷ []
told-far x h = ap (λ b. cond b (x / hops_limit) no_end ∷ cond b (x % hops_limit) no_end ∷ []) (le-ltb x inf h)

pub length-numbers : (f : ℕ → ℕ) (n : ℕ) → length (numbers f n) ≡ 2 * n
unfolding numbers
length-numbers f zero = refl
length-numbers f (suc n) = rw length-append (omega (arith, length-numbers f n))

pub numbers-same : (f f' : ℕ → ℕ) (n : ℕ) → ((v : ℕ) → v < n → f v ≡ f' v) → numbers f n ≡ numbers f' n
unfolding numbers
numbers-same f f' zero same = refl
numbers-same f f' (suc n) same = ap₂ (λ l x. l ++ told x) (numbers-same f f' n (λ v h. same v (omega arith))) (same n (omega arith))
