-- The entries of an area, tested one at a time.
use Prim.Native.Nat.{ℕ, ◌+◌, ◌-◌, ◌*◌, ◌≤◌, ◌<◌}
use mathlib.Core.Bool.{Bool, true, false, ◌||◌}
use mathlib.Core.List.{List, [], ◌∷◌, map}
use mathlib.Core.Path.{◌≡◌, refl, ap, ◌∙◌}
use native.Mathlib.Omega.{arith}
use lib.ListN.{take, drop}
use Rattle.lists.specs.Test.{any, all}
use Rattle.rules.specs.Area.{blocks}
use Rattle.rules.proofs.AreaLaws.{blocks_from}

pub any-map : (f : List ℕ → Bool) (g : List ℕ → List ℕ) (l : List (List ℕ)) → any f (map g l) ≡ any (λ x. f (g x)) l
any-map f g [] = refl
any-map f g (x ∷ l) = ap (λ y. f (g x) || y) (any-map f g l)

-- ---- the entries from k on
pub blocks_start : (n : ℕ) (t : List ℕ) → blocks (n - 0) (drop (0 * 9) t) ≡ blocks n t
blocks_start n t = ap (λ m. blocks m t) (let all_left : n - 0 ≡ n = omega arith in all_left)

module _ (f : List ℕ → Bool) (n k : ℕ) (t : List ℕ) where
  none_left : n ≤ k → blocks (n - k) (drop (k * 9) t) ≡ []
  unfolding blocks
  none_left past = ap (λ m. blocks m (drop (k * 9) t)) (let none : n - k ≡ 0 = omega arith in none)

  pub any_past : n ≤ k → any f (blocks (n - k) (drop (k * 9) t)) ≡ false
  any_past past = ap (any f) (none_left past)

  pub all_past : n ≤ k → all f (blocks (n - k) (drop (k * 9) t)) ≡ true
  all_past past = ap (all f) (none_left past)

  module _ (more : k < n) where
    pub any_here : f (take 9 (drop (k * 9) t)) ≡ true → any f (blocks (n - k) (drop (k * 9) t)) ≡ true
    any_here e = ap (any f) (blocks_from n k t more) ∙ rw e

    pub any-later : f (take 9 (drop (k * 9) t)) ≡ false → any f (blocks (n - k) (drop (k * 9) t)) ≡ any f (blocks (n - (k + 1)) (drop ((k + 1) * 9) t))
    any-later e = ap (any f) (blocks_from n k t more) ∙ rw e

    pub all_here : f (take 9 (drop (k * 9) t)) ≡ false → all f (blocks (n - k) (drop (k * 9) t)) ≡ false
    all_here e = ap (all f) (blocks_from n k t more) ∙ rw e

    pub all-later : f (take 9 (drop (k * 9) t)) ≡ true → all f (blocks (n - k) (drop (k * 9) t)) ≡ all f (blocks (n - (k + 1)) (drop ((k + 1) * 9) t))
    all-later e = ap (all f) (blocks_from n k t more) ∙ rw e
