-- The standing walk, by what its tests say.
use Rattle.std.proofs.Common.{◌≡◌, ℕ, ◌-◌, ◌≤◌, Bool, true, false, not, ◌&&◌, List, [], ◌∷◌, length, get_or, eqb, Option, Some, None, is_some, ◌⊎◌, inl, inr, refl, sym, ap, ◌∙◌, arith, le-leb, eqb-true, eq-eqb, true≢false}
use Rattle.lists.specs.Test.{T→true, true→T, and-true}
use Rattle.walks.specs.Graph.{Graph}
use Rattle.walks.specs.Walk.{is_walk, hops}
use Rattle.walks.specs.Avoid.{avoids}
use Rattle.walks.proofs.Avoid.{avoids→Avoids, Avoids→avoids}
use Rattle.walks.specs.Feasible.{is_feasible}
use Rattle.rules.specs.Area.{spelled, valid}
use Rattle.limits.specs.Limits.{longest}
use Rattle.walk_check.specs.declared.Occurrence.{Occurrence}
use Rattle.walk_check.specs.Checking.{checkable, occurrence}
use Rattle.walk_check.proofs.CheckLaws.{clear→Avoids, Avoids→clear}
use Rattle.rules.proofs.Sets.{iff}
use Rattle.walk_check.proofs.Laws.{sizes}
use Rattle.rules.proofs.ValidLaws.{valid→Valid}

-- what `&&` comes to, by its first part
pub both : {x y v : Bool} → ((x ≡ true) × (v ≡ y)) ⊎ ((x ≡ false) × (v ≡ x)) → v ≡ x && y
both {x} {y} (inl h) = h.1 ∙ rw h.0
both {x} {y} (inr h) = h.1 ∙ h.0 ∙ rw h.0

pub only-walk : (g : Graph) (w : List ℕ) → length w ≤ longest → checkable g w ≡ is_walk g w
only-walk g w few = ap (λ x. x && is_walk g w) (le-leb _ _ few)

-- the last vertex
pub last-place : (w : List ℕ) → length w - 1 ≡ hops w
last-place [] = refl
last-place (v ∷ w) = omega arith

-- clear of the forbidden paths of a valid area
pub clear-is : (vertices : ℕ) (paths : List ℕ) (known : ℕ) (w : List ℕ) {x : Bool} → valid vertices paths known ≡ true → is_some (occurrence (spelled known paths) w) ≡ not x
    → x ≡ avoids (spelled known paths) w
clear-is vertices paths known w {x} h e =
    let F = spelled known paths in
    iff x (avoids F w)
    (λ t. T→true (avoids F w) (Avoids→avoids F w (clear→Avoids F w (sizes vertices F (valid→Valid vertices paths known h).paths) (nothing (occurrence F w) (e ∙ ap not t)))))
    (λ t. standing x (sym e ∙ ap is_some (Avoids→clear F w (avoids→Avoids F w (true→T (avoids F w) t)))))
  where
    nothing : (o : Option Occurrence) → is_some o ≡ false → o ≡ None
    nothing None e = refl
    nothing (Some p) e = absurd (true≢false e)

    standing : (y : Bool) → not y ≡ false → y ≡ true
    standing true e = refl
    standing false e = absurd (true≢false e)

pub feasible→walk : (g : Graph) (F : List (List ℕ)) (s t : ℕ) (w : List ℕ) → is_feasible g F s t w ≡ true → is_walk g w ≡ true
unfolding is_feasible
feasible→walk g F s t w e =
    let (rest, _) = and-true (is_walk g w && eqb (get_or w 0 0) s && eqb (get_or w (hops w) 0) t) (avoids F w) e in
    let (start, _) = and-true (is_walk g w && eqb (get_or w 0 0) s) (eqb (get_or w (hops w) 0) t) rest in
    (and-true (is_walk g w) (eqb (get_or w 0 0) s) start).0

pub eqb-sym : (m n : ℕ) → eqb m n ≡ eqb n m
eqb-sym m n = iff (eqb m n) (eqb n m) (λ e. eq-eqb n m (sym (eqb-true m n e))) (λ e. eq-eqb m n (sym (eqb-true n m e)))
