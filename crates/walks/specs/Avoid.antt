-- Occurrence of a path in a walk, and avoidance of a set of paths.
use Rattle.std.specs.Prelude.{Bool, true, false, not, ◌&&◌, ◌||◌, ◌≡◌, ℕ, ◌≤◌, eqb, length}
use mathlib.Core.List.{List, [], ◌∷◌, ◌++◌, Memᴰ}
use Rattle.lists.specs.Test.{any}

-- r stands in w as consecutive vertices.
pub record Occurs (r w : List ℕ) : Type 0 where
  pub before : List ℕ
  pub after : List ℕ
  pub split : w ≡ before ++ (r ++ after)

-- w begins with r.
abbrev pub is_prefix : List ℕ → List ℕ → Bool
is_prefix [] w = true
is_prefix (a ∷ r) [] = false
is_prefix (a ∷ r) (b ∷ w) = eqb a b && is_prefix r w

abbrev pub same : List ℕ → List ℕ → Bool
same p q = is_prefix p q && eqb (length p) (length q)

-- The test of occurrence: at the front, or further on.
abbrev pub occurs : List ℕ → List ℕ → Bool
occurs r [] = is_prefix r []
occurs r (v ∷ w) = is_prefix r (v ∷ w) || occurs r w

-- w avoids each path of F (01: the line-up is clear of the known runs).
abbrev pub Avoids : List (List ℕ) → List ℕ → Type 0
Avoids F w = (r : List ℕ) → Memᴰ r F → Occurs r w → ⊥

-- The test of avoidance.
abbrev pub avoids : List (List ℕ) → List ℕ → Bool
avoids F w = not (any (λ r. occurs r w) F)

-- F has no path that F' lacks.
infix 20 ◌⊆◌
abbrev pub ◌⊆◌ : List (List ℕ) → List (List ℕ) → Type 0
F ⊆ F' = (r : List ℕ) → Memᴰ r F → Memᴰ r F'

-- Each path of F has two vertices or more (01: a run has 2 to 8 grades).
abbrev pub Long : List (List ℕ) → Type 0
Long F = (r : List ℕ) → Memᴰ r F → 2 ≤ length r
