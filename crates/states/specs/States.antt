-- The states of the automaton of forbidden paths. A state, and the walked part of a walk, is held latest vertex first: a step is a cons, and a suffix is a front part.
use Rattle.std.specs.Prelude.{Bool, true, false, ◌&&◌, ◌≡◌, ℕ, ◌<◌, ltb, length, get_or}
use mathlib.Core.List.{List, [], ◌∷◌, reverse, reverse_aux, Memᴰ}
use Rattle.lists.specs.Test.{any}
use Rattle.walks.specs.Avoid.{is_prefix}

-- q is a proper prefix of r.
abbrev pub is_proper : List ℕ → List ℕ → Bool
is_proper q r = is_prefix (reverse q) r && ltb (length q) (length r)

-- A state: a single vertex, or a proper prefix of a forbidden path that is not empty.
pub data State (F : List (List ℕ)) (q : List ℕ) : Type 0 where
  vertex : (v : ℕ) → q ≡ v ∷ [] → State F q
  prefix : {r : List ℕ} → Memᴰ r F → (v : ℕ) (b : List ℕ) → r ≡ reverse_aux q (v ∷ b) → 0 < length q → State F q

-- The test of a state.
abbrev pub is_state : List (List ℕ) → List ℕ → Bool
is_state F [] = false
is_state F (v ∷ []) = true
is_state F (v ∷ u ∷ q) = any (is_proper (v ∷ u ∷ q)) F

-- The vertex at which a walk stands that is in state q.
abbrev pub latest : List ℕ → ℕ
latest q = get_or q 0 0
