-- The laws of what specs/States.antt defines.
use Rattle.std.specs.Prelude.{◌≡◌, refl, ℕ, ◌<◌, T, length}
use mathlib.Core.List.{List, [], ◌∷◌, ◌++◌, reverse, reverse_aux, reverse_aux-eq}
use Rattle.std.proofs.Common.{ap, arith, ltb→lt, lt→ltb, length-append}
use Rattle.std.proofs.lemmas.List.{length-reverse}
use Rattle.lists.specs.Test.{conj, any→some, some→any}
use Rattle.walks.proofs.Avoid.{is_prefix→append, append→is_prefix}
use Rattle.states.specs.States.{is_proper, State, vertex, prefix, is_state}

-- Theorem 1: without its latest vertex a state is a state, unless nothing is left.
pub State-closed : {F : List (List ℕ)} (v : ℕ) (q : List ℕ) → 0 < length q → State F (v ∷ q) → State F q
State-closed v q h (vertex u e) = absurd (omega (arith, ap length e))
State-closed v q h (prefix m u b e l) = prefix m v (u ∷ b) e h

is_proper→ : (q r : List ℕ) → T (is_proper q r) → (v : ℕ) × (b : List ℕ) × (r ≡ reverse_aux q (v ∷ b))
is_proper→ q r t =
    let p = is_prefix→append (reverse q) r (search conj) in
    next p.0 p.1 (ltb→lt (length q) (length r) (search conj))
  where
    next : (b : List ℕ) → r ≡ reverse q ++ b → length q < length r → (v : ℕ) × (b : List ℕ) × (r ≡ reverse_aux q (v ∷ b))
    next [] e h = absurd (omega (arith, simp (length-append, length-reverse) at (ap length e)))
    next (v ∷ b) e h = (v, b, rw reverse_aux-eq e)

→is_proper : (q : List ℕ) (v : ℕ) (b : List ℕ) → T (is_proper q (reverse_aux q (v ∷ b)))
→is_proper q v b =
    let longer : length q < length (reverse q ++ v ∷ b) = simp (length-append, length-reverse) (omega arith) in
    rw (reverse_aux-eq q (v ∷ b)) (search (conj, append→is_prefix, lt→ltb))

pub is_state→State : (F : List (List ℕ)) (q : List ℕ) → T (is_state F q) → State F q
is_state→State F [] t = absurd t
is_state→State F (v ∷ []) t = vertex v refl
is_state→State F (v ∷ u ∷ q) t =
    let a = any→some (is_proper (v ∷ u ∷ q)) F t in
    let p = is_proper→ (v ∷ u ∷ q) a.0 a.2 in
    prefix a.1 p.0 p.1 p.2 (omega arith)

pub State→is_state : (F : List (List ℕ)) (q : List ℕ) → State F q → T (is_state F q)
State→is_state F [] (vertex v e) = absurd (omega (arith, ap length e))
State→is_state F [] (prefix m a b e h) = absurd (omega arith)
State→is_state F (v ∷ []) s = tt
State→is_state F (v ∷ u ∷ q) (vertex a e) = absurd (omega (arith, ap length e))
State→is_state F (v ∷ u ∷ q) (prefix m a b e h) = some→any (is_proper (v ∷ u ∷ q)) m (rw e (→is_proper (v ∷ u ∷ q) a b))
