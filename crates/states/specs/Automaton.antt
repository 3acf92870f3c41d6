-- The automaton of a set of forbidden paths (Aho and Corasick): its steps, its failure links, and what is blocked at a state.
use Rattle.std.specs.Prelude.{Bool}
use mathlib.Core.List.{List, [], ◌∷◌, reverse}
use Prim.Native.Nat.{ℕ}
use Rattle.std.proofs.Math.ListN.{length}
use Rattle.lists.specs.Test.{any}
use Rattle.walks.specs.Avoid.{is_prefix, same}
use Rattle.states.specs.Longest.{longest_front}
use Rattle.states.specs.States.{is_state}

-- The state of a walk: its longest suffix that is a state.
unfoldable pub state : List (List ℕ) → List ℕ → List ℕ
state F w = longest_front (is_state F) (length w) w

-- The step from a state over a vertex.
unfoldable pub go : List (List ℕ) → List ℕ → ℕ → List ℕ
go F q v = state F (v ∷ q)

-- The failure link of a state: its longest proper suffix that is a state, or [].
unfoldable pub fail : List (List ℕ) → List ℕ → List ℕ
fail F [] = []
fail F (v ∷ q) = longest_front (is_state F) (length q) (v ∷ q)

-- The walk w ends with the path r.
abbrev pub ends_with : List ℕ → List ℕ → Bool
ends_with w r = is_prefix (reverse r) w

-- v is blocked at q: some suffix of q.v is a forbidden path.
unfoldable pub blocked : List (List ℕ) → List ℕ → ℕ → Bool
blocked F q v = any (ends_with (v ∷ q)) F

-- q is itself a forbidden path.
unfoldable pub forbidden : List (List ℕ) → List ℕ → Bool
forbidden F q = any (same (reverse q)) F
