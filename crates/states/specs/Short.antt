-- Best walks are short: they come to no state twice.
use mathlib.Core.List.{List, [], ◌∷◌}
use Rattle.std.specs.Prelude.{ℕ}
use Rattle.states.specs.Automaton.{go}

-- The states of the walk c from q.
abbrev pub trace : List (List ℕ) → List ℕ → List ℕ → List (List ℕ)
trace F q [] = q ∷ []
trace F q (v ∷ c) = q ∷ trace F (go F q v) c
