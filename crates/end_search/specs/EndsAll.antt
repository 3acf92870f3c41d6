-- What the search for every end leaves in the table.
use Rattle.std.specs.Prelude.{ℕ, ◌*◌, ◌≡◌, List, ◌++◌, drop}
use Rattle.walks.specs.Graph.{Graph}
use Rattle.walks.specs.Weights.{Weights}
use Rattle.automaton.specs.Area.{Spells, Bounded}
use Rattle.ends.specs.Ends.{ends}

-- The entries, for each graph and forbidden set that weights and bytes stand for.
abbrev pub EndsAll : List ℕ → ℕ → List ℕ → ℕ → ℕ → List ℕ → List ℕ → Type 0
EndsAll weights vertices paths count start old new =
    (g : Graph) (F : List (List ℕ)) → g.count ≡ vertices → Weights g weights → Spells paths count F → Bounded vertices F
    → new ≡ ends g F start vertices ++ drop (2 * vertices) old
