-- The table of ends (02, order 1): for each vertex in rising order, the weight (01: litres) and hops (01: changeovers) of the best walk to it.
use Rattle.std.specs.Prelude.{ℕ, zero, suc, List, [], ◌∷◌, ◌++◌}
use Rattle.std.proofs.Math.Option.{Option, none, some}
use Rattle.walks.specs.Graph.{Graph}
use Rattle.walks.specs.Walk.{weight_of, hops}
use Rattle.states.specs.Chosen.{chosen}

-- Both numbers of a vertex to which no walk leads: the greatest of 32 bits.
abbrev pub no_end : ℕ
no_end = 4294967295

abbrev pub entry_of : Graph → Option (List ℕ) → List ℕ
entry_of g none = no_end ∷ no_end ∷ []
entry_of g (some w) = weight_of g w ∷ hops w ∷ []

-- The entries of the vertices below n, for the best walks of g from s that avoid F.
unfoldable pub ends : Graph → List (List ℕ) → ℕ → ℕ → List ℕ
ends g F s zero = []
ends g F s (suc n) = ends g F s n ++ entry_of g (chosen g F s n)
