-- How much of an input's content is looked at: so many numbers of its arcs, and as many of its rule sets.
use Rattle.std.specs.Prelude.{ℕ, ◌≡◌, List, ◌++◌, take, Option, Some, None}
use Rattle.write_cases.specs.Inputs.{Said}

-- 64 vertices make 4,032 pairs: of 4,100 arcs, in three numbers each, one is bad. And 16 rule sets of 7 numbers and 256 paths of 9 are but 2,416.
abbrev pub most_numbers : ℕ
most_numbers = 12300

-- Where the first of some numbers stand, those of these and more of them stand then.
abbrev pub Adds : List ℕ → List ℕ → List ℕ → Type 0
Adds more old new = (xs : List ℕ) → old ≡ take most_numbers xs → new ≡ take most_numbers (xs ++ more)

-- What is looked at of what an input says.
abbrev pub KeptOf : Option Said → ℕ → List ℕ → List ℕ → ℕ → Type 0
KeptOf None vertices arcs sets room = ⊥
KeptOf (Some x) vertices arcs sets room =
    (vertices ≡ x.vertices) × (arcs ≡ take most_numbers x.arcs) × (sets ≡ take most_numbers x.sets) × (room ≡ x.room)
