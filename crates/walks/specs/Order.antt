-- The order in which walks are compared (01, 'Planning'): weight, then hops, then the first differing vertex.
use Rattle.std.specs.Prelude.{List, [], ◌∷◌, ◌⊎◌, ◌≡◌, ℕ, ◌<◌, ◌≤◌}
use Rattle.walks.specs.Graph.{Graph}
use Rattle.walks.specs.Walk.{weight_of, hops}

-- The lower number goes first; at a tie R decides.
abbrev pub Tiebreak : ℕ → ℕ → Type 0 → Type 0
Tiebreak a b R = (a < b) ⊎ ((a ≡ b) × R)

-- The lexicographic order: the first differing vertex is the lower.
abbrev pub Lex : List ℕ → List ℕ → Type 0
Lex [] w = Unit {0}
Lex (a ∷ v) [] = ⊥
Lex (a ∷ v) (b ∷ w) = Tiebreak a b (Lex v w)

-- v goes before w, or is w: the lower weight; at a tie the fewer hops; at a tie the lexicographically first.
infix 20 ◌≼⟨◌⟩◌
abbrev pub ◌≼⟨◌⟩◌ : List ℕ → Graph → List ℕ → Type 0
v ≼⟨ g ⟩ w = Tiebreak (weight_of g v) (weight_of g w) (Tiebreak (hops v) (hops w) (Lex v w))
