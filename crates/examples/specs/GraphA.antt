-- 01's book A with both runs, on plain lists. Its plan comes back to vertices 1 and 2.
use Rattle.std.specs.Prelude.{List, [], ◌∷◌, ℕ}
use Rattle.walks.specs.Graph.{Graph, Arc, from_arcs}

abbrev pub arc : ℕ → ℕ → ℕ → Arc
arc u v x = record { tail = u; head = v; weight = x }

abbrev pub book_a : Graph
book_a = from_arcs 4 (arc 0 1 100 ∷ arc 1 2 100 ∷ arc 2 3 100 ∷ arc 0 2 250 ∷ arc 2 1 50 ∷ arc 1 3 400 ∷ [])

abbrev pub forbidden_a : List (List ℕ)
forbidden_a = (0 ∷ 1 ∷ 2 ∷ 3 ∷ []) ∷ (0 ∷ 2 ∷ 3 ∷ []) ∷ []

abbrev pub best_a : List ℕ
best_a = 0 ∷ 1 ∷ 2 ∷ 1 ∷ 2 ∷ 3 ∷ []
