-- What the program `board` prints for book A under marks 3 (02, order 1), on every date, and for an input that is cut off.
use Rattle.std.specs.Prelude.{ℕ, List, [], ◌∷◌}

-- Start 0: `0 LITRES 0 CHANGES 0`, `1 LITRES 100 CHANGES 1`, `2 LITRES 200 CHANGES 2`, `3 LITRES 450 CHANGES 5`
abbrev pub lines-0 : List ℕ
lines-0 =
    48 ∷ 32 ∷ 76 ∷ 73 ∷ 84 ∷ 82 ∷ 69 ∷ 83 ∷ 32 ∷ 48 ∷ 32 ∷ 67 ∷ 72 ∷ 65 ∷ 78 ∷ 71 ∷ 69 ∷ 83 ∷ 32 ∷ 48 ∷ 10
    ∷ 49 ∷ 32 ∷ 76 ∷ 73 ∷ 84 ∷ 82 ∷ 69 ∷ 83 ∷ 32 ∷ 49 ∷ 48 ∷ 48 ∷ 32 ∷ 67 ∷ 72 ∷ 65 ∷ 78 ∷ 71 ∷ 69 ∷ 83 ∷ 32 ∷ 49 ∷ 10
    ∷ 50 ∷ 32 ∷ 76 ∷ 73 ∷ 84 ∷ 82 ∷ 69 ∷ 83 ∷ 32 ∷ 50 ∷ 48 ∷ 48 ∷ 32 ∷ 67 ∷ 72 ∷ 65 ∷ 78 ∷ 71 ∷ 69 ∷ 83 ∷ 32 ∷ 50 ∷ 10
    ∷ 51 ∷ 32 ∷ 76 ∷ 73 ∷ 84 ∷ 82 ∷ 69 ∷ 83 ∷ 32 ∷ 52 ∷ 53 ∷ 48 ∷ 32 ∷ 67 ∷ 72 ∷ 65 ∷ 78 ∷ 71 ∷ 69 ∷ 83 ∷ 32 ∷ 53 ∷ 10
    ∷ []

-- Start 3: `0 NONE`, `1 NONE`, `2 NONE`, `3 LITRES 0 CHANGES 0`
abbrev pub lines-3 : List ℕ
lines-3 =
    48 ∷ 32 ∷ 78 ∷ 79 ∷ 78 ∷ 69 ∷ 10
    ∷ 49 ∷ 32 ∷ 78 ∷ 79 ∷ 78 ∷ 69 ∷ 10
    ∷ 50 ∷ 32 ∷ 78 ∷ 79 ∷ 78 ∷ 69 ∷ 10
    ∷ 51 ∷ 32 ∷ 76 ∷ 73 ∷ 84 ∷ 82 ∷ 69 ∷ 83 ∷ 32 ∷ 48 ∷ 32 ∷ 67 ∷ 72 ∷ 65 ∷ 78 ∷ 71 ∷ 69 ∷ 83 ∷ 32 ∷ 48 ∷ 10
    ∷ []
