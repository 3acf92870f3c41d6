-- The text that the programs print (01), as bytes: numbers in decimal, words, and a line feed after each line.
use Rattle.std.specs.Prelude.{ℕ, zero, suc, ◌+◌, ◌/◌, ◌%◌, cond, List, [], ◌∷◌, ◌++◌, ltb, take, Option, Some, None}
use Rattle.walks.specs.Graph.{Graph}
use Rattle.walks.specs.Walk.{weight_of, hops}
use Rattle.book.specs.declared.Refusal.{Refusal}
use Rattle.book.specs.Refusal.{number_of, place_of}
use Rattle.routes.specs.declared.Plan.{Plan}

-- How many bytes a text has at most, with room to spare.
abbrev pub longest_text : ℕ
longest_text = 8192

-- The digits of n, the last `most` of them where there are more.
unfoldable pub digits : ℕ → ℕ → List ℕ
digits zero n = []
digits (suc most) n = cond (ltb n 10) ((48 + n) ∷ []) (digits most (n / 10) ++ ((48 + n % 10) ∷ []))

-- A number in decimal, without leading zeros: n has no more than n + 1 digits.
abbrev pub decimal : ℕ → List ℕ
decimal n = digits (suc n) n

-- The words: `LITRES `, ` CHANGES `, `REFUSED `, ` AT `, the line feed, and the line `NONE`.
abbrev pub litres : List ℕ
litres = 76 ∷ 73 ∷ 84 ∷ 82 ∷ 69 ∷ 83 ∷ 32 ∷ []

abbrev pub changes : List ℕ
changes = 32 ∷ 67 ∷ 72 ∷ 65 ∷ 78 ∷ 71 ∷ 69 ∷ 83 ∷ 32 ∷ []

abbrev pub refused : List ℕ
refused = 82 ∷ 69 ∷ 70 ∷ 85 ∷ 83 ∷ 69 ∷ 68 ∷ 32 ∷ []

abbrev pub placed : List ℕ
placed = 32 ∷ 65 ∷ 84 ∷ 32 ∷ []

abbrev pub line_feed : List ℕ
line_feed = 10 ∷ []

abbrev pub none_text : List ℕ
none_text = 78 ∷ 79 ∷ 78 ∷ 69 ∷ 10 ∷ []

-- Each vertex after a blank.
unfoldable pub followed : List ℕ → List ℕ
followed [] = []
followed (v ∷ w) = (32 ∷ decimal v) ++ followed w

-- The vertices with one blank between.
abbrev pub vertices : List ℕ → List ℕ
vertices [] = []
vertices (v ∷ w) = decimal v ++ followed w

-- The line of a plan's weight and hops.
abbrev pub cost_text : ℕ → ℕ → List ℕ
cost_text weight hops' = litres ++ decimal weight ++ changes ++ decimal hops' ++ line_feed

-- The two lines of a plan.
abbrev pub plan_text : ℕ → ℕ → List ℕ → List ℕ
plan_text weight hops' w = cost_text weight hops' ++ vertices w ++ line_feed

abbrev pub walk_text : Graph → List ℕ → List ℕ
walk_text g w = plan_text (weight_of g w) (hops w) w

-- The place of a refusal that has one.
abbrev pub place_text : Option ℕ → List ℕ
place_text None = []
place_text (Some place) = placed ++ decimal place

-- The line of a refusal.
abbrev pub refusal_text : Refusal → List ℕ
refusal_text x = refused ++ decimal (number_of x) ++ place_text (place_of x) ++ line_feed

-- The text of what is found; a walk stands in the front of its area.
abbrev pub found_text : Option Plan → List ℕ → List ℕ
found_text (Some p) area = plan_text p.weight p.hops (take (p.hops + 1) area)
found_text None area = none_text
