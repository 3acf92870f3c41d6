-- 01's settled sums of planning, proved over all walks: a table of distances, checked by computation, for each.
use Rattle.std.specs.Prelude.{List, [], ◌∷◌, ◌≡◌, refl, ℕ}
use Rattle.std.proofs.Math.Option.{none, some}
use Rattle.std.proofs.Common.{lit<}
use Rattle.walks.specs.Graph.{Graph, from_arcs}
use Rattle.walks.specs.Walk.{weight_of, hops}
use Rattle.walks.specs.Avoid.{Long}
use Rattle.walks.specs.Best.{Best, None}
use Rattle.walks.proofs.Best.{Best-stay}
use Rattle.examples.specs.GraphA.{arc, book_a, forbidden_a, best_a}
use Rattle.states.specs.Automaton.{state, go, blocked}
use Rattle.examples.specs.Certificate.{Entry, certified-best, certified-none}

-- The best walk is w, at weight n and k hops (01: what planning answers).
pub record Plan (g : Graph) (F : List (List ℕ)) (s t : ℕ) (w : List ℕ) (n k : ℕ) : Type 0 where
  pub best : Best g F s t w
  pub weighs : weight_of g w ≡ n
  pub takes : hops w ≡ k

-- A state, latest vertex first, with its weight and hops to the end; and one from which the end cannot be reached.
abbrev at : List ℕ → ℕ → ℕ → Entry
at q n k = record { state = q; distance = some (record { weight = n; hops = k }) }

abbrev off : List ℕ → Entry
off q = record { state = q; distance = none }

-- Book A, start 0, end 3: marks 0 to 3.
pub marks_0 : Plan book_a [] 0 3 (0 ∷ 1 ∷ 2 ∷ 3 ∷ []) 300 3
unfolding state go blocked
marks_0 = record { best = certified-best book_a [] 3 (at (0 ∷ []) 300 3 ∷ at (1 ∷ []) 200 2 ∷ at (2 ∷ []) 100 1 ∷ at (3 ∷ []) 0 0 ∷ []) 0 (1 ∷ 2 ∷ 3 ∷ []) tt; weighs = refl; takes = refl }

pub marks_1 : Plan book_a ((0 ∷ 1 ∷ 2 ∷ 3 ∷ []) ∷ []) 0 3 (0 ∷ 2 ∷ 3 ∷ []) 350 2
unfolding state go blocked
marks_1 = record { best = certified-best book_a ((0 ∷ 1 ∷ 2 ∷ 3 ∷ []) ∷ []) 3 (at (0 ∷ []) 350 2 ∷ at (1 ∷ []) 200 2 ∷ at (2 ∷ []) 100 1 ∷ at (3 ∷ []) 0 0 ∷ at (1 ∷ 0 ∷ []) 350 4 ∷ at (2 ∷ 1 ∷ 0 ∷ []) 250 3 ∷ []) 0 (2 ∷ 3 ∷ []) tt; weighs = refl; takes = refl }

pub marks_2 : Plan book_a ((0 ∷ 2 ∷ 3 ∷ []) ∷ []) 0 3 (0 ∷ 1 ∷ 2 ∷ 3 ∷ []) 300 3
unfolding state go blocked
marks_2 = record { best = certified-best book_a ((0 ∷ 2 ∷ 3 ∷ []) ∷ []) 3 (at (0 ∷ []) 300 3 ∷ at (1 ∷ []) 200 2 ∷ at (2 ∷ []) 100 1 ∷ at (3 ∷ []) 0 0 ∷ at (2 ∷ 0 ∷ []) 250 3 ∷ []) 0 (1 ∷ 2 ∷ 3 ∷ []) tt; weighs = refl; takes = refl }

pub marks_3 : Plan book_a forbidden_a 0 3 best_a 450 5
unfolding state go blocked
marks_3 = record { best = certified-best book_a forbidden_a 3 (at (0 ∷ []) 450 5 ∷ at (1 ∷ []) 200 2 ∷ at (2 ∷ []) 100 1 ∷ at (3 ∷ []) 0 0 ∷ at (1 ∷ 0 ∷ []) 350 4 ∷ at (2 ∷ 1 ∷ 0 ∷ []) 250 3 ∷ at (2 ∷ 0 ∷ []) 250 3 ∷ []) 0 (1 ∷ 2 ∷ 1 ∷ 2 ∷ 3 ∷ []) tt; weighs = refl; takes = refl }

-- From marks 3, named 1 2 3; then named 1 3. Or named 1 2 1.
pub named-123 : Plan book_a ((0 ∷ 1 ∷ 2 ∷ 3 ∷ []) ∷ (0 ∷ 2 ∷ 3 ∷ []) ∷ (1 ∷ 2 ∷ 3 ∷ []) ∷ []) 0 3 (0 ∷ 1 ∷ 3 ∷ []) 500 2
unfolding state go blocked
named-123 = record { best = certified-best book_a ((0 ∷ 1 ∷ 2 ∷ 3 ∷ []) ∷ (0 ∷ 2 ∷ 3 ∷ []) ∷ (1 ∷ 2 ∷ 3 ∷ []) ∷ []) 3 (at (0 ∷ []) 500 2 ∷ at (1 ∷ []) 400 1 ∷ at (2 ∷ []) 100 1 ∷ at (3 ∷ []) 0 0 ∷ at (1 ∷ 0 ∷ []) 400 1 ∷ at (2 ∷ 1 ∷ 0 ∷ []) 450 2 ∷ at (2 ∷ 0 ∷ []) 450 2 ∷ at (2 ∷ 1 ∷ []) 450 2 ∷ []) 0 (1 ∷ 3 ∷ []) tt; weighs = refl; takes = refl }

pub named-13 : None book_a ((0 ∷ 1 ∷ 2 ∷ 3 ∷ []) ∷ (0 ∷ 2 ∷ 3 ∷ []) ∷ (1 ∷ 2 ∷ 3 ∷ []) ∷ (1 ∷ 3 ∷ []) ∷ []) 0 3
unfolding state go blocked
named-13 = certified-none book_a ((0 ∷ 1 ∷ 2 ∷ 3 ∷ []) ∷ (0 ∷ 2 ∷ 3 ∷ []) ∷ (1 ∷ 2 ∷ 3 ∷ []) ∷ (1 ∷ 3 ∷ []) ∷ []) 3 (off (0 ∷ []) ∷ off (1 ∷ []) ∷ at (2 ∷ []) 100 1 ∷ at (3 ∷ []) 0 0 ∷ off (1 ∷ 0 ∷ []) ∷ off (2 ∷ 1 ∷ 0 ∷ []) ∷ off (2 ∷ 0 ∷ []) ∷ off (2 ∷ 1 ∷ []) ∷ []) 0 tt refl

pub named-121 : Plan book_a ((0 ∷ 1 ∷ 2 ∷ 3 ∷ []) ∷ (0 ∷ 2 ∷ 3 ∷ []) ∷ (1 ∷ 2 ∷ 1 ∷ []) ∷ []) 0 3 (0 ∷ 1 ∷ 3 ∷ []) 500 2
unfolding state go blocked
named-121 = record { best = certified-best book_a ((0 ∷ 1 ∷ 2 ∷ 3 ∷ []) ∷ (0 ∷ 2 ∷ 3 ∷ []) ∷ (1 ∷ 2 ∷ 1 ∷ []) ∷ []) 3 (at (0 ∷ []) 500 2 ∷ at (1 ∷ []) 200 2 ∷ at (3 ∷ []) 0 0 ∷ at (1 ∷ 0 ∷ []) 400 1 ∷ off (2 ∷ 1 ∷ 0 ∷ []) ∷ at (2 ∷ 0 ∷ []) 250 3 ∷ at (2 ∷ 1 ∷ []) 100 1 ∷ []) 0 (1 ∷ 3 ∷ []) tt; weighs = refl; takes = refl }

-- Start 3, end 0; start 3, end 3.
pub back : None book_a [] 3 0
unfolding state go blocked
back = certified-none book_a [] 0 (at (0 ∷ []) 0 0 ∷ off (1 ∷ []) ∷ off (2 ∷ []) ∷ off (3 ∷ []) ∷ []) 3 tt refl

pub stay : (F : List (List ℕ)) → Long F → Plan book_a F 3 3 (3 ∷ []) 0 0
stay F long = record { best = Best-stay long (lit< tt); weighs = refl; takes = refl }

-- Two ways of one weight and as many hops: the first differing vertex is the lower. With an arc of that weight: fewer hops.
abbrev pub ways : Graph
ways = from_arcs 4 (arc 0 1 100 ∷ arc 1 3 100 ∷ arc 0 2 100 ∷ arc 2 3 100 ∷ [])

abbrev pub shortcut : Graph
shortcut = from_arcs 4 (arc 0 1 100 ∷ arc 1 3 100 ∷ arc 0 2 100 ∷ arc 2 3 100 ∷ arc 0 3 200 ∷ [])

pub lower_vertex : Plan ways [] 0 3 (0 ∷ 1 ∷ 3 ∷ []) 200 2
unfolding state go blocked
lower_vertex = record { best = certified-best ways [] 3 (at (0 ∷ []) 200 2 ∷ at (1 ∷ []) 100 1 ∷ at (2 ∷ []) 100 1 ∷ at (3 ∷ []) 0 0 ∷ []) 0 (1 ∷ 3 ∷ []) tt; weighs = refl; takes = refl }

pub fewer-hops : Plan shortcut [] 0 3 (0 ∷ 3 ∷ []) 200 1
unfolding state go blocked
fewer-hops = record { best = certified-best shortcut [] 3 (at (0 ∷ []) 200 1 ∷ at (1 ∷ []) 100 1 ∷ at (2 ∷ []) 100 1 ∷ at (3 ∷ []) 0 0 ∷ []) 0 (3 ∷ []) tt; weighs = refl; takes = refl }

-- The best ways to 1 and to 2.
pub best-to-1 : Plan book_a forbidden_a 0 1 (0 ∷ 1 ∷ []) 100 1
unfolding state go blocked
best-to-1 = record { best = certified-best book_a forbidden_a 1 (at (0 ∷ []) 100 1 ∷ at (1 ∷ []) 0 0 ∷ at (2 ∷ []) 50 1 ∷ off (3 ∷ []) ∷ at (1 ∷ 0 ∷ []) 0 0 ∷ at (2 ∷ 1 ∷ 0 ∷ []) 50 1 ∷ at (2 ∷ 0 ∷ []) 50 1 ∷ []) 0 (1 ∷ []) tt; weighs = refl; takes = refl }

pub best-to-2 : Plan book_a forbidden_a 0 2 (0 ∷ 1 ∷ 2 ∷ []) 200 2
unfolding state go blocked
best-to-2 = record { best = certified-best book_a forbidden_a 2 (at (0 ∷ []) 200 2 ∷ at (1 ∷ []) 100 1 ∷ at (2 ∷ []) 0 0 ∷ off (3 ∷ []) ∷ at (1 ∷ 0 ∷ []) 100 1 ∷ at (2 ∷ 1 ∷ 0 ∷ []) 0 0 ∷ at (2 ∷ 0 ∷ []) 0 0 ∷ []) 0 (1 ∷ 2 ∷ []) tt; weighs = refl; takes = refl }

-- Nothing leads on from 3.
pub none-to-0 : None book_a forbidden_a 3 0
unfolding state go blocked
none-to-0 = certified-none book_a forbidden_a 0 (off (3 ∷ []) ∷ []) 3 tt refl

pub none-to-1 : None book_a forbidden_a 3 1
unfolding state go blocked
none-to-1 = certified-none book_a forbidden_a 1 (off (3 ∷ []) ∷ []) 3 tt refl

pub none-to-2 : None book_a forbidden_a 3 2
unfolding state go blocked
none-to-2 = certified-none book_a forbidden_a 2 (off (3 ∷ []) ∷ []) 3 tt refl
