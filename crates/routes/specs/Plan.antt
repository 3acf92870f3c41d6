-- What a plan is, and that the search over the tables gives it.
use Rattle.std.specs.Prelude.{Bool, List, ◌++◌, ◌≡◌, ℕ, ◌<◌, ◌≤◌, length, drop, Option, Some, None}
use Rattle.walks.specs.Graph.{Graph}
use Rattle.walks.specs.Walk.{weight_of, hops}
use Rattle.walks.specs.Best.{Best, None as NoWalk}
use Rattle.distances.specs.Table.{passes}
use Rattle.automaton.specs.Area.{Spells, Bounded, Given}
use Rattle.automaton.specs.Built.{Built}
use Rattle.limits.specs.Limits.{longest}
use Rattle.routes.specs.declared.Plan.{Plan}
use Rattle.walks.specs.Weights.{Weights}
use Rattle.product.specs.Product.{state_edges}
use Rattle.product.specs.Base.{base, directed}

-- The best walk stands in the front of the area, with its weight (01: litres) and hops (01: changeovers) as the answer; the rest of the area is as it was.
pub record PlannedWalk (g : Graph) (F : List (List ℕ)) (s t : ℕ) (old : List ℕ) (weight hops' : ℕ) (new : List ℕ) : Type 0 where
  pub walk : List ℕ
  pub best : Best g F s t walk
  pub weight_is : weight ≡ weight_of g walk
  pub hops-is : hops' ≡ hops walk
  pub area-is : new ≡ walk ++ drop (length walk) old

-- 01, 'Planning': the answer and the area after it, for the walks of g from s to t that avoid F.
abbrev pub Searched : Graph → List (List ℕ) → ℕ → ℕ → List ℕ → Option Plan → List ℕ → Type 0
Searched g F s t old (Some p) new = PlannedWalk g F s t old p.weight p.hops new
Searched g F s t old None new = NoWalk g F s t × (new ≡ old)

-- The tables are those of the graph g and of the automaton of F.
pub record Prepared (g : Graph) (F : List (List ℕ)) (n m : ℕ) (weights steps blockeds latests : List ℕ) : Type 0 where
  pub count-is : g.count ≡ n
  pub built : Built F n m steps blockeds latests
  pub table : Weights g weights

-- ... and d has the distances of its states to the vertex v, or from it.
pub record Measured (towards : Bool) (g : Graph) (F : List (List ℕ)) (n v : ℕ) (weights steps blockeds latests d : List ℕ) : Type 0 where
  pub prepared : Prepared g F n (length d) weights steps blockeds latests
  pub final : d ≡ passes (directed towards (state_edges weights steps blockeds latests n (length d))) (length d) (base towards latests v (length d))

-- The same for each graph and forbidden set that weights and bytes stand for.
abbrev pub MeasuredAll : Bool → List ℕ → ℕ → List ℕ → ℕ → ℕ → List ℕ → List ℕ → List ℕ → List ℕ → Type 0
MeasuredAll towards weights vertices paths count v steps blockeds latests d =
    (g : Graph) (F : List (List ℕ)) → g.count ≡ vertices → Weights g weights → Spells paths count F → Bounded vertices F → Measured towards g F vertices v weights steps blockeds latests d

-- What the search asks: the bytes spell forbidden paths, the weights are a graph's, the start is one of its vertices, and the area has room.
pub record Asked (weights : List ℕ) (vertices : ℕ) (paths : List ℕ) (count start : ℕ) (walk : List ℕ) : Type 0 where
  pub given : Given paths count vertices
  pub weighed : (g : Graph) × (g.count ≡ vertices) × Weights g weights
  pub start-below : start < vertices
  pub area-room : longest ≤ length walk

-- What it answers, for each graph and forbidden set that weights and bytes stand for.
abbrev pub SearchedAll : List ℕ → ℕ → List ℕ → ℕ → ℕ → ℕ → List ℕ → Option Plan → List ℕ → Type 0
SearchedAll weights vertices paths count start end old r new =
    (g : Graph) (F : List (List ℕ)) → g.count ≡ vertices → Weights g weights → Spells paths count F → Bounded vertices F → Searched g F start end old r new
