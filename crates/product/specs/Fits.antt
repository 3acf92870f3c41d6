-- What the code asks of its tables: that the automaton's tables and a graph's weights meet it.
use Rattle.std.specs.Prelude.{true, List, ◌≡◌, ℕ, ◌+◌, ◌*◌, ◌<◌, ◌≤◌, length, get_or}
use Rattle.std.proofs.Common.{arith}
use Rattle.walks.specs.Graph.{Graph}
use Rattle.automaton.specs.Built.{Built}
use Rattle.walks.specs.Weights.{Weights}
use Rattle.states.specs.Count.{most_states}
use Rattle.limits.specs.Limits.{heaviest, most_vertices}
use Rattle.distances.specs.Edge.{Within}
use Rattle.product.specs.Product.{arc_at, step_to, is_open, state_edges, edges-over}
use Rattle.product.specs.ProductLaws.{stands-below, open_step, step-weight, step-below}

-- The tables have a row for state q, with the weights of arcs at its vertices below n.
pub record Row (n : ℕ) (weights steps blockeds latests : List ℕ) (q : ℕ) : Type 0 where
  pub few-vertices : n ≤ most_vertices
  pub few-states : q < most_states
  pub steps_row : q * most_vertices + most_vertices ≤ length steps
  pub blockeds_row : q < length blockeds
  pub latests-row : q < length latests
  pub latest-below : get_or latests q 0 < n
  pub light : (v : ℕ) → v < n → is_open weights steps blockeds latests q v ≡ true → arc_at weights steps blockeds latests q v ≤ heaviest

-- They have one for each of m states, and steps lead to these.
pub record Fits (n m : ℕ) (weights steps blockeds latests : List ℕ) : Type 0 where
  pub rows : (q : ℕ) → q < m → Row n weights steps blockeds latests q
  pub state-below : (q v : ℕ) → q < m → v < n → step_to weights steps blockeds latests q v < m

module _ {g : Graph} {F : List (List ℕ)} {m : ℕ} {steps blockeds latests weights : List ℕ} (built : Built F g.count m steps blockeds latests) (table : Weights g weights) where
  pub fits : Fits g.count m weights steps blockeds latests
  fits = record {
    rows = λ q h. record {
      few-vertices = table.few;
      few-states = omega (arith, built.few);
      steps_row = omega (arith, built.steps_room);
      blockeds_row = omega (arith, built.blockeds_room);
      latests-row = omega (arith, built.latests-room);
      latest-below = omega (arith, built.stands q h, stands-below built q h);
      light = λ v k o. let (is, light) = step-weight built table q v h (open_step built table q v h k o) in omega arith;
    };
    state-below = λ q v h k. step-below built table q v h k;
  }

-- The edges then join the states.
pub fits-within : {n m : ℕ} {weights steps blockeds latests : List ℕ} → Fits n m weights steps blockeds latests → Within m (state_edges weights steps blockeds latests n m)
fits-within {n} {m} {weights} {steps} {blockeds} {latests} f e i =
    let r = edges-over weights steps blockeds latests n m e i in
    rw r.edge (r.state-below, f.state-below r.state r.vertex r.state-below r.vertex-below)
