-- The work tables of the whole search, and what building the automaton and the distances ask of them.
use Rattle.std.specs.Prelude.{Bool, List, ◌++◌, ◌≡◌, ℕ, ◌*◌, ◌≤◌, length, take, drop, replicate}
use Rattle.std.proofs.Common.{◌∙◌, arith, length-take-le, take_at}
use Rattle.std.proofs.lemmas.List.{length-replicate}
use Rattle.std.proofs.Math.Seq.{length_front}
use Rattle.limits.specs.Limits.{most_vertices}
use Rattle.walks.specs.Graph.{Graph}
use Rattle.walks.specs.Weights.{Weights}
use Rattle.distances.specs.Table.{passes}
use Rattle.automaton.specs.Area.{Spells}
use Rattle.states.specs.Count.{states_of}
use Rattle.automaton.specs.Built.{Built}
use Rattle.automaton.specs.Progress.{Room}
use Rattle.product.specs.Product.{state_edges}
use Rattle.product.specs.Base.{base, directed}
use Rattle.routes.specs.Plan.{Prepared, Measured}

-- Room for `most` states in work tables for s states and t steps: in the automaton's, and in the two tables of distances.
pub record WorkRoom (most s t : ℕ) (table other : List ℕ) : Type 0 where
  pub states_fit : most ≤ s
  pub steps_fit : most * most_vertices ≤ t
  pub entries : most ≤ length table
  pub others : most ≤ length other

-- Room for `most` states in lent tables of any lengths: in the automaton's, and in the two tables of distances.
pub record TablesRoom (most : ℕ) (steps blockeds latests fails table other : List ℕ) : Type 0 where
  pub automaton : Room most steps blockeds latests fails
  pub entries : most ≤ length table
  pub others : most ≤ length other

-- Arrays for s states, as they are made.
pub blank_work : (most s t : ℕ) → most ≤ s → t ≡ s * most_vertices → WorkRoom most s t (replicate s 0) (replicate s 0)
blank_work most s t h square = record {
  states_fit = h;
  steps_fit = omega arith;
  entries = rw length-replicate h;
  others = rw length-replicate h;
}

-- Lent tables for k states, as they are made.
pub blank_tables : (most k : ℕ) → most ≤ k
    → TablesRoom most (replicate (k * most_vertices) 0) (replicate k 0) (replicate k 0) (replicate k 0) (replicate k 0) (replicate k 0)
blank_tables most k h = record {
  automaton = record { of_steps = rw length-replicate (omega arith); of_blockeds = short; of-latests = short; of-fails = short };
  entries = short;
  others = short;
}
  where
    short : most ≤ length {A = ℕ} (replicate k 0)
    short = rw length-replicate h

-- The tables that were built, with the front of a table for the distances of their states.
module _ {paths : List ℕ} {count vertices m : ℕ} {F : List (List ℕ)} {steps blockeds latests : List ℕ} (spells : Spells paths count F) (built : Built F vertices m steps blockeds latests) where
  pub built-counted : m ≤ states_of vertices count
  built-counted = rw (← spells.paths) built.counted

  module _ (table : List ℕ) (room : states_of vertices count ≤ length table) where
    pub front_length : length (take m table) ≡ m
    front_length = length-take-le m table (omega (arith, built-counted))

    pub front-prepared : {g : Graph} {weights : List ℕ} → g.count ≡ vertices → Weights g weights → Prepared g F vertices (length (take m table)) weights steps blockeds latests
    front-prepared count-is weighed = rw front_length (record { count-is = count-is; built = built; table = weighed })

    -- The front after the distances x have come back to it.
    module _ (x : List ℕ) (same : length x ≡ length (take m table)) where
      pub back-length : length (x ++ drop m table) ≡ length table
      back-length = length_front table x m same

      back-front : take m (x ++ drop m table) ≡ x
      back-front = take_at x (drop m table) m (same ∙ front_length)

      pub back_measured : {g : Graph} {weights : List ℕ} → g.count ≡ vertices → Weights g weights → (towards : Bool) (v : ℕ)
          → x ≡ passes (directed towards (state_edges weights steps blockeds latests vertices (length (take m table)))) (length (take m table)) (base towards latests v (length (take m table)))
          → Measured towards g F vertices v weights steps blockeds latests (take m (x ++ drop m table))
      back_measured count-is weighed towards v final = rw back-front (record { prepared = rw same (front-prepared count-is weighed); final = rw same final })
