-- What a sweep goes over, and what a pass asks of it and of its tables.
use Rattle.std.specs.Prelude.{List, ℕ, ◌≤◌, ◌≡◌, length}
use Rattle.distances.specs.Edge.{Edge}
use Rattle.distances.specs.Table.{at, inf, relaxes, pass}
use Rattle.product.specs.Word.{word}
use Rattle.product.specs.Base.{is_towards, directed}
use Rattle.product.specs.View.{open_at, state_edges_of, FitsOf}
use Rattle.sweeps.specs.declared.Sweep.{Sweep}
use Rattle.sweeps.specs.Outgoing.{Outgoing}

-- The open vertices of state q, as a word.
abbrev pub open_of : Sweep → ℕ → ℕ
open_of s q = word (open_at s.product q) s.product.arcs.vertices

-- The edges of the states below m, in the direction in which the distances are worked out.
abbrev pub edges_in : Sweep → ℕ → List Edge
edges_in s m = directed (is_towards s.goal) (state_edges_of s.product m)

-- The tables fit m states, and the words are of the graph's arcs.
pub record Ready (s : Sweep) (m : ℕ) : Type 0 where
  pub fits : FitsOf s.product m
  pub outgoing : Outgoing s.product.arcs s.outgoing.now

-- No entry is above inf.
abbrev pub Capped : List ℕ → Type 0
Capped t = (q : ℕ) → at t q ≤ inf

-- To lower the entries of `new` by those of `old` comes to the same as to lower those of a copy of `old`.
pub record Before (es : List Edge) (old new : List ℕ) : Type 0 where
  pub same_length : length new ≡ length old
  pub capped : Capped old
  pub new_capped : Capped new
  pub as_copied : relaxes old es new ≡ pass es old
