-- Feasible walks, the best of them, and when there is none.
use Rattle.std.specs.Prelude.{List, ◌≡◌, ℕ, get_or}
use Rattle.walks.specs.Graph.{Graph}
use Rattle.walks.specs.Walk.{Walk, hops}
use Rattle.walks.specs.Avoid.{Avoids}
use Rattle.walks.specs.Order.{◌≼⟨◌⟩◌}

-- A walk from s to t that avoids each path of F (01: a line-up from start to end that avoids every known run).
pub record Feasible (g : Graph) (F : List (List ℕ)) (s t : ℕ) (w : List ℕ) : Type 0 where
  pub walk : Walk g w
  pub starts : get_or w 0 0 ≡ s
  pub ends : get_or w (hops w) 0 ≡ t
  pub clear : Avoids F w

-- The plan of 01: a feasible walk that goes before every feasible walk, of whatever length.
pub record Best (g : Graph) (F : List (List ℕ)) (s t : ℕ) (w : List ℕ) : Type 0 where
  pub feasible : Feasible g F s t w
  pub least : (v : List ℕ) → Feasible g F s t v → w ≼⟨ g ⟩ v

-- The answer none of 01: no walk is feasible.
abbrev pub None : Graph → List (List ℕ) → ℕ → ℕ → Type 0
None g F s t = (w : List ℕ) → Feasible g F s t w → ⊥

-- G is no stricter than F: each walk of g that avoids F avoids G.
abbrev pub NoStricter : Graph → List (List ℕ) → List (List ℕ) → Type 0
NoStricter g F G = (w : List ℕ) → Walk g w → Avoids F w → Avoids G w
