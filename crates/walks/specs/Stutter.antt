-- Paths that name a vertex twice in succession. In a graph without loops such a path occurs in no walk, so that it forbids none.
use mathlib.Core.List.{List, Memᴰ}
use Rattle.std.specs.Prelude.{◌⊎◌, ◌≡◌, ℕ, ◌+◌, ◌<◌, T, length, get_or}
use Rattle.walks.specs.Graph.{Graph, is_arc}

-- One vertex stands in r at two places, the second next to the first.
pub record Stutters (r : List ℕ) : Type 0 where
  pub first : ℕ
  pub second : ℕ
  pub next : second ≡ first + 1
  pub within : second < length r
  pub again : get_or r second 0 ≡ get_or r first 0

-- No arc leads from a vertex to itself.
abbrev pub Loopless : Graph → Type 0
Loopless g = (v : ℕ) → T (is_arc g v v) → ⊥

-- Each path of G is in F, or stutters.
abbrev pub ButStutters : List (List ℕ) → List (List ℕ) → Type 0
ButStutters F G = (r : List ℕ) → Memᴰ r G → Memᴰ r F ⊎ Stutters r
