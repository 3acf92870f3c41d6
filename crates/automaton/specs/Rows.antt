-- Rows of the step table, and the tables of the single vertices.
use Rattle.std.specs.Prelude.{List, ◌≡◌, ℕ, ◌+◌, ◌*◌, ◌<◌, length, get_or}
use Rattle.limits.specs.Limits.{most_paths, entry_size, most_vertices}

-- The tables are for s states and t steps.
pub record Sized (s t : ℕ) (steps blockeds latests fails : List ℕ) : Type 0 where
  pub of_steps : length steps ≡ t
  pub of_blockeds : length blockeds ≡ s
  pub of_latests : length latests ≡ s
  pub of_fails : length fails ≡ s

-- 0, 1, … stand from `at` on, and what is before is as it was.
pub record Filled (old new : List ℕ) (from n : ℕ) : Type 0 where
  pub size : length new ≡ length old
  pub there : (v : ℕ) → v < n → get_or new (from + v) 0 ≡ v
  pub before : (x : ℕ) → x < from → get_or new x 0 ≡ get_or old x 0

-- The n elements from `from` on stand at `to` too, and what is before `to` is as it was.
pub record Copied (old new : List ℕ) (from to n : ℕ) : Type 0 where
  pub size : length new ≡ length old
  pub there : (v : ℕ) → v < n → get_or new (to + v) 0 ≡ get_or old (from + v) 0
  pub before : (x : ℕ) → x < to → get_or new x 0 ≡ get_or old x 0

-- The first k of n vertices, as states, step to each vertex; nothing is blocked.
pub record Singles (n k : ℕ) (steps blockeds latests : List ℕ) : Type 0 where
  pub rows : (q v : ℕ) → q < k → v < n → get_or steps (q * most_vertices + v) 0 ≡ v
  pub blockeds_are : (q : ℕ) → q < k → get_or blockeds q 0 ≡ 0
  pub latests_are : (q : ℕ) → q < k → get_or latests q 0 ≡ q

-- The first k paths stand at their first vertex.
pub record Starts (area : List ℕ) (k : ℕ) (current : List ℕ) : Type 0 where
  pub size : length current ≡ most_paths
  pub first : (j : ℕ) → j < k → get_or current j 0 ≡ get_or area (j * entry_size + 1) 0
