-- How many states there are: at most one for each vertex, and length - 2 for each forbidden path.
use mathlib.Core.List.Memᴰ
use mathlib.Core.List.{List, [], ◌∷◌, ◌++◌, reverse, Memᴰ}
use Rattle.std.specs.Prelude.{ℕ, zero, suc, ◌+◌, ◌-◌, ◌*◌, ◌<◌, length, take}
use Rattle.states.specs.States.{State, latest}
use Rattle.lists.specs.Distinct.{Distinct}
use Rattle.limits.specs.Limits.{most_vertices, most_paths}

-- The single vertices below n.
abbrev pub vertices : ℕ → List (List ℕ)
vertices zero = []
vertices (suc n) = (n ∷ []) ∷ vertices n

-- The first 2, …, k + 1 vertices of r, as states.
abbrev pub fronts : List ℕ → ℕ → List (List ℕ)
fronts r zero = []
fronts r (suc k) = reverse (take (suc (suc k)) r) ∷ fronts r k

-- The proper prefixes, of two vertices or more, of the paths of F.
abbrev pub prefixes : List (List ℕ) → List (List ℕ)
prefixes [] = []
prefixes (r ∷ F) = fronts r (length r - 2) ++ prefixes F

-- Each path of F has its vertices below n.
abbrev pub Below : ℕ → List (List ℕ) → Type 0
Below n F = (r : List ℕ) → Memᴰ r F → (v : ℕ) → Memᴰ v r → v < n

-- l has the states at vertices below n, each once.
pub record States (n : ℕ) (F l : List (List ℕ)) : Type 0 where
  pub distinct : Distinct l
  pub only : (q : List ℕ) → Memᴰ q l → State F q × (latest q < n)
  pub all : (q : List ℕ) → State F q → latest q < n → Memᴰ q l

-- How many states there are at most over n vertices with k paths: the single vertices, and the proper prefixes of 2 to 7 vertices of each path.
abbrev pub states_of : ℕ → ℕ → ℕ
states_of n k = n + k * 6

-- 1,600 states, whatever the book.
abbrev pub most_states : ℕ
most_states = states_of most_vertices most_paths
