-- What has been built on the way: the states are numbered by length, those of one length after another.
use mathlib.Core.List.{List, [], ◌∷◌, reverse, Memᴰ}
use Rattle.std.specs.Prelude.{◌⊎◌, ◌≡◌, ℕ, suc, ◌+◌, ◌*◌, ◌<◌, ◌≤◌, T, length, get_or, take}
use Rattle.states.specs.States.{State, latest}
use Rattle.states.specs.Automaton.{go, fail, blocked}
use Rattle.lists.specs.Distinct.{Distinct}
use Rattle.automaton.specs.Area.{Spells, Bounded}
use Rattle.states.specs.Count.{states_of}
use Rattle.automaton.specs.Built.{Numbers, bit}
use Rattle.limits.specs.Limits.{most_paths, most_vertices}

-- k is the number of the child w.v, or, while that is no numbered word, of the step over v from the failure link of w.
abbrev pub Row : List (List ℕ) → List (List ℕ) → List ℕ → ℕ → ℕ → Type 0
Row F words w v k = Numbers words k (v ∷ w) ⊎ ((Memᴰ (v ∷ w) words → ⊥) × Numbers words k (go F (fail F w) v))

-- Path j is not w.v.
abbrev pub Other : List (List ℕ) → ℕ → List ℕ → ℕ → Type 0
Other F j w v = get_or F j [] ≡ reverse (v ∷ w) → ⊥

-- What is known of the bit b of v at w, when the paths of at most l vertices have been entered, and of those of l + 1 the first i.
pub data BitKnown (F : List (List ℕ)) (l i : ℕ) (w : List ℕ) (v b : ℕ) : Type 0 where
  raised : b ≡ 1 → T (blocked F w v) → BitKnown F l i w v b
  clear : b ≡ 0 → (T (blocked F (fail F w) v) → ⊥)
      → ((j : ℕ) → j < i → j < length F → length (get_or F j []) ≤ suc l → Other F j w v)
      → ((j : ℕ) → j < length F → length (get_or F j []) ≤ l → Other F j w v)
      → BitKnown F l i w v b

-- The states so far: all of at most l vertices, numbered below `first`, and some of l + 1.
pub record Numbering (F : List (List ℕ)) (n l first m : ℕ) (words : List (List ℕ)) : Type 0 where
  pub bounded : Bounded n F
  pub positive : 1 ≤ l
  pub count : length words ≡ m
  pub distinct : Distinct words
  pub only : (q : List ℕ) → Memᴰ q words → State F q × (latest q < n)
  pub singles : (v : ℕ) → v < n → Numbers words v (v ∷ [])
  pub low : (q : ℕ) → q < first → length (get_or words q []) ≤ l
  pub high : (q : ℕ) → first ≤ q → q < m → length (get_or words q []) ≡ suc l
  pub all : (j k : ℕ) → j < length F → 1 ≤ k → k ≤ l → k < length (get_or F j []) → Memᴰ (reverse (take k (get_or F j []))) words

-- Room for that many states.
pub record Room (most : ℕ) (steps blockeds latests fails : List ℕ) : Type 0 where
  pub of_steps : most * most_vertices ≤ length steps
  pub of_blockeds : most ≤ length blockeds
  pub of-latests : most ≤ length latests
  pub of-fails : most ≤ length fails

-- Level l, after i of the paths: `current` has the number of each path's first l + 1 vertices, or, of the paths from i on, of its first l. The rows and blocked bits of the states below `done` are there, and the failure links of those from `first` on.
pub record Progress (F : List (List ℕ)) (n l i first done m : ℕ) (steps blockeds latests fails current : List ℕ) : Type 0 where
  pub words : List (List ℕ)
  pub numbered : Numbering F n l first m words
  pub room : Room (states_of n (length F)) steps blockeds latests fails
  pub current-size : length current ≡ most_paths
  pub ordered : (first ≤ done) × (done ≤ m)
  pub behind : (j : ℕ) → j < i → j < length F → suc l < length (get_or F j []) → Numbers words (get_or current j 0) (reverse (take (suc l) (get_or F j [])))
  pub ahead : (j : ℕ) → i ≤ j → j < length F → l < length (get_or F j []) → Numbers words (get_or current j 0) (reverse (take l (get_or F j [])))
  pub rows : (q v : ℕ) → q < done → v < n → Row F words (get_or words q []) v (get_or steps (q * most_vertices + v) 0)
  pub bits : (q v : ℕ) → q < done → BitKnown F l i (get_or words q []) v (bit (get_or blockeds q 0) v)
  pub links : (q : ℕ) → first ≤ q → q < m → Numbers words (get_or fails q 0) (fail F (get_or words q []))
  pub stands : (q : ℕ) → q < m → get_or latests q 0 ≡ latest (get_or words q [])

-- The bytes and the tables stand for some paths.
pub record Reached (area : List ℕ) (count l i first done m : ℕ) (steps blockeds latests fails current : List ℕ) : Type 0 where
  pub paths : List (List ℕ)
  pub vertices : ℕ
  pub spells : Spells area count paths
  pub so_far : Progress paths vertices l i first done m steps blockeds latests fails current

-- The states from `first` on, of which there are m in all, wait for their rows.
pub record Waiting (n first m : ℕ) (steps blockeds fails : List ℕ) : Type 0 where
  pub paths : List (List ℕ)
  pub level : ℕ
  pub turns : ℕ
  pub latests : List ℕ
  pub current : List ℕ
  pub taken : length paths ≤ turns
  pub so_far : Progress paths n level turns first first m steps blockeds latests fails current
