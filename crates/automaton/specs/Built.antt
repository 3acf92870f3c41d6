-- The automaton as tables: what the code builds.
use Rattle.std.specs.Prelude.{Bool, true, false, List, [], ◌∷◌, ◌≡◌, ℕ, ◌+◌, ◌*◌, ◌/◌, ◌%◌, ◌^◌, ◌<◌, ◌≤◌, length, get_or}
use Rattle.limits.specs.Limits.{most_vertices}
use Rattle.states.specs.States.{latest}
use Rattle.states.specs.Automaton.{go, blocked}
use Rattle.states.specs.Count.{states_of, most_states, States}

-- k is the number of the word w.
pub record Numbers (words : List (List ℕ)) (k : ℕ) (w : List ℕ) : Type 0 where
  pub below : k < length words
  pub is : get_or words k [] ≡ w

-- Bit v of a word.
abbrev pub bit : ℕ → ℕ → ℕ
bit x v = x / 2 ^ v % 2

abbrev pub flag : Bool → ℕ
flag true = 1
flag false = 0

-- The tables of the automaton of F over the vertices below n: m states, numbered by `words`; the step of state q over v at q * 64 + v; the blocked vertices of q as the bits of a word; the vertex at which q stands.
pub record Built (F : List (List ℕ)) (n m : ℕ) (steps blockeds latests : List ℕ) : Type 0 where
  pub words : List (List ℕ)
  pub count : length words ≡ m
  pub few : m ≤ most_states
  pub counted : m ≤ states_of n (length F)
  pub states : States n F words
  pub singles : (v : ℕ) → v < n → Numbers words v (v ∷ [])
  pub step : (q v : ℕ) → q < m → v < n → Numbers words (get_or steps (q * most_vertices + v) 0) (go F (get_or words q []) v)
  pub bits : (q v : ℕ) → q < m → bit (get_or blockeds q 0) v ≡ flag (blocked F (get_or words q []) v)
  pub stands : (q : ℕ) → q < m → get_or latests q 0 ≡ latest (get_or words q [])
  pub steps_room : m * most_vertices ≤ length steps
  pub blockeds_room : m ≤ length blockeds
  pub latests-room : m ≤ length latests
