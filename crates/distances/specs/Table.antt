-- Tables of distances, what they should hold, and how they are worked out: in passes over the edges.
use Rattle.std.specs.Prelude.{ℕ, zero, suc, ◌+◌, ◌^◌, ◌≤◌, min, ◌≡◌, Bool, true, ◌&&◌, cond, List, [], ◌∷◌, length, get_or, set, leb}
use Rattle.distances.specs.Edge.{Edge, Path, cost}

-- the entry at a state
abbrev pub at : List ℕ → ℕ → ℕ
at t q = get_or t q 0

-- the entry of a state from which no path to a target is known
abbrev pub inf : ℕ
inf = 2 ^ 42

-- d is the cost of a path from q and the base entry at its end
abbrev pub Attained : List Edge → List ℕ → ℕ → ℕ → Type 0
Attained es base q d = (p : List Edge) × (r : ℕ) × Path es q r p × (d ≡ cost p + at base r)

-- d is the least of these over all paths from q, of any length; the empty path counts
pub record Least (es : List Edge) (base : List ℕ) (q d : ℕ) : Type 0 where
  pub attained : Attained es base q d
  pub least : (p : List Edge) (r : ℕ) → Path es q r p → d ≤ cost p + at base r

-- d is the least over the paths from q with at most k edges
pub record LeastWithin (k : ℕ) (es : List Edge) (base : List ℕ) (q d : ℕ) : Type 0 where
  pub attained : (p : List Edge) × (r : ℕ) × Path es q r p × (length p ≤ k) × (d ≡ cost p + at base r)
  pub least : (p : List Edge) (r : ℕ) → Path es q r p → length p ≤ k → d ≤ cost p + at base r

-- one edge: the new entry at its tail is at most the old entry at its head and its cost
abbrev pub relax : List ℕ → Edge → List ℕ → List ℕ
relax old e new = set new e.tail (min (at new e.tail) (at old e.head + e.cost))

abbrev pub relaxes : List ℕ → List Edge → List ℕ → List ℕ
relaxes old [] new = new
relaxes old (e ∷ es) new = relaxes old es (relax old e new)

-- what relaxing edges from one state makes of its entry d
abbrev pub lowest : List ℕ → List Edge → ℕ → ℕ
lowest old [] d = d
lowest old (e ∷ es) d = lowest old es (min d (at old e.head + e.cost))

-- a pass: every edge once, all from the old table
unfoldable pub pass : List Edge → List ℕ → List ℕ
pass es t = relaxes t es t

unfoldable pub passes : List Edge → ℕ → List ℕ → List ℕ
passes es zero t = t
passes es (suc k) t = pass es (passes es k t)

-- no edge lowers an entry
abbrev pub settled : List Edge → List ℕ → Bool
settled [] t = true
settled (e ∷ es) t = leb (at t e.tail) (at t e.head + e.cost) && settled es t

-- how many passes are made from t until one changes none, which counts; after n that changed an entry the next is taken to change none, as it does in a graph of n
-- states (`made-first`)
unfoldable pub made : List Edge → ℕ → List ℕ → ℕ
made es zero t = 1
made es (suc n) t = cond (settled es t) 1 (suc (made es n (pass es t)))
