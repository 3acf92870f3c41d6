-- The passes that are made: they end with the first that changes none.
use Rattle.std.specs.Prelude.{ℕ, zero, suc, ◌+◌, ◌<◌, ◌≤◌, ◌≡◌, List, length}
use Rattle.distances.specs.Edge.{Edge, Path, cost}
use Rattle.distances.specs.Table.{at, passes}

-- pass k from t, counted from 1, changes none
abbrev pub Changeless : List Edge → List ℕ → ℕ → Type 0
Changeless es t zero = ⊥
Changeless es t (suc k) = passes es (suc k) t ≡ passes es k t

-- pass k is the first that changes none
pub record First (es : List Edge) (t : List ℕ) (k : ℕ) : Type 0 where
  pub last : Changeless es t k
  pub earlier : (j : ℕ) → j < k → Changeless es t j → ⊥

-- every state has a least path with at most H edges
abbrev pub Short : ℕ → ℕ → List Edge → List ℕ → Type 0
Short H n es base =
    (q : ℕ) → q < n → (p : List Edge) × (r : ℕ) × Path es q r p × (length p ≤ H) ×
    ((p' : List Edge) (r' : ℕ) → Path es q r' p' → cost p + at base r ≤ cost p' + at base r')
