-- The different paths of two sets together, and those that the first lacks.
use Rattle.std.specs.Prelude.{ℕ, cond}
use mathlib.Core.List.{List, [], ◌∷◌, ◌++◌}
use Rattle.rules.specs.Binding.{member}

-- The different paths of R that F lacks, each once (01: the lab's runs that the binding sheets lack).
unfoldable pub lacking : List (List ℕ) → List (List ℕ) → List (List ℕ)
lacking F [] = []
lacking F (r ∷ R) = cond (member r (F ++ R)) (lacking F R) (r ∷ lacking F R)

-- The different paths of F and R together, one in both counted once.
abbrev pub together : List (List ℕ) → List (List ℕ) → List (List ℕ)
together F R = F ++ lacking F R
