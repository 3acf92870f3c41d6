-- Laws of a book's meaning: every book that is read is well formed.
use Prim.Native.Nat.{ℕ, ◌≤◌}
use Rattle.std.specs.Prelude.{◌≡◌, true, length}
use Rattle.std.proofs.Math.Path.{refl, ap}
use mathlib.Core.List.{List, [], ◌∷◌, ◌++◌}
use Rattle.book.specs.declared.Needs.{Needs}
use Rattle.book.specs.Refusal.{Test}
use Rattle.book.specs.Book.{RuleSet, Book, all_paths, WellFormed}
use Rattle.book.specs.Reading.{kind_at, length_at, end_at, follows, fits, proper, seasonal, fresh, room, framing, content}

-- ---- one more rule set, one more path
module _ (f : Needs) where
  -- a rule set that has no path yet
  abbrev pub bare : List RuleSet
  bare = record { needs = f; paths = [] } ∷ []

  pub paths-set : (ss : List RuleSet) → all_paths (ss ++ bare) ≡ all_paths ss
  unfolding all_paths
  paths-set [] = refl
  paths-set (s ∷ ss) = ap (λ l. s.paths ++ l) (paths-set ss)

-- ---- a field that is accepted
pub record Passed (s : List ℕ) (b : Book) (at : ℕ) : Type 0 where
  pub order : follows b.count (length b.sets) (kind_at s at) ≡ true
  pub fit : fits (kind_at s at) (length_at s at) ≡ true
  pub whole : end_at s at ≤ length s
  pub value : proper (kind_at s at) s b at ≡ true
  pub season : seasonal (kind_at s at) s at ≡ true
  pub once : fresh (kind_at s at) s b at ≡ true
  pub space : room (kind_at s at) b ≡ true

abbrev pub all_tests : List ℕ → Book → ℕ → List Test
all_tests s b at = framing s b.count (length b.sets) at ++ content (kind_at s at) s b at

-- What holds of every book that is read.
pub record IsBook (b : Book) : Type 0 where
  pub well_formed : WellFormed b
  pub some-vertex : 1 ≤ b.count
