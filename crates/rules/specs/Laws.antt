-- The laws of binding.
use Rattle.std.specs.Prelude.{ℕ, ◌≤◌, ◌≡◌, length}
use Rattle.std.proofs.Math.Bool.{true}
use mathlib.Core.List.Memᴰ
use mathlib.Core.List.{List, Memᴰ}
use Rattle.book.specs.Book.{RuleSet, Book, All, IsPath}
use Rattle.book.specs.Reading.{Reading, reading}
use Rattle.rules.specs.declared.Batch.{Batch}
use Rattle.rules.specs.Binding.{applies, known, once}
use Rattle.rules.specs.Area.{spelled, valid}
use Rattle.limits.specs.Limits.{area_size, most_paths}
use Rattle.rules.specs.Operations.{binding, area_after}

-- ---- the known paths are those of the rule sets that apply
-- A path of a rule set that applies.
pub record Applied (batch : Batch) (ss : List RuleSet) (r : List ℕ) : Type 0 where
  pub set : RuleSet
  pub listed : Memᴰ set ss
  pub applying : applies batch set ≡ true
  pub path : Memᴰ r set.paths

-- ---- an accepted bind
-- What the area then holds.
pub record Filled (s : List ℕ) (batch : Batch) (area : List ℕ) (F : List (List ℕ)) : Type 0 where
  pub book : Book
  pub read : reading s ≡ Reading.accepted book
  pub paths : F ≡ known batch book.sets
  pub few : length F ≤ most_paths
  pub proper : All (IsPath book.count) F
  pub different : once F ≡ true
  pub long : area_size ≤ length (area_after (binding s batch area) area)
  pub validity : valid book.count (area_after (binding s batch area) area) (length F) ≡ true
  pub spells : spelled (length F) (area_after (binding s batch area) area) ≡ F
