-- Laws of the forbidden paths that are known: how many, of what kind, and which.
use Rattle.std.specs.Prelude.{ℕ, ◌≤◌, Bool, cond, ◌≡◌, length}
use Rattle.std.proofs.Math.Bool.{true, false}
use mathlib.Core.List.{List, [], ◌∷◌}
use Rattle.std.proofs.Math.Path.{refl}
use Rattle.std.proofs.Common.{arith, length-append}
use Rattle.limits.specs.Limits.{most_paths}
use Rattle.book.specs.Book.{RuleSet, Book, All, IsPath, WellFormed, all_paths}
use Rattle.book.proofs.BookLaws.{all_map, all_append, all_left, all_right}
use Rattle.rules.specs.Binding.{applies, applied, known, once}
use Rattle.book.specs.EntryLaws.{Short}
use Rattle.rules.proofs.Sets.{distinct-once, distinct-length, distinct-all}
use Rattle.rules.specs.declared.Batch.{Batch}

module _ (P : List ℕ → Type 0) where
  pub bound_all : (batch : Batch) (ss : List RuleSet) → All P (all_paths ss) → All P (applied batch ss)
  unfolding all_paths applied
  bound_all batch [] h = tt
  bound_all batch (s ∷ ss) h = all_append P (cond (applies batch s) s.paths []) (applied batch ss) (own (applies batch s)) (bound_all batch ss (all_right P s.paths (all_paths ss) h))
    where
      own : (x : Bool) → All P (cond x s.paths [])
      own true = all_left P s.paths (all_paths ss) h
      own false = tt

  pub known-all : (batch : Batch) (ss : List RuleSet) → All P (all_paths ss) → All P (known batch ss)
  known-all batch ss h = distinct-all P (applied batch ss) [] tt (bound_all batch ss h)

bound-length : (batch : Batch) (ss : List RuleSet) → length (applied batch ss) ≤ length (all_paths ss)
unfolding all_paths applied
bound-length batch [] = omega arith
bound-length batch (s ∷ ss) = simp length-append (omega (arith, own (applies batch s), bound-length batch ss))
  where
    own : (x : Bool) → length (cond x s.paths []) ≤ length s.paths
    own true = omega arith
    own false = omega arith

-- The known paths of a book are at most 256 different paths by its rules.
module _ (batch : Batch) (b : Book) (w : WellFormed b) where
  pub known-few : length (known batch b.sets) ≤ most_paths
  known-few = omega (arith, distinct-length (applied batch b.sets) [], bound-length batch b.sets, w.few-paths)

  pub known-paths : All (IsPath b.count) (known batch b.sets)
  known-paths = known-all (IsPath b.count) batch b.sets w.paths-proper

  pub known-short : All Short (known batch b.sets)
  known-short = all_map (λ p h. h.eight) (known batch b.sets) known-paths

  pub known-once : once (known batch b.sets) ≡ true
  unfolding once
  known-once = distinct-once (applied batch b.sets) [] refl
