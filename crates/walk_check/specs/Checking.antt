-- The check of a walk (01: of a line-up): clear, or the forbidden path that ends earliest and, of those with that end, the shortest.
use Rattle.std.specs.Prelude
use Rattle.std.specs.Prelude.{ℕ, zero, suc, ◌-◌, Bool, cond, ◌&&◌, List, [], ◌∷◌, eqb, leb, length, Some, None, Result, Ok, Err}
use Rattle.std.proofs.Math.Option.{Option, none, some}
use Rattle.std.proofs.Math.Seq.{slice}
use Rattle.limits.specs.Limits.{longest, area_size}
use Rattle.walks.specs.Graph.{Graph}
use Rattle.walks.specs.Walk.{is_walk}
use Rattle.lists.specs.Test.{any}
use Rattle.walks.specs.Avoid.{same}
use Rattle.book.specs.declared.Refusal.{Refusal}
use Rattle.book.specs.Refusal.{Test, test}
use Rattle.book.specs.Book.{Book, graph}
use Rattle.book.specs.Reading.{Reading, reading, refusal_of}
use Rattle.rules.specs.Area.{spelled, valid}
use Rattle.walk_check.specs.declared.Occurrence.{Occurrence}

-- The path r stands in w and ends right before place e.
abbrev pub ends_at : List ℕ → ℕ → List ℕ → Bool
ends_at w e r = leb (length r) e && same r (slice (e - length r) e w)

-- A path of F with n vertices ends there.
abbrev pub some_ends : List (List ℕ) → List ℕ → ℕ → ℕ → Bool
some_ends F w e n = any (λ r. eqb (length r) n && ends_at w e r) F

-- The first of k numbers from `from` on that passes.
unfoldable pub first_from : (ℕ → Bool) → ℕ → ℕ → Option ℕ
first_from p zero from = none
first_from p (suc k) from = cond (p from) (some from) (first_from p k (suc from))

-- Which of the paths with one end is named, by its length: the shortest, of 2 to 8 vertices.
abbrev pub named_at : List (List ℕ) → List ℕ → ℕ → Option ℕ
named_at F w e = first_from (some_ends F w e) 7 2

-- The path that is named at e, or else what the later ends answer.
abbrev pub answer_at : ℕ → Option ℕ → Prelude.Option Occurrence → Prelude.Option Occurrence
answer_at e none later = later
answer_at e (some n) later = Some (record { place = e - n; length = n })

-- The answer for k ends from e on: the first with a path that ends there.
unfoldable pub check_from : List (List ℕ) → List ℕ → ℕ → ℕ → Prelude.Option Occurrence
check_from F w zero e = None
check_from F w (suc k) e = answer_at e (named_at F w e) (check_from F w k (suc e))

-- The answer for a walk: none where it is clear.
abbrev pub occurrence : List (List ℕ) → List ℕ → Prelude.Option Occurrence
occurrence F w = check_from F w (length w) 1

-- 10: what is to be checked is a walk of the book's graph, and not too long.
abbrev pub checkable : Graph → List ℕ → Bool
checkable g w = leb (length w) longest && is_walk g w

-- The operation: what it is refused for, and what it answers.
abbrev pub checked_unless : Option Refusal → Prelude.Option Occurrence → Result (Prelude.Option Occurrence) Refusal
checked_unless none c = Ok c
checked_unless (some r) c = Err r

abbrev pub check_tests : List ℕ → ℕ → List ℕ → Book → List Test
check_tests area count w b =
    test 8 (leb area_size (length area)) ∷ test 9 (valid b.count area count) ∷ test 10 (checkable (graph b) w) ∷ []

abbrev pub checking_of : Reading → List ℕ → ℕ → List ℕ → Result (Prelude.Option Occurrence) Refusal
checking_of r area count w = checked_unless (refusal_of r (check_tests area count w)) (occurrence (spelled count area) w)

abbrev pub checking : List ℕ → List ℕ → ℕ → List ℕ → Result (Prelude.Option Occurrence) Refusal
checking s area count w = checking_of (reading s) area count w
