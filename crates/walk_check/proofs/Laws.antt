-- What the check says of the paths of an area, and after a bind.
use Rattle.std.specs.Prelude.{ℕ, ◌≤◌, ◌≡◌, refl, leb, length, None, Ok}
use mathlib.Core.List.Memᴰ
use mathlib.Core.List.{List, [], ◌∷◌, Memᴰ}
use Rattle.std.proofs.Common.{⊎_elim, ap, ap₂, ◌∙◌, arith, le-leb}
use Rattle.std.proofs.Math.Option.{Option, none, some}
use Rattle.walks.specs.Avoid.{Avoids}
use Rattle.book.specs.declared.Refusal.{Refusal}
use Rattle.book.specs.Refusal.{Test, test, refusal_by}
use Rattle.book.proofs.RefusalLaws.{none→hold, hold→none, first-of_append}
use Rattle.book.specs.Book.{Book, All, IsPath, graph}
use Rattle.book.specs.Reading.{Reading, reading, refusal_of}
use Rattle.rules.specs.Area.{spelled, valid}
use Rattle.limits.specs.Limits.{area_size, longest_path}
use Rattle.walk_check.specs.Checking.{checkable, occurrence, checked_unless, check_tests, checking_of, checking}
use Rattle.rules.specs.Operations.{binding, area_after}
use Rattle.rules.specs.Laws.{Filled}
use Rattle.rules.proofs.ValidLaws.{valid→Valid}
use Rattle.rules.specs.declared.Batch.{Batch}
use Rattle.walk_check.proofs.CheckLaws.{clear→Avoids, Avoids→clear}

-- the paths of a valid area have 2 to 8 vertices
pub sizes : (v : ℕ) (F : List (List ℕ)) → All (IsPath v) F → (r : List ℕ) → Memᴰ r F → (2 ≤ length r) × (length r ≤ longest_path)
sizes v [] h r m = absurd (Memᴰ.not-nil m)
sizes v (p ∷ F) h r m =
    ⊎_elim (λ here. (rw here h.0.two, rw here h.0.eight)) (sizes v F h.1 r) (Memᴰ.cases_cons m)

module _ (s area : List ℕ) (count : ℕ) (w : List ℕ) where
  abbrev pub check_refusal : Option Refusal
  check_refusal = refusal_of (reading s) (check_tests area count w)

  -- A walk that the check finds clear avoids the forbidden paths of the area ...
  pub clear-avoids : checking s area count w ≡ Ok None → Avoids (spelled count area) w
  clear-avoids e = go (reading s) e
    where
      by_tests : (b : Book) (o : Option Refusal) → refusal_by (check_tests area count w b) ≡ o → checked_unless o (occurrence (spelled count area) w) ≡ Ok None → Avoids (spelled count area) w
      by_tests b (some q) is h = absurd (let z : ◌≡◌ {A = ℕ} 0 1 = cc in omega arith)
      by_tests b none is h =
          let ok = (none→hold (check_tests area count w b) is).1.0 in
          clear→Avoids (spelled count area) w (sizes b.count (spelled count area) (valid→Valid b.count area count ok).paths) (let clear : occurrence (spelled count area) w ≡ None = cc in clear)

      go : (r : Reading) → checking_of r area count w ≡ Ok None → Avoids (spelled count area) w
      go (Reading.accepted b) h = by_tests b (refusal_by (check_tests area count w b)) refl h
      go (Reading.refused q) h = absurd (let z : ◌≡◌ {A = ℕ} 0 1 = cc in omega arith)

  -- ... and one that avoids them is found clear, where nothing is refused.
  pub avoids-clear : check_refusal ≡ none → Avoids (spelled count area) w → checking s area count w ≡ Ok None
  avoids-clear e h = ap (λ o. checked_unless o (occurrence (spelled count area) w)) e ∙ ap Ok (Avoids→clear (spelled count area) w h)

-- With the area and the count of an accepted bind only 10 is refused, and the check is that of the known paths.
pub bind-then-check : (s : List ℕ) (batch : Batch) (area : List ℕ) (F : List (List ℕ)) (f : Filled s batch area F) (w : List ℕ)
    → checking s (area_after (binding s batch area) area) (length F) w ≡ checked_unless (refusal_by (test 10 (checkable (graph f.book) w) ∷ [])) (occurrence F w)
bind-then-check s batch area F f w =
    let after = area_after (binding s batch area) area in
    let held : List Test = test 8 (leb area_size (length after)) ∷ test 9 (valid f.book.count after (length F)) ∷ [] in
    ap (λ r. checking_of r after (length F) w) f.read
    ∙ ap₂ (λ o G. checked_unless o (occurrence G w))
    (first-of_append held (test 10 (checkable (graph f.book) w) ∷ []) (hold→none held (le-leb area_size (length after) f.long, (f.validity, tt)))) f.spells
