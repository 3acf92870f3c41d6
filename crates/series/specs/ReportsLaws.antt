-- Laws of a list of reports.
use Rattle.std.specs.Prelude.{ℕ, zero, suc, ◌+◌, ◌≤◌, ◌<◌, Bool, true, false, cond, List, [], ◌∷◌, ◌≡◌, refl, eqb, ltb, length, get_or, drop}
use Rattle.std.proofs.Common.{ap, ◌∙◌, arith, ltb-true, length-drop}
use Rattle.lists.specs.Test.{and-true}
use Rattle.trial_rules.specs.Trials.{Report}
use Rattle.series.specs.Reports.{is_report, report_in, size_of, reports_in, reports_of}

some_byte : (l : List ℕ) → is_report l ≡ true → 0 < length l
some_byte l e = ltb-true 0 (length l) (and-true (ltb 0 (length l)) _ e).0

-- a report takes a byte or more
pub size-positive : (l : List ℕ) → 0 < size_of l
size-positive l = go (eqb (get_or l 0 0) 0)
  where
    go : (t : Bool) → 0 < cond t 1 (2 + get_or l 1 0)
    go true = omega arith
    go false = omega arith

-- More turns than bytes change nothing.
enough_turns : (k m : ℕ) (l : List ℕ) → length l ≤ k → length l ≤ m → reports_in k l ≡ reports_in m l
unfolding reports_in
enough_turns zero zero l p q = refl
enough_turns zero (suc m) l p q = go (is_report l) refl
  where
    go : (t : Bool) → is_report l ≡ t → [] ≡ cond t (report_in l ∷ reports_in m (drop (size_of l) l)) []
    go true e = absurd (omega (arith, some_byte l e))
    go false e = refl
enough_turns (suc k) zero l p q = go (is_report l) refl
  where
    go : (t : Bool) → is_report l ≡ t → cond t (report_in l ∷ reports_in k (drop (size_of l) l)) [] ≡ []
    go true e = absurd (omega (arith, some_byte l e))
    go false e = refl
enough_turns (suc k) (suc m) l p q = go (is_report l) refl (enough_turns k m (drop (size_of l) l))
  where
    go : (t : Bool) → is_report l ≡ t
        → (length (drop (size_of l) l) ≤ k → length (drop (size_of l) l) ≤ m → reports_in k (drop (size_of l) l) ≡ reports_in m (drop (size_of l) l))
        → cond t (report_in l ∷ reports_in k (drop (size_of l) l)) [] ≡ cond t (report_in l ∷ reports_in m (drop (size_of l) l)) []
    go true e later =
        let fewer = length-drop (size_of l) l in
        ap (λ (ρs : List Report). report_in l ∷ ρs) (later (omega (arith, size-positive l, some_byte l e)) (omega (arith, size-positive l, some_byte l e)))
    go false e later = refl

-- The first report and those after it; or none.
pub reports_cons : (l : List ℕ) → is_report l ≡ true → reports_of l ≡ report_in l ∷ reports_of (drop (size_of l) l)
unfolding reports_in
reports_cons l e = go (length l) refl
  where
    go : (k : ℕ) → length l ≡ k → reports_in k l ≡ report_in l ∷ reports_of (drop (size_of l) l)
    go zero size = absurd (omega (arith, some_byte l e))
    go (suc k) size =
        ap (λ (t : Bool). cond t (report_in l ∷ reports_in k (drop (size_of l) l)) []) e
        ∙ ap (λ (ρs : List Report). report_in l ∷ ρs)
        (enough_turns k (length (drop (size_of l) l)) (drop (size_of l) l) (omega (arith, length-drop (size_of l) l, size-positive l)) (omega arith))

pub reports_none : (l : List ℕ) → is_report l ≡ false → reports_of l ≡ []
unfolding reports_in
reports_none l e = go (length l)
  where
    go : (k : ℕ) → reports_in k l ≡ []
    go zero = refl
    go (suc k) = ap (λ (t : Bool). cond t (report_in l ∷ reports_in k (drop (size_of l) l)) []) e
