-- Each test of Dates says what Calendar says of a year, a date or a window; and windows of one day.
use Rattle.std.specs.Prelude.{ℕ, ◌≤◌, ◌≡◌, refl, ◌⊎◌, ◌↔◌, Bool, true, false, cond, leb, Option, Some, None}
use Rattle.std.proofs.Common.{inl, inr, ⊎_elim, sym, ◌∙◌, subst, true≢false, arith}
use Rattle.std.proofs.lemmas.Bool.Decides.{nat_tests, Decides-and, Decides-or, Decides-like}
use Rattle.dates.specs.declared.MonthDay.{MonthDay}
use Rattle.dates.specs.declared.Date.{Date}
use Rattle.dates.specs.declared.Window.{Window}
use Rattle.dates.specs.Dates.{is_leap, has_day, is_date, is_window, month_day, not_after, lies_in, in_season, first_year, last_year}
use Rattle.dates.proofs.CalendarDays.{same-day}
use Rattle.dates.specs.Calendar.{LeapYear, IsDay, IsDate, IsWindow, Before, UpTo, Inside, InSeason, leap_day}

-- ---- the tests
pub leap-year : (y : ℕ) → (is_leap y ≡ true) ↔ LeapYear y
leap-year y = grind (arith, nat_tests)

day-is : (leap : Bool) (d : MonthDay) → (has_day leap d ≡ true) ↔ IsDay leap d
day-is leap d = grind (arith, nat_tests)

within : (a b : ℕ) → (leb a b ≡ true) ↔ (a ≤ b)
within a b = grind (arith, nat_tests)

-- A day of its year, whichever kind that is.
in_year : (y : ℕ) (d : MonthDay) (leap : Bool) → is_leap y ≡ leap
    → (has_day leap d ≡ true) ↔ ((LeapYear y → IsDay true d) × ((LeapYear y → ⊥) → IsDay false d))
in_year y d true e =
    let is = (leap-year y).0 e in
    Decides-like (has_day true d) (λ h. (λ _. h, λ n. absurd (n is))) (λ h. h.0 is) (day-is true d)
in_year y d false e =
    let not : LeapYear y → ⊥ = λ l. true≢false (sym ((leap-year y).1 l) ∙ e) in
    Decides-like (has_day false d) (λ h. (λ l. absurd (not l), λ _. h)) (λ h. h.1 not) (day-is false d)

pub date-is : (d : Date) → (is_date d ≡ true) ↔ IsDate d
date-is d =
    Decides-like (is_date d)
    (λ h. record { from = h.0.0; to = h.0.1; in-leap = h.1.0; in-other = h.1.1 })
    (λ h. ((h.from, h.to), (h.in-leap, h.in-other)))
    (Decides-and _ _ (Decides-and _ _ (within first_year d.year) (within d.year last_year)) (in_year d.year (month_day d) (is_leap d.year) refl))

pub window-is : (w : Window) → (is_window w ≡ true) ↔ IsWindow w
window-is w = Decides-and (has_day true w.first) (has_day true w.last) (day-is true w.first) (day-is true w.last)

up-to : (d e : MonthDay) → (not_after d e ≡ true) ↔ UpTo d e
up-to d e = grind (arith, nat_tests)

before : (d e : MonthDay) → (not_after d e ≡ false) ↔ Before e d
before d e = grind (arith, nat_tests)

-- Which of two tests is asked is a test itself.
asked : {P N A B : Type 0} (b x y : Bool) → (b ≡ true) ↔ P → (b ≡ false) ↔ N → (x ≡ true) ↔ A → (y ≡ true) ↔ B
    → (cond b x y ≡ true) ↔ ((P × A) ⊎ (N × B))
asked true x y p n a b = (λ e. inl (p.0 refl, a.0 e), λ s. ⊎_elim (λ h. a.1 h.1) (λ h. absurd (true≢false (n.1 h.0))) s)
asked false x y p n a b = (λ e. inr (n.0 refl, b.0 e), λ s. ⊎_elim (λ h. absurd (true≢false (sym (p.1 h.0)))) (λ h. b.1 h.1) s)

pub lies : (w : Window) (d : MonthDay) → (lies_in w d ≡ true) ↔ Inside w d
lies w d =
    asked (not_after w.first w.last) _ _ (up-to w.first w.last) (before w.first w.last)
    (Decides-and _ _ (up-to w.first d) (up-to d w.last))
    (Decides-or _ _ (up-to w.first d) (up-to d w.last))

-- Where there is no window, every day will do.
pub season : (o : Option Window) (d : MonthDay) → (in_season o d ≡ true) ↔ InSeason o d
season None d = (λ e w p. absurd (cc), λ h. refl)
season (Some w) d = (λ e v p. subst (λ x. Inside x d) (cc) ((lies w d).0 e), λ h. (lies w d).1 (h w refl))

-- ---- windows of one day
-- Two days of which neither is before the other are one.
one : (d e : MonthDay) → UpTo d e → UpTo e d → d ≡ e
one d e h k = same-day d e (grind arith) (grind arith)

equal : (d e : MonthDay) → d ≡ e → UpTo d e
equal d e p = subst (UpTo d) p (λ b. omega arith)

-- A window whose edges are one day has that day alone ...
pub one_day : (w : Window) → w.first ≡ w.last → (d : MonthDay) → Inside w d ↔ (d ≡ w.first)
one_day w e d = (
  ⊎_elim (λ p. one d w.first (subst (UpTo d) (sym e) p.1.1) p.1.0) (λ p. absurd (equal w.first w.last e p.0)),
  λ q. inl (equal w.first w.last e, (equal w.first d (sym q), equal d w.last (q ∙ e))),
)

-- ... so that one from 29 February to 29 February has no day of a common year.
pub leap_day_only : (w : Window) → w.first ≡ leap_day → w.last ≡ leap_day → (d : MonthDay) → IsDay false d → Inside w d → ⊥
leap_day_only w p q d h i =
    let is : IsDay false leap_day = subst (IsDay false) ((one_day w (p ∙ sym q) d).0 i ∙ p) h in
    omega arith
