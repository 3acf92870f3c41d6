-- 02 (4): dates of the Gregorian calendar, years 1900 to 2199, and windows of the year.
use Rattle.std.specs.Prelude.{ℕ, ◌%◌, Bool, true, cond, not, ◌&&◌, ◌||◌, List, [], ◌∷◌, get_or, eqb, leb, ltb, Option, Some, None}
use Rattle.dates.specs.declared.MonthDay.{MonthDay}
use Rattle.dates.specs.declared.Date.{Date}
use Rattle.dates.specs.declared.Window.{Window}

-- Every fourth year is a leap year, but of the full centuries only every fourth.
abbrev pub is_leap : ℕ → Bool
is_leap year = eqb (year % 4) 0 && (not (eqb (year % 100) 0) || eqb (year % 400) 0)

-- The days of January to December, in a leap year or in another.
abbrev pub month_lengths : Bool → List ℕ
month_lengths leap = 31 ∷ cond leap 29 28 ∷ 31 ∷ 30 ∷ 31 ∷ 30 ∷ 31 ∷ 31 ∷ 30 ∷ 31 ∷ 30 ∷ 31 ∷ []

-- The days of a month; none of the numbers 0 and from 13 on, which are no month.
abbrev pub days_in : Bool → ℕ → ℕ
days_in leap month = get_or (0 ∷ month_lengths leap) month 0

-- Whether a leap year has the day, or another year.
abbrev pub has_day : Bool → MonthDay → Bool
has_day leap d = leb 1 d.day && leb d.day (days_in leap d.month)

-- 15: a day that its year has, in the years 1900 to 2199.
abbrev pub first_year : ℕ
first_year = 1900

abbrev pub last_year : ℕ
last_year = 2199

abbrev pub month_day : Date → MonthDay
month_day d = record { day = d.day; month = d.month }

abbrev pub is_date : Date → Bool
is_date d = leb first_year d.year && leb d.year last_year && has_day (is_leap d.year) (month_day d)

-- 14: both edges are days that some year has; a leap year has all of them.
abbrev pub is_window : Window → Bool
is_window w = has_day true w.first && has_day true w.last

-- By month, then day.
abbrev pub not_after : MonthDay → MonthDay → Bool
not_after d e = ltb d.month e.month || (eqb d.month e.month && leb d.day e.day)

-- Both days count. A window whose last day comes before its first runs over the year's end; equal days make one day.
abbrev pub lies_in : Window → MonthDay → Bool
lies_in w d =
    cond (not_after w.first w.last) (not_after w.first d && not_after d w.last) (not_after w.first d || not_after d w.last)

-- What has a window or none: where it has none, every day will do.
abbrev pub window_fits : Option Window → Bool
window_fits None = true
window_fits (Some w) = is_window w

abbrev pub in_season : Option Window → MonthDay → Bool
in_season None d = true
in_season (Some w) d = lies_in w d
