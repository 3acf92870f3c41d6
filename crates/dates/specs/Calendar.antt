-- The calendar in words, as the laws speak of it. How many days a month has is the table of Dates (`days_in`), and `Months` says what that is, month by month.
use Rattle.std.specs.Prelude.{ℕ, zero, suc, ◌+◌, ◌%◌, ◌≤◌, ◌<◌, ◌≡◌, ◌⊎◌, ◌↔◌, Bool, true, false, cond, length, ltb, Option, Some}
use mathlib.Core.List.{List, [], ◌∷◌, Memᴰ}
use Rattle.dates.specs.declared.MonthDay.{MonthDay}
use Rattle.dates.specs.declared.Date.{Date}
use Rattle.dates.specs.declared.Window.{Window}
use Rattle.dates.specs.Dates.{month_day, days_in, is_leap}

-- ---- dates
-- A leap year can be divided by 4, and where by 100, by 400 too.
abbrev pub LeapYear : ℕ → Type 0
LeapYear year = (year % 4 ≡ 0) × (year % 100 ≡ 0 → year % 400 ≡ 0)

pub record Months (leap : Bool) : Type 0 where
  pub january : days_in leap 1 ≡ 31
  pub february : days_in leap 2 ≡ cond leap 29 28
  pub march : days_in leap 3 ≡ 31
  pub april : days_in leap 4 ≡ 30
  pub may : days_in leap 5 ≡ 31
  pub june : days_in leap 6 ≡ 30
  pub july : days_in leap 7 ≡ 31
  pub august : days_in leap 8 ≡ 31
  pub september : days_in leap 9 ≡ 30
  pub october : days_in leap 10 ≡ 31
  pub november : days_in leap 11 ≡ 30
  pub december : days_in leap 12 ≡ 31
  pub no_month : (m : ℕ) → (m ≡ 0) ⊎ (12 < m) → days_in leap m ≡ 0

-- A day of a year of one kind or the other.
abbrev pub IsDay : Bool → MonthDay → Type 0
IsDay leap d = (1 ≤ d.day) × (d.day ≤ days_in leap d.month)

-- A date of the years 1900 to 2199: a day that its year has.
pub record IsDate (d : Date) : Type 0 where
  pub from : 1900 ≤ d.year
  pub to : d.year ≤ 2199
  pub in-leap : LeapYear d.year → IsDay true (month_day d)
  pub in-other : (LeapYear d.year → ⊥) → IsDay false (month_day d)

-- ---- the order of days
-- By month, then day.
abbrev pub Before : MonthDay → MonthDay → Type 0
Before d e = (d.month < e.month) ⊎ ((d.month ≡ e.month) × (d.day < e.day))

abbrev pub UpTo : MonthDay → MonthDay → Type 0
UpTo d e = Before e d → ⊥

-- The days of a year in their order, each before the next, so that none is twice; and how many.
abbrev pub Rising : List MonthDay → Type 0
Rising [] = Unit
Rising (d ∷ []) = Unit
Rising (d ∷ e ∷ ds) = Before d e × Rising (e ∷ ds)

pub record YearOf (leap : Bool) (n : ℕ) : Type 0 where
  pub days : List MonthDay
  pub each : (d : MonthDay) → Memᴰ d days ↔ IsDay leap d
  pub rising : Rising days
  pub number : length days ≡ n

-- The days of so many years together, from a first year on.
abbrev pub days_of_years : ℕ → ℕ → ℕ
days_of_years first zero = 0
days_of_years first (suc n) = cond (is_leap first) 366 365 + days_of_years (suc first) n

-- ---- windows
-- Both days count; where the last comes before the first, the window runs over the year's end.
abbrev pub Inside : Window → MonthDay → Type 0
Inside w d =
    (UpTo w.first w.last × (UpTo w.first d × UpTo d w.last)) ⊎ (Before w.last w.first × (UpTo w.first d ⊎ UpTo d w.last))

-- A day that lies in the window, if there is one.
abbrev pub InSeason : Option Window → MonthDay → Type 0
InSeason o d = (w : Window) → o ≡ Some w → Inside w d

-- The edges are days that some year has, and a leap year has every day.
abbrev pub IsWindow : Window → Type 0
IsWindow w = IsDay true w.first × IsDay true w.last

abbrev pub leap_day : MonthDay
leap_day = record { day = 29; month = 2 }

-- The day after a day, over the year's end, with 29 February among them.
abbrev pub day_after : MonthDay → MonthDay
day_after d =
    cond (ltb d.day (days_in true d.month)) (record { day = suc d.day; month = d.month })
    (cond (ltb d.month 12) (record { day = 1; month = suc d.month }) (record { day = 1; month = 1 }))

-- Each of two windows begins on the day after the other ends: the one is the other's complement. They begin on different days: a window that is the
-- whole year has no complement, and would be its own.
pub record Complements (v w : Window) : Type 0 where
  pub then : day_after v.last ≡ w.first
  pub again : day_after w.last ≡ v.first
  pub apart : v.first ≡ w.first → ⊥
