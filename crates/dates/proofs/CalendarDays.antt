-- The days of a year: the bounds of their numbers, and a list of them in order.
use Rattle.std.specs.Prelude.{ℕ, zero, suc, ◌≤◌, ◌<◌, ◌≡◌, refl, ◌⊎◌, ◌↔◌, Bool, true, false, max, length, get_or}
use mathlib.Core.List.Memᴰ
use mathlib.Core.List.{List, [], ◌∷◌, Memᴰ}
use Rattle.std.proofs.Common.{inl, inr, ⊎_elim, sym, ap, ap₂, subst, arith}
use Rattle.std.proofs.Math.Logic.{⊎_map}
use mathlib.Core.Logic.Iff
use Rattle.std.proofs.lemmas.Bool.{cases_lt}
use Rattle.std.proofs.lemmas.List.{get_or_past}
use Rattle.dates.specs.declared.MonthDay.{MonthDay}
use Rattle.dates.specs.Dates.{days_in, month_lengths}
use Rattle.dates.specs.Calendar.{Months, IsDay, Before, Rising, YearOf, days_of_years}

pub month-days : (leap : Bool) → Months leap
month-days leap =
    record {
      january = refl;
      february = refl;
      march = refl;
      april = refl;
      may = refl;
      june = refl;
      july = refl;
      august = refl;
      september = refl;
      october = refl;
      november = refl;
      december = refl;
      no_month = none;
    }
  where
    none : (m : ℕ) → (m ≡ 0) ⊎ (12 < m) → days_in leap m ≡ 0
    none m (inl e) = ap (days_in leap) e
    none m (inr h) = get_or_past (0 ∷ month_lengths leap) m 0 (omega arith)

-- Every day of a common year is a day of a leap year.
pub days-of-both : (d : MonthDay) → IsDay false d → IsDay true d
days-of-both d h = (h.0, more d.month h.1)
  where
    more : (m : ℕ) → d.day ≤ days_in false m → d.day ≤ days_in true m
    more zero k = k
    more (suc zero) k = k
    more (suc (suc zero)) k = omega arith
    more (suc (suc (suc m))) k = k

pub same-day : (d e : MonthDay) → d.month ≡ e.month → d.day ≡ e.day → d ≡ e
same-day d e p q = ap₂ (λ (m n : ℕ). record { day = n; month = m }) p q

either-kind : (leap : Bool) (d : MonthDay) → IsDay leap d → IsDay true d
either-kind true d h = h
either-kind false d h = days-of-both d h

pub record Bounds (d : MonthDay) : Type 0 where
  pub first-month : 1 ≤ d.month
  pub last-month : d.month ≤ 12
  pub first-day : 1 ≤ d.day
  pub last-day : d.day ≤ 31

abbrev largest : List ℕ → ℕ
largest [] = 0
largest (n ∷ ns) = max n (largest ns)

up-to_largest : (ns : List ℕ) (m : ℕ) → get_or ns m 0 ≤ largest ns
up-to_largest [] m = omega arith
up-to_largest (n ∷ ns) zero = omega arith
up-to_largest (n ∷ ns) (suc m) = omega (arith, up-to_largest ns m)

pub bounds : (d : MonthDay) → IsDay true d → Bounds d
bounds d h =
    record {
      first-month = from d.month h;
      last-month = ⊎_elim (λ l. absurd (omega (arith, h.0, h.1, get_or_past (0 ∷ month_lengths true) d.month 0 l))) (λ l. l) (cases_lt 12 d.month);
      first-day = h.0;
      last-day = omega (arith, h.1, up-to_largest (0 ∷ month_lengths true) d.month);
    }
  where
    from : (m : ℕ) → IsDay true (record { day = d.day; month = m }) → 1 ≤ m
    from zero k = omega arith
    from (suc m) k = omega arith

-- ---- the list
-- The first n days of a month, and then others.
abbrev month : ℕ → ℕ → List MonthDay → List MonthDay
month m zero rest = rest
month m (suc n) rest = month m n (record { day = suc n; month = m } ∷ rest)

-- The days of the first m months of a year, and then others.
abbrev months : Bool → ℕ → List MonthDay → List MonthDay
months leap zero rest = rest
months leap (suc m) rest = months leap m (month (suc m) (days_in leap (suc m)) rest)

-- What stands in those lists before the others.
abbrev InMonth : ℕ → ℕ → MonthDay → Type 0
InMonth m n d = (d.month ≡ m) × ((1 ≤ d.day) × (d.day ≤ n))

abbrev InMonths : Bool → ℕ → MonthDay → Type 0
InMonths leap m d = (1 ≤ d.month) × (d.month ≤ m) × IsDay leap d

day-more : (m n : ℕ) (rest : List MonthDay) (d : MonthDay)
    → (InMonth m n d ⊎ Memᴰ d (record { day = suc n; month = m } ∷ rest)) ↔ (InMonth m (suc n) d ⊎ Memᴰ d rest)
day-more m n rest d = (⊎_elim (λ p. inl (p.0, (p.1.0, omega arith))) to, ⊎_elim from (λ i. inr (Memᴰ.tail i)))
  where
    last : MonthDay
    last = record { day = suc n; month = m }

    to : Memᴰ d (last ∷ rest) → InMonth m (suc n) d ⊎ Memᴰ d rest
    to (Memᴰ.head e) = inl (subst (InMonth m (suc n)) (sym e) (refl, (omega arith, omega arith)))
    to (Memᴰ.tail i) = inr i

    from : InMonth m (suc n) d → InMonth m n d ⊎ Memᴰ d (last ∷ rest)
    from p = ⊎_elim (λ l. inr (Memᴰ.head (same-day d last p.0 (omega arith)))) (λ l. inl (p.0, (p.1.0, l))) (cases_lt n d.day)

month-member : (m n : ℕ) (rest : List MonthDay) (d : MonthDay) → Memᴰ d (month m n rest) ↔ (InMonth m n d ⊎ Memᴰ d rest)
month-member m zero rest d = (inr, ⊎_elim (λ p. absurd (omega arith)) (λ i. i))
month-member m (suc n) rest d = Iff.trans (month-member m n (record { day = suc n; month = m } ∷ rest) d) (day-more m n rest d)

month-more : (leap : Bool) (m : ℕ) (d : MonthDay) → (InMonths leap m d ⊎ InMonth (suc m) (days_in leap (suc m)) d) ↔ InMonths leap (suc m) d
month-more leap m d = (
  ⊎_elim (λ p. (p.0, omega arith, p.2)) (λ p. (omega arith, omega arith, (p.1.0, subst (λ k. d.day ≤ days_in leap k) (sym p.0) p.1.1))),
  λ p. ⊎_elim
      (λ l. let is : d.month ≡ suc m = omega arith in inr (is, (p.2.0, subst (λ k. d.day ≤ days_in leap k) is p.2.1)))
      (λ l. inl (p.0, l, p.2))
      (cases_lt m d.month),
)

months-member : (leap : Bool) (m : ℕ) (rest : List MonthDay) (d : MonthDay) → Memᴰ d (months leap m rest) ↔ (InMonths leap m d ⊎ Memᴰ d rest)
months-member leap zero rest d = (inr, ⊎_elim (λ p. absurd (omega arith)) (λ i. i))
months-member leap (suc m) rest d =
    let n = days_in leap (suc m) in
    let last = month-member (suc m) n rest d in
    let fewer = months-member leap m (month (suc m) n rest) d in
    let more = month-more leap m d in (
      λ i. ⊎_elim (λ p. inl (more.0 (inl p))) (λ j. ⊎_map (λ q. more.0 (inr q)) (λ k. k) (last.0 j)) (fewer.0 i),
      λ s. fewer.1 (⊎_elim (λ p. ⊎_map (λ q. q) (λ q. last.1 (inl q)) (more.1 p)) (λ i. inr (last.1 (inr i))) s),
    )

-- A day that comes earlier can take the place of the first.
earlier : (d e : MonthDay) (rest : List MonthDay) → Before d e → Rising (e ∷ rest) → Rising (d ∷ rest)
earlier d e [] b r = tt
earlier d e (f ∷ rest) b r = (grind arith, r.1)

month-rising : (m n : ℕ) (rest : List MonthDay) → Rising (record { day = n; month = m } ∷ rest) → Rising (record { day = 0; month = m } ∷ month m n rest)
month-rising m zero rest r = r
month-rising m (suc n) rest r = month-rising m n (record { day = suc n; month = m } ∷ rest) (inr (refl, omega arith), r)

months-rising : (leap : Bool) (m : ℕ) (rest : List MonthDay) → Rising (record { day = 0; month = suc m } ∷ rest) → Rising (record { day = 0; month = 1 } ∷ months leap m rest)
months-rising leap zero rest r = r
months-rising leap (suc m) rest r =
    let n = days_in leap (suc m) in
    months-rising leap m (month (suc m) n rest) (month-rising (suc m) n rest (earlier (record { day = n; month = suc m }) (record { day = 0; month = suc (suc m) }) rest (inl (omega arith)) r))

rest-rising : (d : MonthDay) (ds : List MonthDay) → Rising (d ∷ ds) → Rising ds
rest-rising d [] r = tt
rest-rising d (e ∷ ds) r = r.1

year-of : (leap : Bool) (n : ℕ) → length (months leap 12 []) ≡ n → YearOf leap n
year-of leap n e =
    record {
      days = months leap 12 [];
      each = λ d.
          let member = months-member leap 12 [] d in (
            λ i. ⊎_elim (λ p. p.2) (λ j. absurd (Memᴰ.not-nil j)) (member.0 i),
            λ h. let b = bounds d (either-kind leap d h) in member.1 (inl (b.first-month, b.last-month, h)),
          );
      rising = rest-rising _ (months leap 12 []) (months-rising leap 12 [] tt);
      number = e;
    }

-- A common year has 365 days, a leap year 366, and the years 1900 to 2199 have 109,573.
pub common-year : YearOf false 365
common-year = year-of false 365 refl

pub leap_year_days : YearOf true 366
leap_year_days = year-of true 366 refl

pub all-years : days_of_years 1900 300 ≡ 109573
all-years = refl
