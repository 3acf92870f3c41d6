-- The days of a leap year make a circle, and a window is an arc of it: the whole year, and two windows that are complements.
use Rattle.std.specs.Prelude.{ℕ, suc, ◌+◌, ◌*◌, ◌≤◌, ◌<◌, ◌≡◌, refl, ◌⊎◌, ◌↔◌, Bool, true, false, cond, ltb}
use Rattle.std.proofs.Common.{inl, inr, ⊎_elim, ap, subst, ltb-false, arith}
use Rattle.std.proofs.Math.Logic.{⊎_map}
use Rattle.std.proofs.lemmas.Bool.{cases_order}
use Rattle.dates.specs.declared.MonthDay.{MonthDay}
use Rattle.dates.specs.declared.Window.{Window}
use Rattle.dates.specs.Dates.{days_in}
use Rattle.dates.specs.Calendar.{IsDay, Before, IsWindow, UpTo, Inside, Complements, day_after}
use Rattle.dates.proofs.CalendarDays.{Bounds, bounds, same-day}

-- The days have the order of these numbers, since no month has more than 31.
abbrev number : MonthDay → ℕ
number d = 32 * d.month + d.day

-- Whether n lies on the arc from f to l, both with it, or off it.
abbrev In : ℕ → ℕ → ℕ → Type 0
In f l n = ((f ≤ l) × ((f ≤ n) × (n ≤ l))) ⊎ ((l < f) × ((f ≤ n) ⊎ (n ≤ l)))

abbrev Out : ℕ → ℕ → ℕ → Type 0
Out f l n = ((f ≤ l) × ((n < f) ⊎ (l < n))) ⊎ ((l < f) × ((n < f) × (l < n)))

in_or_out : (f l n : ℕ) → In f l n ⊎ Out f l n
in_or_out f l n = grind arith

-- No n stands between l and the next one, g; or l is the last of all, and g the first.
abbrev Next : ℕ → ℕ → ℕ → Type 0
Next l g n = ((l < g) × ((n ≤ l) ⊎ (g ≤ n))) ⊎ ((n ≤ l) × (g ≤ n))

next : (l d : MonthDay) → IsDay true l → IsDay true d → Next (number l) (number (day_after l)) (number d)
next l d h k = go (ltb l.day (days_in true l.month)) (ltb l.month 12) refl refl (bounds l h) (bounds d k)
  where
    go : (x y : Bool) → ltb l.day (days_in true l.month) ≡ x → ltb l.month 12 ≡ y → Bounds l → Bounds d
        → Next (number l) (number (cond x (record { day = suc l.day; month = l.month }) (cond y (record { day = 1; month = suc l.month }) (record { day = 1; month = 1 })))) (number d)
    go true y p q b c = grind arith
    go false true p q b c =
        let end = ltb-false l.day (days_in true l.month) p in
        inl (omega arith, elim (cases_order l.month d.month) [ inl e ↦ inl (omega (arith, ap (days_in true) e)) | inr o ↦ ⊎_elim (λ a. inr (omega arith)) (λ a. inl (omega arith)) o ])
    go false false p q b c =
        let december : l.month ≡ 12 = omega (arith, ltb-false l.month 12 q) in
        let end = ltb-false l.day (days_in true l.month) p in
        (inr (omega (arith, ap (days_in true) december), omega arith))

up-to_number : (d e : MonthDay) → Bounds d → Bounds e → UpTo d e ↔ (number d ≤ number e)
up-to_number d e b c = (λ h. grind arith, λ h n. omega arith)

before-number : (d e : MonthDay) → Bounds d → Bounds e → Before d e ↔ (number d < number e)
before-number d e b c = (λ h. omega arith, λ h. grind arith)

inside-number : (w : Window) → IsWindow w → (d : MonthDay) → IsDay true d → Inside w d ↔ In (number w.first) (number w.last) (number d)
inside-number w h d k =
    let f = bounds w.first h.0 in
    let l = bounds w.last h.1 in
    let n = bounds d k in
    let begun = up-to_number w.first d f n in
    let over = up-to_number d w.last n l in
    let in-order = up-to_number w.first w.last f l in
    let turned = before-number w.last w.first l f in (
      ⊎_map (λ p. (in-order.0 p.0, (begun.0 p.1.0, over.0 p.1.1))) (λ p. (turned.0 p.0, ⊎_map begun.0 over.0 p.1)),
      ⊎_map (λ p. (in-order.1 p.0, (begun.1 p.1.0, over.1 p.1.1))) (λ p. (turned.1 p.0, ⊎_map begun.1 over.1 p.1)),
    )

-- A window that begins on the day after its end has every day.
pub whole_year : (w : Window) → IsWindow w → day_after w.last ≡ w.first → (d : MonthDay) → IsDay true d → Inside w d
whole_year w h e d k = (inside-number w h d k).1 (all (subst (λ f. Next (number w.last) (number f) (number d)) e (next w.last d h.1 k)))
  where
    all : Next (number w.last) (number w.first) (number d) → In (number w.first) (number w.last) (number d)
    all (inl p) = inr (p.0, ⊎_elim inr inl p.1)
    all (inr p) = inl (omega arith, (p.1, p.0))

-- Of two arcs that meet at both ends each n lies on one, and not on the other.
circle : (f l g k n : ℕ) → Next l g n → Next l g k → Next l g f → Next k f n → Next k f l → Next k f g → (f ≡ g → ⊥)
    → (In f l n × (In g k n → ⊥)) ⊎ ((In f l n → ⊥) × In g k n)
circle f l g k n a b c p q r apart = go (in_or_out f l n) (in_or_out g k n)
  where
    go : In f l n ⊎ Out f l n → In g k n ⊎ Out g k n → (In f l n × (In g k n → ⊥)) ⊎ ((In f l n → ⊥) × In g k n)
    go (inl i) (inl j) = absurd (omega arith)
    go (inl i) (inr j) = inl (i, λ m. omega arith)
    go (inr i) (inl j) = inr (λ m. omega arith, j)
    go (inr i) (inr j) = absurd (omega arith)

-- Every day lies in a window or in its complement, and in one of them alone.
pub one_of_two : (v w : Window) → IsWindow v → IsWindow w → Complements v w → (d : MonthDay) → IsDay true d
    → (Inside v d × (Inside w d → ⊥)) ⊎ ((Inside v d → ⊥) × Inside w d)
one_of_two v w h k c d i =
    ⊎_map (λ p. (in-v.1 p.0, λ q. p.1 (in-w.0 q))) (λ p. (λ q. p.0 (in-v.0 q), in-w.1 p.1))
    (circle (number v.first) (number v.last) (number w.first) (number w.last) (number d)
    (after-v d i) (after-v w.last k.1) (after-v v.first h.0) (after-w d i) (after-w v.last h.1) (after-w w.first k.0) apart)
  where
    in-v : Inside v d ↔ In (number v.first) (number v.last) (number d)
    in-v = inside-number v h d i

    in-w : Inside w d ↔ In (number w.first) (number w.last) (number d)
    in-w = inside-number w k d i

    after-v : (e : MonthDay) → IsDay true e → Next (number v.last) (number w.first) (number e)
    after-v e j = subst (λ f. Next (number v.last) (number f) (number e)) c.then (next v.last e h.1 j)

    after-w : (e : MonthDay) → IsDay true e → Next (number w.last) (number v.first) (number e)
    after-w e j = subst (λ f. Next (number w.last) (number f) (number e)) c.again (next w.last e k.1 j)

    apart : number v.first ≡ number w.first → ⊥
    apart e =
        let f = bounds v.first h.0 in
        let g = bounds w.first k.0 in
        c.apart (same-day v.first w.first (omega arith) (omega arith))
