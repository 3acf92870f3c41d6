-- The laws of what specs/Marks.antt defines.
use Rattle.std.specs.Prelude.{ℕ, zero, suc, ◌/◌, ◌%◌, ◌^◌, ◌<◌, ◌≤◌, ◌≡◌, refl, true, ◌↔◌, leb, None}
use Rattle.std.proofs.Common.{sym, ap, ◌∙◌, div-one, arith, leb-true, le-leb}
use mathlib.Core.List.{List, Memᴰ}
use Rattle.std.proofs.Math.Logic.{by_cases}
use Rattle.std.proofs.Math.Nat.{pow-zero, pow-succ', div-div-eq-div-mul, zero-div}
use Rattle.std.proofs.Math.Decide.{ℕ_discrete}
use Rattle.std.proofs.lemmas.Bool.Decides.{Decides-and}
use Rattle.lists.specs.Test.{and-true}
use Rattle.dates.specs.Dates.{month_day, in_season}
use Rattle.dates.proofs.CalendarLaws.{season}
use Rattle.book.specs.Book.{RuleSet, Book}
use Rattle.rules.specs.Binding.{covers, applies, known}
use Rattle.rules.proofs.Laws.{known→Applied, Applied→known}
use Rattle.rules.specs.declared.Batch.{Batch}
use Rattle.demands.specs.Marks.{bit, Binds, OfSheet}

first_bit : (n : ℕ) → bit n 0 ≡ n % 2
first_bit n = ap (λ k. n / k % 2) (pow-zero 2) ∙ ap (λ k. k % 2) (div-one n)

next_bit : (n i : ℕ) → bit n (suc i) ≡ bit (n / 2) i
next_bit n i = ap (λ k. k % 2) (ap (λ k. n / k) (pow-succ' 2 i) ∙ sym (div-div-eq-div-mul n 2 (2 ^ i)))

covers→ : (bits needed held : ℕ) → covers bits needed held ≡ true → (i : ℕ) → i < bits → bit needed i ≡ 1 → bit held i ≡ 1
unfolding covers
covers→ zero needed held e i l h = absurd (omega arith)
covers→ (suc bits) needed held e zero l h =
    let low = leb-true (needed % 2) (held % 2) (and-true (leb (needed % 2) (held % 2)) _ e).0 in
    omega (arith, first_bit needed, first_bit held)
covers→ (suc bits) needed held e (suc i) l h =
    next_bit held i ∙ covers→ bits (needed / 2) (held / 2) (and-true (leb (needed % 2) (held % 2)) _ e).1 i (omega arith) (sym (next_bit needed i) ∙ h)

→covers : (bits needed held : ℕ) → ((i : ℕ) → i < bits → bit needed i ≡ 1 → bit held i ≡ 1) → covers bits needed held ≡ true
unfolding covers
→covers zero needed held f = refl
→covers (suc bits) needed held f =
    let low : needed % 2 ≤ held % 2 =
    by_cases (ℕ_discrete (needed % 2) 1) (λ e. omega (arith, first_bit held, f 0 (omega arith) (first_bit needed ∙ e))) (λ (d : ¬ (needed % 2 ≡ 1)). omega arith) in
    rw (le-leb (needed % 2) (held % 2) low) (→covers bits (needed / 2) (held / 2) (λ i l h. sym (next_bit held i) ∙ f (suc i) (omega arith) (next_bit needed i ∙ h)))

-- The test of binding decides this.
pub binds_when : (set : RuleSet) (batch : Batch) → (applies batch set ≡ true) ↔ Binds set batch
binds_when set batch =
    let needs = set.needs in
    let day = month_day batch.date in
    Decides-and (covers 16 needs.flags batch.flags) (in_season needs.window day) (covers→ 16 needs.flags batch.flags, →covers 16 needs.flags batch.flags) (season needs.window day)

-- A sheet that needs 0 and has no window binds every batch.
pub needs_nothing : (set : RuleSet) → set.needs.flags ≡ 0 → set.needs.window ≡ None → (batch : Batch) → Binds set batch
needs_nothing set none always batch = (no_mark, λ w e. absurd (cc))
  where
    no_mark : (i : ℕ) → i < 16 → bit set.needs.flags i ≡ 1 → bit batch.flags i ≡ 1
    no_mark i l h =
        let zero_bit : bit set.needs.flags i ≡ 0 = ap (λ n. bit n i) none ∙ ap (λ n. n % 2) (zero-div (2 ^ i)) in
        absurd (omega arith)

-- The known paths are the runs of the sheets that bind.
module _ (b : Book) (batch : Batch) {r : List ℕ} where
  pub known→sheet : Memᴰ r (known batch b.sets) → OfSheet b batch r
  known→sheet m =
      let a = known→Applied batch b.sets m in
      record { set = a.set; listed = a.listed; binds = (binds_when a.set batch).0 a.applying; path = a.path }

  pub sheet→known : OfSheet b batch r → Memᴰ r (known batch b.sets)
  sheet→known o = Applied→known batch b.sets (record { set = o.set; listed = o.listed; applying = (binds_when o.set batch).1 o.binds; path = o.path })
