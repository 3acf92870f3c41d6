-- The premises of demand 3 can be met: on book A, under marks 3 on any date, from 0 to 3, for all lent areas that are long enough, by a lab whose trials end
use Rattle.trials.specs.declared.Rejected.{Rejected}
use Rattle.trials.specs.Operations.{rejected}
use Rattle.std.specs.Prelude.{ℕ, ◌+◌, ◌*◌, ◌≤◌, refl, T, length, take, Result, Ok, Err}
use Rattle.std.proofs.Math.Seq.{take_all}
use Rattle.std.proofs.Math.Path.{◌≡◌, ap, ap₂, subst}
use Rattle.std.proofs.Common.{sym, ◌∙◌, inl, inr, ⊎_elim, arith}
use mathlib.Core.List.Permᴰ
use mathlib.Core.List.{List, [], ◌∷◌, Memᴰ, Permᴰ, flat_map}
use Rattle.std.proofs.Math.Option.{none, some}
use Rattle.limits.specs.Limits.{area_size, longest}
use Rattle.dates.specs.declared.Date.{Date}
use Rattle.dates.specs.Dates.{month_day}
use Rattle.dates.specs.Calendar.{IsDate, Inside}
use Rattle.lists.specs.Test.{T→true}
use Rattle.walks.specs.Graph.{Arc}
use Rattle.walks.specs.Avoid.{Occurs}
use Rattle.walks.proofs.Avoid.{occurs→Occurs, avoids→Avoids}
use Rattle.walks.specs.Feasible.{is_feasible}
use Rattle.walks.specs.Stutter.{Stutters}
use Rattle.book.specs.declared.Refusal.{Refusal}
use Rattle.book.specs.declared.Refusal.TheVariants.{Length, Value, Ended, NotStanding}
use Rattle.book.specs.Refusal.{number_of}
use Rattle.book.specs.Book.{RuleSet, Book, is_path, are_vertices, all_paths}
use Rattle.book.specs.Reading.{accepted, refused, reading, fields, add_path}
use Rattle.book.proofs.BookLaws.{is_path→IsPath, vertices-below}
use Rattle.book_bytes.specs.Bytes.{AreBytes}
use Rattle.book_bytes.proofs.BytesLaws.{length-bytes}
use Rattle.content.specs.Content.{arc_items, set_items, with_items, content}
use Rattle.writing.specs.Contents.{SameButOrder}
use Rattle.writing.specs.Rising.{Rising, in_order}
use Rattle.writing.specs.Writing.{bytes_in_order, length_written, area_after, WritingOf}
use Rattle.writing.proofs.RisingLaws.{length_in_order}
use Rattle.rules.specs.Binding.{covers, applied, once, known}
use Rattle.trial_record.specs.declared.Record.{Record}
use Rattle.trial_rules.specs.Trials.{Report, passed, failed, State, path_area, Valid, is_valid, is_record, is_forbidden_set, step}
use Rattle.trial_rules.proofs.Tests.{is_forbidden_set→, is_valid→Valid}
use Rattle.trial_rules.proofs.Accepted.{only-oracle}
use Rattle.trial_rules.specs.Lacking.{lacking, together}
use Rattle.trials.specs.Operations.{Leaves, answering, reporting, record_in}
use Rattle.series.specs.Whole.{leaves_of, report_on, reports_on}
use Rattle.examples.specs.Batches.{marks}
use Rattle.examples.specs.Books.{bytes_a, book_a, book-A, bytes_stutter, book_stutter, book_stutter_lem}
use Rattle.examples.specs.Sums.{graph_a, plan_a, well-A, begun-3, after-123, after-13, long_after, valid-3, sums}
use Rattle.examples.specs.Seasons.{bytes-summer, book_with, summer, sums as seasons}
use Rattle.examples.specs.Trials.{not_there, too_late}
use Rattle.demands.specs.Calls.{AcceptedBegin, opening, answer_on, answers_on, accepted_by, accepted_on, standing_in, TrueReport, TrueLab, LabSet}
use Rattle.demands.proofs.CallLaws.{many_of_either, refused-kept, report-is, answer-is}
use Rattle.demands.specs.Demands.{LabOutcome, ButStutteringRuns, SamePlans, added, no_more, SameBatches, RefusedUnder, Says}
use Rattle.demands.proofs.LabLaws.{ruled, labs}
use Rattle.demands.proofs.Theorems.{order-2, order-4, order-5, order-6}

-- The runs that are named.
abbrev pub path-123 : List ℕ
path-123 = 1 ∷ 2 ∷ 3 ∷ []

abbrev pub path-13 : List ℕ
path-13 = 1 ∷ 3 ∷ []

-- The record of begin under marks 3: 0 1 2 1 2 3, 450.
abbrev pub record_3 : Record
record_3 = record { stage = 0; start = 0; end = 3; known = 2; first = 2; failed = 0; passed = 0; litres = 450; length = 6 }

abbrev pub begin-A : (date : Date) → IsDate date → (paths walk : List ℕ) → area_size ≤ length paths → longest ≤ length walk → AcceptedBegin
begin-A date valid paths walk fits long =
    record {
      bytes = bytes_a;
      book = book_a;
      read = book-A;
      batch = marks 3 date;
      start = 0;
      end = 3;
      paths = paths;
      walk = walk;
      rec = record_3;
      answered = ap (λ (m : Leaves (Result Record Refusal)). m.answer) (sums.from_marks_3 date valid paths walk fits long);
    }

abbrev pub OnBookA : (AcceptedBegin → Type 0) → Type 0
OnBookA P =
    (date : Date) (valid : IsDate date) (paths walk : List ℕ) (fits : area_size ≤ length paths) (long : longest ≤ length walk) → P (begin-A date valid paths walk fits long)

-- A lab is true to its set R. Of its reports ρs `done` are accepted; at the end the record is q, and w stands.
pub record Trial (R : List (List ℕ)) (ρs done : List Report) (q : Record) (w : List ℕ) (β : AcceptedBegin) : Type 0 where
  pub set : LabSet β.book β.batch R
  pub honest : TrueLab R β.bytes (opening β) ρs
  pub answered : accepted_on β.bytes (opening β) ρs ≡ done
  pub ends : (reports_on β.bytes (opening β) ρs).answer ≡ q
  pub stands : standing_in (reports_on β.bytes (opening β) ρs) ≡ w

pub record Witnesses : Type 0 where
  -- The lab's run is 1 2 3. It names 1 3, which does not stand (refused); then 1 2 3; then it passes 0 1 3, 500 litres.
  pub ends-passed : OnBookA
      (Trial (path-123 ∷ []) (failed path-13 ∷ failed path-123 ∷ passed ∷ []) (failed path-123 ∷ passed ∷ [])
      (record { stage = 1; start = 0; end = 3; known = 3; first = 2; failed = 1; passed = 1; litres = 500; length = 3 })
      (0 ∷ 1 ∷ 3 ∷ []))
  -- The lab's runs are 1 2 3 and 1 3. It names one, then the other: none is left. A passed report comes too late (refused).
  pub ends-none : OnBookA
      (Trial (path-123 ∷ path-13 ∷ []) (failed path-123 ∷ failed path-13 ∷ passed ∷ []) (failed path-123 ∷ failed path-13 ∷ [])
      (record { stage = 2; start = 0; end = 3; known = 4; first = 2; failed = 2; passed = 0; litres = 0; length = 0 })
      [])
  -- A lab that passes the first line-up, 0 1 2 1 2 3, is not true to 1 2 3.
  pub not-true : OnBookA (λ β. TrueLab (path-123 ∷ []) β.bytes (opening β) (passed ∷ []) → ⊥)

-- Demand 3 speaks of each lab's trials.
pub spoken_of : {R : List (List ℕ)} {ρs done : List Report} {q : Record} {w : List ℕ} {β : AcceptedBegin} → Trial R ρs done q w β
    → LabOutcome β R ρs done (reports_on β.bytes (opening β) ρs)
spoken_of {R} {ρs} {β = β} x =
    subst (λ d. LabOutcome β R ρs d (reports_on β.bytes (opening β) ρs)) x.answered (labs β R x.set ρs x.honest)

-- ---- lists of reports, one by one
-- The reports ρs of a lab that is true to R are made on l; `done` are accepted, and l' is left.
record Goes (R : List (List ℕ)) (s : List ℕ) (l : Leaves Record) (ρs done : List Report) (l' : Leaves Record) : Type 0 where
  honest : TrueLab R s l ρs
  answered : accepted_on s l ρs ≡ done
  left : reports_on s l ρs ≡ l'

abbrev next : Leaves (Result Record Rejected) → Leaves Record
next m = answering (record_in m.answer) m.paths m.walk

module _ {R : List (List ℕ)} {s : List ℕ} {l l' : Leaves Record} where
  goes_on : {ρs done : List Report} {r : Record} {p w : List ℕ} (ρ : Report)
      → reporting s l.answer l.paths l.walk ρ ≡ answering (Ok r) p w → TrueReport R l ρ → Goes R s (answering r p w) ρs done l'
      → Goes R s l (ρ ∷ ρs) (ρ ∷ done) l'
  unfolding TrueLab answers_on accepted_by reports_on
  goes_on {ρs = ρs} {r = r} {p = p} {w = w} ρ made h g =
      let is : answer_on s l ρ ≡ Ok r = ap (λ (m : Leaves (Result Record Rejected)). m.answer) made in
      let to : report_on s l ρ ≡ answering r p w = ap next made in
      record {
        honest = (λ q e. h, subst (λ m. TrueLab R s m ρs) (sym to) g.honest);
        answered = ap₂ (λ a m. accepted_by (a ∷ answers_on s m ρs) (ρ ∷ ρs)) is to ∙ ap (λ (d : List Report). ρ ∷ d) g.answered;
        left = ap (λ m. reports_on s m ρs) to ∙ g.left;
      }

  goes_refused : {ρs done : List Report} (ρ : Report) (x : Refusal) (r : Record) → answer_on s l ρ ≡ Err (rejected x r) → Goes R s l ρs done l'
      → Goes R s l (ρ ∷ ρs) done l'
  unfolding TrueLab answers_on accepted_by reports_on
  goes_refused {ρs = ρs} ρ x r is g =
      let to : report_on s l ρ ≡ l = ap next (refused-kept s l ρ x r is) in
      record {
        honest = (λ q e. absurd (let z : ◌≡◌ {A = ℕ} 0 1 = cc in omega arith), subst (λ m. TrueLab R s m ρs) (sym to) g.honest);
        answered = ap₂ (λ a m. accepted_by (a ∷ answers_on s m ρs) (ρ ∷ ρs)) is to ∙ g.answered;
        left = ap (λ m. reports_on s m ρs) to ∙ g.left;
      }

goes_nowhere : {R : List (List ℕ)} {s : List ℕ} {l : Leaves Record} → Goes R s l [] [] l
unfolding TrueLab answers_on accepted_by reports_on
goes_nowhere = record { honest = tt; answered = refl; left = refl }

-- ---- book A
stands-123 : Occurs path-123 (0 ∷ 1 ∷ 2 ∷ 1 ∷ 2 ∷ 3 ∷ [])
stands-123 = occurs→Occurs path-123 (0 ∷ 1 ∷ 2 ∷ 1 ∷ 2 ∷ 3 ∷ []) tt

labs-set : (date : Date) (R : List (List ℕ)) → T (is_forbidden_set 4 R) → length (together (known (marks 3 date) book_a.sets) R) ≤ 256 → LabSet book_a (marks 3 date) R
labs-set date R paths few =
    record {
      paths = λ r m. is_path→IsPath 4 r (T→true _ ((is_forbidden_set→ 4 R paths).taken r m));
      together = length (together (known (marks 3 date) book_a.sets) R);
      counted = many_of_either book_a well-A (marks 3 date) R;
      few = few;
    }

module _ (paths walk : List ℕ) (fits : area_size ≤ length paths) (long : longest ≤ length walk) where
  abbrev σ₀ : State
  σ₀ = begun-3 paths walk

  abbrev σ₁ : State
  σ₁ = after-123 paths walk

  abbrev σ₂ : State
  σ₂ = after-13 paths walk

  long-123 : longest ≤ length σ₁.area
  long-123 = long_after paths walk fits long (0 ∷ 1 ∷ 3 ∷ 1 ∷ 2 ∷ 3 ∷ []) refl

  valid-123 : Valid graph_a σ₁
  unfolding is_valid is_record is_forbidden_set once is_feasible is_path are_vertices
  valid-123 = is_valid→Valid graph_a σ₁ tt

  valid-13 : Valid graph_a σ₂
  unfolding is_valid is_record is_forbidden_set once is_feasible is_path are_vertices
  valid-13 = is_valid→Valid graph_a σ₂ tt

  -- 0 1 3 passes
  abbrev passed-13 : State
  passed-13 = step graph_a plan_a σ₁ passed

  passes-13 : reporting bytes_a σ₁.rec (path_area σ₁) σ₁.area passed ≡ answering (Ok passed-13.rec) (path_area passed-13) passed-13.area
  passes-13 = report-is bytes_a book_a book-A σ₁ valid-123 passed none (only-oracle graph_a σ₁ passed long-123 valid-123)

  passing : Goes (path-123 ∷ []) bytes_a (leaves_of σ₀) (failed path-13 ∷ failed path-123 ∷ passed ∷ []) (failed path-123 ∷ passed ∷ []) (leaves_of passed-13)
  passing =
      goes_refused (failed path-13) NotStanding σ₀.rec
      (answer-is bytes_a book_a book-A σ₀ (valid-3 paths walk fits long) (failed path-13) (some NotStanding) (not_there paths walk fits long))
      (goes_on (failed path-123) (sums.named-123 paths walk fits long) (mathlib.Core.List.Memᴰ.head refl, stands-123)
      (goes_on passed passes-13 (avoids→Avoids (path-123 ∷ []) (0 ∷ 1 ∷ 3 ∷ []) tt) goes_nowhere))

  failing : Goes (path-123 ∷ path-13 ∷ []) bytes_a (leaves_of σ₀) (failed path-123 ∷ failed path-13 ∷ passed ∷ []) (failed path-123 ∷ failed path-13 ∷ []) (leaves_of σ₂)
  failing =
      goes_on (failed path-123) (sums.named-123 paths walk fits long) (mathlib.Core.List.Memᴰ.head refl, stands-123)
      (goes_on (failed path-13) (sums.then-named-13 paths walk fits long) (mathlib.Core.List.Memᴰ.tail (mathlib.Core.List.Memᴰ.head refl), occurs→Occurs path-13 (0 ∷ 1 ∷ 3 ∷ []) tt)
      (goes_refused passed Ended σ₂.rec (answer-is bytes_a book_a book-A σ₂ valid-13 passed (some Ended) (too_late paths walk fits long)) goes_nowhere))

  module _ (date : Date) (valid : IsDate date) where
    abbrev β : AcceptedBegin
    β = begin-A date valid paths walk fits long

    opening-is : opening β ≡ leaves_of σ₀
    opening-is = ap (λ (m : Leaves (Result Record Refusal)). answering record_3 m.paths m.walk) (sums.from_marks_3 date valid paths walk fits long)

    trial : {R : List (List ℕ)} {ρs done : List Report} {l : Leaves Record} → LabSet book_a (marks 3 date) R → Goes R bytes_a (leaves_of σ₀) ρs done l
        → Trial R ρs done l.answer (standing_in l) β
    trial {R} {ρs} {done} {l} set h =
        let g : Goes R bytes_a (opening β) ρs done l = subst (λ m. Goes R bytes_a m ρs done l) (sym opening-is) h in
        record { set = set; honest = g.honest; answered = g.answered; ends = ap (λ (m : Leaves Record). m.answer) g.left; stands = ap standing_in g.left }

    not-true : TrueLab (path-123 ∷ []) bytes_a (opening β) (passed ∷ []) → ⊥
    unfolding TrueLab
    not-true h =
        let in_order = valid-3 paths walk fits long in
        let unrefused = only-oracle graph_a σ₀ passed (long_after paths walk fits long (0 ∷ 1 ∷ 2 ∷ 1 ∷ 2 ∷ 3 ∷ []) refl) in_order in
        (subst (λ m. TrueLab (path-123 ∷ []) bytes_a m (passed ∷ [])) opening-is h).0 (step graph_a plan_a σ₀ passed).rec
        (answer-is bytes_a book_a book-A σ₀ in_order passed none unrefused)
        path-123
        (mathlib.Core.List.Memᴰ.head refl)
        stands-123

pub witnesses : Witnesses
unfolding covers applied is_forbidden_set once is_path are_vertices lacking
witnesses =
    record {
      ends-passed = λ date valid paths walk fits long. trial paths walk fits long date valid (labs-set date (path-123 ∷ []) tt (omega arith)) (passing paths walk fits long);
      ends-none = λ date valid paths walk fits long. trial paths walk fits long date valid (labs-set date (path-123 ∷ path-13 ∷ []) tt (omega arith)) (failing paths walk fits long);
      not-true = λ date valid paths walk fits long. not-true paths walk fits long date valid;
    }

-- ---- 02, order 2
stutter_11 : Stutters (1 ∷ 1 ∷ [])
stutter_11 = record { first = 0; second = 1; next = refl; within = omega arith; again = refl }

but_11 : ButStutteringRuns book_a book_stutter
but_11 =
    record {
      same = record { counts = refl; arcs = refl };
      to = λ batch r o. inl (record { set = o.set; listed = mathlib.Core.List.Memᴰ.append_left _ o.listed; binds = o.binds; path = o.path });
      from = λ batch r o.
          ⊎_elim (λ m. inl (record { set = o.set; listed = m; binds = o.binds; path = o.path }))
          (λ m.
          let path : Memᴰ r ((1 ∷ 1 ∷ []) ∷ []) = subst (λ (set : RuleSet). Memᴰ r set.paths) (mathlib.Core.List.Memᴰ.eq_of_singleton m) o.path in
          inr (subst Stutters (sym (mathlib.Core.List.Memᴰ.eq_of_singleton path)) stutter_11))
          (mathlib.Core.List.Memᴰ.append_cases book_a.sets o.listed);
    }

pub plans-11 : SamePlans bytes_a bytes_stutter
plans-11 = order-2.plans bytes_a bytes_stutter book_a book_stutter book-A book_stutter_lem but_11

-- ---- 02, order 4
-- Book A with a window on its second sheet gives on each day of the window what book A gives.
pub in-summer : (flags : ℕ) (date date' : Date) → IsDate date → IsDate date' → Inside summer (month_day date)
    → SameBatches bytes-summer (marks flags date) bytes_a (marks flags date')
in-summer flags date date' valid valid' inside =
    order-4.by_hand bytes-summer bytes_a (book_with summer) book_a seasons.read-summer book-A (record { counts = refl; arcs = refl }) (marks flags date) (marks flags date') valid valid' refl
    (added (λ w e. absurd (cc)) (added (λ w e. subst (λ v. Inside v (month_day date)) (cc) inside) no_more))

-- ---- 02, order 5
-- At the start of marks 3 the lab names 3 4 and is told of the 4, which is no grade.
pub told-34 : OnBookA (λ β. RefusedUnder 17 β.bytes (opening β).answer (opening β).paths (opening β).walk (3 ∷ 4 ∷ []))
unfolding reports_on
told-34 date valid paths walk fits long =
    let β = begin-A date valid paths walk fits long in
    (order-5.told bytes_a book_a book-A (opening β).answer (opening β).paths (opening β).walk ((ruled β []).in-order, refl) (3 ∷ 4 ∷ [])).grade.1
    (omega arith, omega arith, 4, mathlib.Core.List.Memᴰ.tail (mathlib.Core.List.Memᴰ.head refl), omega arith)

-- ---- 02, order 6
-- Book A with a window on its second sheet: with its changeovers from last to first, in numbers, and with them in rising order, in numbers and in bytes.
abbrev pub arc : ℕ → ℕ → ℕ → Arc
arc tail head weight = record { tail = tail; head = head; weight = weight }

abbrev pub with_arcs : List Arc → Book
with_arcs arcs = record { count = 4; arcs = arcs; sets = (book_with summer).sets }

abbrev pub from_last : List Arc
from_last = arc 1 3 400 ∷ arc 2 1 50 ∷ arc 0 2 250 ∷ arc 2 3 100 ∷ arc 1 2 100 ∷ arc 0 1 100 ∷ []

abbrev pub numbers_from_last : List ℕ
numbers_from_last =
    1 ∷ 3 ∷ 400
    ∷ 2 ∷ 1 ∷ 50
    ∷ 0 ∷ 2 ∷ 250
    ∷ 2 ∷ 3 ∷ 100
    ∷ 1 ∷ 2 ∷ 100
    ∷ 0 ∷ 1 ∷ 100
    ∷ []

abbrev pub rising-a : List Arc
rising-a = arc 0 1 100 ∷ arc 0 2 250 ∷ arc 1 2 100 ∷ arc 1 3 400 ∷ arc 2 1 50 ∷ arc 2 3 100 ∷ []

abbrev pub numbers-rising : List ℕ
numbers-rising =
    0 ∷ 1 ∷ 100
    ∷ 0 ∷ 2 ∷ 250
    ∷ 1 ∷ 2 ∷ 100
    ∷ 1 ∷ 3 ∷ 400
    ∷ 2 ∷ 1 ∷ 50
    ∷ 2 ∷ 3 ∷ 100
    ∷ []

-- The second sheet's window stands after 7: any number but 0 may.
abbrev pub numbers_of_summer : List ℕ
numbers_of_summer = 2 ∷ 7 ∷ 1 ∷ 5 ∷ 15 ∷ 9 ∷ 1 ∷ 3 ∷ 0 ∷ 2 ∷ 3 ∷ []

abbrev pub numbers_of_sets : List ℕ
numbers_of_sets = 1 ∷ 0 ∷ 1 ∷ 4 ∷ 0 ∷ 1 ∷ 2 ∷ 3 ∷ numbers_of_summer

abbrev pub bytes-rising : List ℕ
bytes-rising =
    0x01 ∷ 0x00 ∷ 0x01 ∷ 0x04
    ∷ 0x02 ∷ 0x00 ∷ 0x06 ∷ 0x00 ∷ 0x01 ∷ 0x00 ∷ 0x00 ∷ 0x00 ∷ 0x64
    ∷ 0x02 ∷ 0x00 ∷ 0x06 ∷ 0x00 ∷ 0x02 ∷ 0x00 ∷ 0x00 ∷ 0x00 ∷ 0xfa
    ∷ 0x02 ∷ 0x00 ∷ 0x06 ∷ 0x01 ∷ 0x02 ∷ 0x00 ∷ 0x00 ∷ 0x00 ∷ 0x64
    ∷ 0x02 ∷ 0x00 ∷ 0x06 ∷ 0x01 ∷ 0x03 ∷ 0x00 ∷ 0x00 ∷ 0x01 ∷ 0x90
    ∷ 0x02 ∷ 0x00 ∷ 0x06 ∷ 0x02 ∷ 0x01 ∷ 0x00 ∷ 0x00 ∷ 0x00 ∷ 0x32
    ∷ 0x02 ∷ 0x00 ∷ 0x06 ∷ 0x02 ∷ 0x03 ∷ 0x00 ∷ 0x00 ∷ 0x00 ∷ 0x64
    ∷ 0x03 ∷ 0x00 ∷ 0x02 ∷ 0x00 ∷ 0x01
    ∷ 0x04 ∷ 0x00 ∷ 0x04 ∷ 0x00 ∷ 0x01 ∷ 0x02 ∷ 0x03
    ∷ 0x03 ∷ 0x00 ∷ 0x06 ∷ 0x00 ∷ 0x02 ∷ 0x01 ∷ 0x05 ∷ 0x0f ∷ 0x09
    ∷ 0x04 ∷ 0x00 ∷ 0x03 ∷ 0x00 ∷ 0x02 ∷ 0x03
    ∷ []

-- The numbers differ only in the order of the changeovers, and are taken.
pub same-a : SameButOrder numbers_from_last numbers-rising
unfolding flat_map
same-a = record { given = from_last; given' = rising-a; first = refl; second = refl; permuted = moved }
  where
    -- one changeover after another is taken to the front
    moved : Permᴰ from_last rising-a
    moved =
        Permᴰ.trans (Permᴰ.middle (arc 0 1 100) (arc 1 3 400 ∷ arc 2 1 50 ∷ arc 0 2 250 ∷ arc 2 3 100 ∷ arc 1 2 100 ∷ []) [])
        (Permᴰ.cons refl
        (Permᴰ.trans (Permᴰ.middle (arc 0 2 250) (arc 1 3 400 ∷ arc 2 1 50 ∷ []) (arc 2 3 100 ∷ arc 1 2 100 ∷ []))
        (Permᴰ.cons refl (Permᴰ.middle (arc 1 2 100) (arc 1 3 400 ∷ arc 2 1 50 ∷ arc 2 3 100 ∷ []) []))))

pub taken-a : content 4 numbers_from_last numbers_of_sets ≡ accepted (with_arcs from_last)
unfolding arc_items set_items with_items are_vertices add_path all_paths
taken-a = refl

-- The changeovers are good.
arcs_alone : content 4 numbers_from_last [] ≡ accepted (record { count = 4; arcs = from_last; sets = [] })
unfolding arc_items set_items with_items
arcs_alone = refl

-- The book in rising order is read from its bytes, and the numbers say it.
read-rising : reading bytes-rising ≡ accepted (with_arcs rising-a)
unfolding reading fields are_vertices add_path all_paths
read-rising = refl

says-rising : Says 4 numbers-rising numbers_of_sets (with_arcs rising-a)
unfolding flat_map
says-rising = (
  refl,
  record {
    arcs_are = refl;
    sets_are = (0 ∷ [], numbers_of_summer, refl, (7 ∷ 1 ∷ 5 ∷ 15 ∷ 9 ∷ [], [], (7, omega arith, refl), refl, refl), refl);
  },
)

are-bytes : AreBytes bytes-rising
unfolding are_vertices
are-bytes = vertices-below 256 bytes-rising refl

rises : Rising rising-a
rises = (
  (inr (refl, omega arith), (inl (omega arith), (inl (omega arith), (inl (omega arith), (inl (omega arith), tt))))),
  (
    (inl (omega arith), (inl (omega arith), (inl (omega arith), (inl (omega arith), tt)))),
    (
      (inr (refl, omega arith), (inl (omega arith), (inl (omega arith), tt))),
      ((inl (omega arith), (inl (omega arith), tt)), ((inr (refl, omega arith), tt), (tt, tt))),
    ),
  ),
)

-- From last to first it has 85 bytes too.
needs-85 : length (bytes_in_order (with_arcs from_last)) ≡ 85
unfolding all_paths
needs-85 =
    let b = with_arcs from_last in
    let (keeps, _) = (order-6.taken 4 numbers_from_last numbers_of_sets b).0 taken-a in
    length-bytes (in_order b) ∙ ap (λ k. 4 + k * 9 + 10 + 4 + 13) (length_in_order b keeps)

-- So an area of 85 bytes is filled with those of the book in rising order, and one of 84 bytes is refused under 18.
pub filled-a : (area : List ℕ) → length area ≡ 85 → (r : Result ℕ Refusal) (new : List ℕ) → WritingOf (content 4 numbers_from_last numbers_of_sets) area r new
    → (r ≡ Ok 85) × (new ≡ bytes-rising)
filled-a area size r new w =
    let x = content 4 numbers-rising numbers_of_sets in
    let same-answer =
    order-6.any_order 4 numbers_from_last numbers-rising numbers_of_sets same-a (inl (_, arcs_alone)) area r (length_written x area) new (area_after x area) w (refl, refl) in
    let same-area =
    order-6.any_order_bytes 4 numbers_from_last numbers-rising numbers_of_sets same-a area r (length_written x area) new (area_after x area) w (refl, refl) in
    let (answer, front) =
    order-6.any_read bytes-rising (with_arcs rising-a) are-bytes read-rising rises 4 numbers-rising numbers_of_sets says-rising area (omega (arith, size)) (length_written x area) (area_after x area) (refl, refl) in
    let whole = order-6.written 4 numbers_from_last numbers_of_sets (with_arcs from_last) taken-a area (omega (arith, needs-85, size)) r new w in
    (same-answer ∙ answer, sym (take_all 85 new (omega (arith, whole.same_length, size))) ∙ ap (λ l. take 85 l) same-area ∙ front)

pub too_short-a : (area : List ℕ) → length area ≡ 84 → (r : Result ℕ Refusal) (new : List ℕ) → WritingOf (content 4 numbers_from_last numbers_of_sets) area r new
    → ((x : Refusal) × (number_of x ≡ 18) × (r ≡ Err x)) × (new ≡ area)
too_short-a area size r new w =
    order-6.no_room 4 numbers_from_last numbers_of_sets (with_arcs from_last) taken-a area (omega (arith, needs-85, size)) r new w

-- ---- numbers that no byte holds, and numbers that end too soon
-- a changeover from 300, and one of two numbers
pub from-300 : content 4 (300 ∷ 1 ∷ 5 ∷ []) [] ≡ refused (Value 1)
unfolding arc_items with_items
from-300 = refl

pub two_numbers : content 4 (0 ∷ 1 ∷ []) [] ≡ refused (Length 1)
unfolding arc_items with_items
two_numbers = refl

-- marks of 17 bits, though the window is none either; and a window from day 256
pub marks-65536 : content 4 [] (65536 ∷ 1 ∷ 256 ∷ 1 ∷ 1 ∷ 1 ∷ 0 ∷ []) ≡ refused (Value 1)
unfolding arc_items set_items with_items
marks-65536 = refl

pub day-256 : content 4 [] (0 ∷ 1 ∷ 256 ∷ 1 ∷ 1 ∷ 1 ∷ 0 ∷ []) ≡ refused (Refusal.Window 1)
unfolding arc_items set_items with_items
day-256 = refl

-- a sheet without its number of runs, and one whose run is not there
pub two_of_a_sheet : content 4 [] (0 ∷ 0 ∷ []) ≡ refused (Length 1)
unfolding arc_items set_items with_items
two_of_a_sheet = refl

pub run_not_there : content 4 [] (0 ∷ 0 ∷ 1 ∷ []) ≡ refused (Length 2)
unfolding arc_items set_items with_items
run_not_there = refl
