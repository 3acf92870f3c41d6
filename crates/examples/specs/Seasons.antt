-- The sums of 02, order 4: book A with a window on the sheet that needs marks 2, start 0, end 3; and what is refused of windows and of dates.
use Rattle.std.specs.Prelude.{ℕ, zero, suc, ◌+◌, ◌*◌, ◌≤◌, ◌<◌, ◌≡◌, refl, Bool, true, false, ◌&&◌, T, List, [], ◌∷◌, ◌++◌, leb, length, ltb, take, Some, Ok, Err}
use Rattle.std.proofs.Common.{sym, ap, ap₂, subst, ◌∙◌, le-leb}
use Rattle.std.proofs.lemmas.Bool.{lt-leb}
use Rattle.lists.specs.Test.{and-true, T→true}
use Rattle.limits.specs.Limits.{area_size, longest}
use Rattle.dates.specs.declared.MonthDay.{MonthDay}
use Rattle.dates.specs.declared.Date.{Date}
use Rattle.dates.specs.declared.Window.{Window}
use Rattle.dates.specs.Dates.{is_leap, has_day, is_date}
use Rattle.dates.specs.Calendar.{IsDate}
use Rattle.dates.proofs.CalendarLaws.{date-is}
use Rattle.book.specs.declared.Refusal.{Refusal}
use Rattle.book.specs.Refusal.{test, number_of, refusal_by}
use Rattle.book.specs.Book.{Book, all_paths, are_vertices}
use Rattle.book.specs.Reading.{accepted, refused, reading, fields, add_path}
use Rattle.rules.specs.Binding.{covers, applied, known}
use Rattle.rules.specs.declared.Batch.{Batch}
use Rattle.rules.specs.Operations.{Binding, bound_unless, binding_of, binding, bound_as, date_test}
use Rattle.planner.specs.Planning.{walked}
use Rattle.trials.specs.Operations.{answering, begun_as, first_state, beginning_of, beginning}
use Rattle.text.specs.Text.{digits}
use Rattle.answer.specs.Answer.{AnsweredOf}
use Rattle.examples.specs.GraphA.{best_a}
use Rattle.examples.specs.Walks.{Plan, marks_1, marks_3}
use Rattle.examples.specs.Batches.{marks, ForFour}
use Rattle.examples.specs.Books.{bytes_a, book_a, book-A, needing}
use Rattle.examples.specs.Plans.{walk-given}
use Rattle.examples.specs.Sums.{ForLent, Plans, Refuses, binds, plans, graph_a}
use Rattle.examples.specs.Printed.{Prints, prints}

-- ---- the books
-- A sheet that needs marks 2, with a window in four bytes: first day, first month, last day, last month.
abbrev pub sheet_field : ℕ → ℕ → ℕ → ℕ → List ℕ
sheet_field first-day first-month last-day last-month = 0x03 ∷ 0x00 ∷ 0x06 ∷ 0x00 ∷ 0x02 ∷ first-day ∷ first-month ∷ last-day ∷ last-month ∷ []

-- Book A with a field in place of the sheet that needs marks 2, at byte 70; and with a window on that sheet.
abbrev pub bytes_with : List ℕ → List ℕ
bytes_with field = take 70 bytes_a ++ (field ++ (0x04 ∷ 0x00 ∷ 0x03 ∷ 0x00 ∷ 0x02 ∷ 0x03 ∷ []))

abbrev pub book_with : Window → Book
book_with window =
    record {
      count = 4;
      arcs = book_a.arcs;
      sets =
          needing 1 ((0 ∷ 1 ∷ 2 ∷ 3 ∷ []) ∷ [])
          ∷ record { needs = record { flags = 2; window = Some window }; paths = (0 ∷ 2 ∷ 3 ∷ []) ∷ [] }
          ∷ [];
    }

-- From 1 May to 15 September.
abbrev pub bytes-summer : List ℕ
bytes-summer = bytes_with (sheet_field 0x01 0x05 0x0f 0x09)

abbrev pub summer : Window
summer = record { first = record { day = 1; month = 5 }; last = record { day = 15; month = 9 } }

-- From 1 October to 31 March, over the year's end.
abbrev pub bytes-winter : List ℕ
bytes-winter = bytes_with (sheet_field 0x01 0x0a 0x1f 0x03)

abbrev pub winter : Window
winter = record { first = record { day = 1; month = 10 }; last = record { day = 31; month = 3 } }

-- From 29 February to 29 February.
abbrev pub bytes-leap : List ℕ
bytes-leap = bytes_with (sheet_field 0x1d 0x02 0x1d 0x02)

abbrev pub leap-window : Window
leap-window = record { first = record { day = 29; month = 2 }; last = record { day = 29; month = 2 } }

-- So many sheets that need 0, of 5 bytes each, and then a field; in a book, 16 of them after the count of grades, so that the field is at byte 84.
abbrev pub sheets : ℕ → List ℕ → List ℕ
sheets zero field = field
sheets (suc n) field = 0x03 ∷ 0x00 ∷ 0x02 ∷ 0x00 ∷ 0x00 ∷ sheets n field

abbrev pub bytes_17 : List ℕ → List ℕ
bytes_17 field = 0x01 ∷ 0x00 ∷ 0x01 ∷ 0x04 ∷ sheets 16 field

-- ---- what the sums say
-- On this day of every year from 1900 to 2199.
abbrev pub EachYear : ℕ → ℕ → (Date → Type 0) → Type 0
EachYear day month P = (year : ℕ) → 1900 ≤ year → year ≤ 2199 → P (record { day = day; month = month; year = year })

-- The window holds on a date: from marks 3 the plan is 0 1 2 1 2 3, 450. Or it does not: 0 2 3, 350, as from marks 1.
abbrev pub Holds : List ℕ → Date → Type 0
Holds s date = Plans s (marks 3 date) 0 3 (walked 450 5) (0 ∷ 1 ∷ 2 ∷ 1 ∷ 2 ∷ 3 ∷ [])

abbrev pub HoldsNot : List ℕ → Date → Type 0
HoldsNot s date = Plans s (marks 3 date) 0 3 (walked 350 2) (0 ∷ 2 ∷ 3 ∷ [])

abbrev pub leap-day : ℕ → Date
leap-day year = record { day = 29; month = 2; year = year }

-- Binding book A is refused under 02's number n, and so its area stays as it was (`area_after`); and begin there, to 3, which leaves both areas as they were.
abbrev pub BindRefuses : Batch → List ℕ → ℕ → Type 0
BindRefuses batch paths n = (x : Refusal) × (binding bytes_a batch paths ≡ Binding.refused x) × (number_of x ≡ n)

abbrev pub BeginRefuses : Batch → ℕ → ℕ → Type 0
BeginRefuses batch start n = ForLent (λ paths walk. (x : Refusal) × (beginning bytes_a batch start 3 paths walk ≡ answering (Err x) paths walk) × (number_of x ≡ n))

-- `REFUSED 14 AT 70`, and `REFUSED 15`
abbrev pub refused-14 : List ℕ
refused-14 = 82 ∷ 69 ∷ 70 ∷ 85 ∷ 83 ∷ 69 ∷ 68 ∷ 32 ∷ 49 ∷ 52 ∷ 32 ∷ 65 ∷ 84 ∷ 32 ∷ 55 ∷ 48 ∷ 10 ∷ []

abbrev pub refused-15 : List ℕ
refused-15 = 82 ∷ 69 ∷ 70 ∷ 85 ∷ 83 ∷ 69 ∷ 68 ∷ 32 ∷ 49 ∷ 53 ∷ 10 ∷ []

-- ---- the list
pub record Sums : Type 0 where
  -- The books are read, each with its window.
  pub read-summer : reading bytes-summer ≡ accepted (book_with summer)
  pub read-winter : reading bytes-winter ≡ accepted (book_with winter)
  pub read-leap : reading bytes-leap ≡ accepted (book_with leap-window)
  -- From 1 May to 15 September: both days count, and neither 30 April nor 16 September does.
  pub summer-first : EachYear 1 5 (Holds bytes-summer)
  pub summer-last : EachYear 15 9 (Holds bytes-summer)
  pub before-summer : EachYear 30 4 (HoldsNot bytes-summer)
  pub after-summer : EachYear 16 9 (HoldsNot bytes-summer)
  -- From 1 October to 31 March: these days, 31 December and 1 January count, and neither 30 September nor 1 April does.
  pub winter-first : EachYear 1 10 (Holds bytes-winter)
  pub winter-last : EachYear 31 3 (Holds bytes-winter)
  pub year-last : EachYear 31 12 (Holds bytes-winter)
  pub year-first : EachYear 1 1 (Holds bytes-winter)
  pub before-winter : EachYear 30 9 (HoldsNot bytes-winter)
  pub after-winter : EachYear 1 4 (HoldsNot bytes-winter)
  -- From 29 February to 29 February: that day counts, and neither 28 February nor 1 March does.
  pub leap-2024 : Holds bytes-leap (leap-day 2024)
  pub before-leap : EachYear 28 2 (HoldsNot bytes-leap)
  pub after-leap : EachYear 1 3 (HoldsNot bytes-leap)
  -- 30 February, as either edge, is 14 at the field's byte. A 17th sheet is 6, and with such a window 14.
  pub bad-first : Refuses (bytes_with (sheet_field 0x1e 0x02 0x0f 0x09)) 14 70
  pub bad-last : Refuses (bytes_with (sheet_field 0x01 0x05 0x1e 0x02)) 14 70
  pub sheet-17 : Refuses (bytes_17 (sheet_field 0x01 0x05 0x0f 0x09)) 6 84
  pub bad-17 : Refuses (bytes_17 (sheet_field 0x1e 0x02 0x0f 0x09)) 14 84
  pub printed_14 : ForFour (λ date. Prints ((0 ∷ 3 ∷ 0 ∷ 3 ∷ []) ++ (date ++ bytes_with (sheet_field 0x1e 0x02 0x0f 0x09))) refused-14)
  -- On 29 February 1900 and 2100 binding is 15, whatever the marks; on 29 February 2000 two runs are known from marks 3.
  pub undated-1900 : (n : ℕ) (paths : List ℕ) → area_size ≤ length paths → BindRefuses (marks n (leap-day 1900)) paths 15
  pub undated-2100 : (n : ℕ) (paths : List ℕ) → area_size ≤ length paths → BindRefuses (marks n (leap-day 2100)) paths 15
  pub dated-2000 : (paths : List ℕ) → area_size ≤ length paths → bound_as (binding bytes_a (marks 3 (leap-day 2000)) paths) ≡ Ok 2
  -- A short area is 8, and start 4 is 7, whatever the date; start 0 on 29 February 1900 is 15.
  pub area-first : (batch : Batch) (paths : List ℕ) → length paths < area_size → BindRefuses batch paths 8
  pub start-first : (batch : Batch) → BeginRefuses batch 4 7
  pub begin-undated : (n : ℕ) → BeginRefuses (marks n (leap-day 1900)) 0 15
  pub printed_15 : Prints (0 ∷ 3 ∷ 0 ∷ 3 ∷ 29 ∷ 2 ∷ 0x07 ∷ 0x6c ∷ bytes_a) refused-15

-- ---- readings
summer-read : reading bytes-summer ≡ accepted (book_with summer)
unfolding reading fields are_vertices add_path all_paths
summer-read = refl

winter-read : reading bytes-winter ≡ accepted (book_with winter)
unfolding reading fields are_vertices add_path all_paths
winter-read = refl

leap-read : reading bytes-leap ≡ accepted (book_with leap-window)
unfolding reading fields are_vertices add_path all_paths
leap-read = refl

bad-read : reading (bytes_with (sheet_field 0x1e 0x02 0x0f 0x09)) ≡ refused (Refusal.Window 70)
unfolding reading fields are_vertices add_path all_paths
bad-read = refl

-- ---- plans on a day
-- A day that leap years and others have is a date of each year.
abbrev in_both : MonthDay → Bool
in_both d = has_day true d && has_day false d

module _ (day month : ℕ) (both : T (in_both (record { day = day; month = month }))) where
  abbrev on : ℕ → Date
  on year = record { day = day; month = month; year = year }

  has : (leap : Bool) → has_day leap (record { day = day; month = month }) ≡ true
  has true = (and-true _ _ (T→true _ both)).0
  has false = (and-true _ _ (T→true _ both)).1

  each : (year : ℕ) → 1900 ≤ year → year ≤ 2199 → IsDate (on year)
  each year from to =
      (date-is (on year)).0
      (ap₂ (λ x y. x && y && has_day (is_leap year) (record { day = day; month = month })) (le-leb 1900 year from) (le-leb year 2199 to) ∙ has (is_leap year))

  -- the plan under the runs that are known on the day
  pub plans-on : (s : List ℕ) (window : Window) → reading s ≡ accepted (book_with window)
      → {F : List (List ℕ)} {w : List ℕ} {n k : ℕ} → Plan graph_a F 0 3 w n k → ((year : ℕ) → known (marks 3 (on year)) (book_with window).sets ≡ F)
      → EachYear day month (λ date. Plans s (marks 3 date) 0 3 (walked n k) w)
  plans-on s window read {F} {w} {n} {k} plan runs year from to =
      plans s (book_with window) read (marks 3 (on year)) 0 3 (walked n k) w
      (walk-given s (book_with window) read (marks 3 (on year)) 0 3 refl refl w n k (subst (λ G. Plan graph_a G 0 3 w n k) (sym (runs year)) plan))
      (each year from to)

-- ---- refusals of calls
module _ (batch : Batch) where
  bind-refused : (paths : List ℕ) (fits dated : Bool) → leb area_size (length paths) ≡ fits → is_date batch.date ≡ dated
      → binding bytes_a batch paths ≡ bound_unless (refusal_by (test 8 fits ∷ test 15 dated ∷ [])) (known batch book_a.sets)
  bind-refused paths fits dated e f =
      ap (λ x. binding_of x batch paths) book-A ∙ ap₂ (λ x y. bound_unless (refusal_by (test 8 x ∷ test 15 y ∷ [])) (known batch book_a.sets)) e f

  begin-refused : (start : ℕ) (paths walk : List ℕ) → area_size ≤ length paths → longest ≤ length walk
      → beginning bytes_a batch start 3 paths walk
      ≡ begun_as (refusal_by (test 7 (ltb start 4) ∷ date_test batch ∷ [])) (first_state book_a batch start 3 paths walk) paths walk
  begin-refused start paths walk fits long =
      ap (λ x. beginning_of x batch start 3 paths walk) book-A
      ∙ ap₂ (λ x y. begun_as (refusal_by (test 8 x ∷ test 8 y ∷ test 7 (ltb start 4) ∷ test 7 true ∷ date_test batch ∷ [])) (first_state book_a batch start 3 paths walk) paths walk)
      (le-leb area_size (length paths) fits) (le-leb longest (length walk) long)

-- ---- the sums
pub sums : Sums
unfolding reading fields are_vertices add_path all_paths covers applied digits
sums =
    record {
      read-summer = summer-read;
      read-winter = winter-read;
      read-leap = leap-read;
      summer-first = plans-on 1 5 tt bytes-summer summer summer-read marks_3 (λ year. refl);
      summer-last = plans-on 15 9 tt bytes-summer summer summer-read marks_3 (λ year. refl);
      before-summer = plans-on 30 4 tt bytes-summer summer summer-read marks_1 (λ year. refl);
      after-summer = plans-on 16 9 tt bytes-summer summer summer-read marks_1 (λ year. refl);
      winter-first = plans-on 1 10 tt bytes-winter winter winter-read marks_3 (λ year. refl);
      winter-last = plans-on 31 3 tt bytes-winter winter winter-read marks_3 (λ year. refl);
      year-last = plans-on 31 12 tt bytes-winter winter winter-read marks_3 (λ year. refl);
      year-first = plans-on 1 1 tt bytes-winter winter winter-read marks_3 (λ year. refl);
      before-winter = plans-on 30 9 tt bytes-winter winter winter-read marks_1 (λ year. refl);
      after-winter = plans-on 1 4 tt bytes-winter winter winter-read marks_1 (λ year. refl);
      leap-2024 =
          plans bytes-leap (book_with leap-window) leap-read (marks 3 (leap-day 2024)) 0 3 (walked 450 5) best_a
          (walk-given bytes-leap (book_with leap-window) leap-read (marks 3 (leap-day 2024)) 0 3 refl refl best_a 450 5 marks_3)
          ((date-is (leap-day 2024)).0 refl);
      before-leap = plans-on 28 2 tt bytes-leap leap-window leap-read marks_1 (λ year. refl);
      after-leap = plans-on 1 3 tt bytes-leap leap-window leap-read marks_1 (λ year. refl);
      bad-first = (Refusal.Window 70, refl, refl, refl);
      bad-last = (Refusal.Window 70, refl, refl, refl);
      sheet-17 = (Refusal.TooMany 84, refl, refl, refl);
      bad-17 = (Refusal.Window 84, refl, refl, refl);
      printed_14 = λ day month high low.
          prints (0 ∷ 3 ∷ 0 ∷ 3 ∷ day ∷ month ∷ high ∷ low ∷ bytes_with (sheet_field 0x1e 0x02 0x0f 0x09)) refused-14
          (subst (λ x. AnsweredOf x (marks 3 (record { day = day; month = month; year = high * 256 + low })) 0 3 refused-14) (sym bad-read) refl);
      undated-1900 = λ n paths fits. (Refusal.Date, bind-refused (marks n (leap-day 1900)) paths true false (le-leb area_size (length paths) fits) refl, refl);
      undated-2100 = λ n paths fits. (Refusal.Date, bind-refused (marks n (leap-day 2100)) paths true false (le-leb area_size (length paths) fits) refl, refl);
      dated-2000 = λ paths fits. ap bound_as (binds bytes_a book_a book-A (marks 3 (leap-day 2000)) ((date-is (leap-day 2000)).0 refl) paths fits);
      area-first = λ batch paths short. (Refusal.Area, bind-refused batch paths false (is_date batch.date) (lt-leb area_size (length paths) short) refl, refl);
      start-first = λ batch paths walk fits long. (Refusal.Endpoint, begin-refused batch 4 paths walk fits long, refl);
      begin-undated = λ n paths walk fits long. (Refusal.Date, begin-refused (marks n (leap-day 1900)) 0 paths walk fits long, refl);
      printed_15 = prints (0 ∷ 3 ∷ 0 ∷ 3 ∷ 29 ∷ 2 ∷ 0x07 ∷ 0x6c ∷ bytes_a) refused-15 (subst (λ x. AnsweredOf x (marks 3 (leap-day 1900)) 0 3 refused-15) (sym book-A) refl);
    }
