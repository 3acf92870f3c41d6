-- 01's listing: what is printed for marks 3, start 0, end 3 and book A, on every date. And none, and refusals with and without a place.
use Rattle.std.specs.Prelude.{ℕ, ◌+◌, ◌*◌, ◌≡◌, refl, true, List, [], ◌∷◌, ◌++◌, ltb, length}
use Rattle.std.proofs.Common.{sym, subst, inl, inr, arith, le-leb}
use Rattle.dates.specs.declared.Date.{Date}
use Rattle.dates.specs.Calendar.{IsDate}
use Rattle.dates.proofs.CalendarLaws.{date-is}
use Rattle.book.specs.Book.{Book, graph}
use Rattle.book.specs.Reading.{accepted, reading}
use Rattle.examples.specs.Walks.{marks_3, back}
use Rattle.examples.specs.Batches.{marks, ForFour, ForDateBytes}
use Rattle.examples.specs.Books.{bytes_a, book_a, book-A, count-65}
use Rattle.rules.specs.Binding.{covers, applied, known}
use Rattle.text.specs.Text.{digits, followed}
use Rattle.answer.specs.Answer.{AnsweredUnder, AnsweredOf, AnsweredBy, Answered}
use Rattle.answer.specs.AnswerLaws.{Answered_unique, answer-found}

-- The input s gets this text and no other.
pub record Prints (s text : List ℕ) : Type 0 where
  pub answered : Answered s text
  pub alone : (x : List ℕ) → Answered s x → x ≡ text

pub prints : (s text : List ℕ) → Answered s text → Prints s text
prints s text have = record { answered = have; alone = λ x p. Answered_unique s x text p have }

-- What is found in a book that is read, for marks in two bytes on a date in four, from a vertex to a vertex, gives the text.
module _
    (s : List ℕ) (b : Book) (read : reading s ≡ accepted b) (m1 m0 start end : ℕ)
    (start-below : ltb start b.count ≡ true) (end-below : ltb end b.count ≡ true) (day month high low : ℕ)
  where
    abbrev date : Date
    date = record { day = day; month = month; year = high * 256 + low }

    abbrev input : List ℕ
    input = m1 ∷ m0 ∷ start ∷ end ∷ day ∷ month ∷ high ∷ low ∷ s

    pub prints-found : IsDate date → (text : List ℕ) → AnsweredUnder (graph b) (known (marks (m1 * 256 + m0) date) b.sets) start end text → Prints input text
    prints-found valid text found =
        prints input text
        (subst (λ x. AnsweredBy x input text) (sym (le-leb 8 (length input) (omega arith)))
        (subst (λ x. AnsweredOf x (marks (m1 * 256 + m0) date) start end text) (sym read)
        (answer-found b (marks (m1 * 256 + m0) date) start end (start-below, (end-below, ((date-is date).1 valid, tt))) text found)))

-- `LITRES 450 CHANGES 5`, `0 1 2 1 2 3`
abbrev pub listing : List ℕ
listing =
    76 ∷ 73 ∷ 84 ∷ 82 ∷ 69 ∷ 83 ∷ 32 ∷ 52 ∷ 53 ∷ 48 ∷ 32 ∷ 67 ∷ 72 ∷ 65 ∷ 78 ∷ 71 ∷ 69 ∷ 83 ∷ 32 ∷ 53 ∷ 10
    ∷ 48 ∷ 32 ∷ 49 ∷ 32 ∷ 50 ∷ 32 ∷ 49 ∷ 32 ∷ 50 ∷ 32 ∷ 51 ∷ 10
    ∷ []

pub listing_printed : ForDateBytes (λ date. Prints ((0 ∷ 3 ∷ 0 ∷ 3 ∷ []) ++ (date ++ bytes_a)) listing)
unfolding digits followed covers applied
listing_printed day month high low valid = prints-found bytes_a book_a book-A 0 3 0 3 refl refl day month high low valid listing (inl (_, marks_3.best, refl))

-- Start 3, end 0: `NONE`
abbrev nothing : List ℕ
nothing = 78 ∷ 79 ∷ 78 ∷ 69 ∷ 10 ∷ []

pub none_printed : ForDateBytes (λ date. Prints ((0 ∷ 0 ∷ 3 ∷ 0 ∷ []) ++ (date ++ bytes_a)) nothing)
unfolding covers applied
none_printed day month high low valid = prints-found bytes_a book_a book-A 0 0 3 0 refl refl day month high low valid nothing (inr (back, refl))

-- Start 4: `REFUSED 7`, also with a date that is none
abbrev refused-7 : List ℕ
refused-7 = 82 ∷ 69 ∷ 70 ∷ 85 ∷ 83 ∷ 69 ∷ 68 ∷ 32 ∷ 55 ∷ 10 ∷ []

pub endpoint_printed : ForFour (λ date. Prints ((0 ∷ 0 ∷ 4 ∷ 0 ∷ []) ++ (date ++ bytes_a)) refused-7)
unfolding digits
endpoint_printed day month high low =
    prints (0 ∷ 0 ∷ 4 ∷ 0 ∷ day ∷ month ∷ high ∷ low ∷ bytes_a) refused-7
    (subst (λ x. AnsweredOf x (marks 0 (record { day = day; month = month; year = high * 256 + low })) 4 0 refused-7) (sym book-A) refl)

-- 65 grades: `REFUSED 4 AT 0`; eight bytes, and so an empty book, and seven: `REFUSED 1 AT 0`
abbrev pub refused-at-0 : ℕ → List ℕ
refused-at-0 digit = 82 ∷ 69 ∷ 70 ∷ 85 ∷ 83 ∷ 69 ∷ 68 ∷ 32 ∷ digit ∷ 32 ∷ 65 ∷ 84 ∷ 32 ∷ 48 ∷ 10 ∷ []

pub count_printed : ForFour (λ date. Prints ((0 ∷ 0 ∷ 0 ∷ 0 ∷ []) ++ (date ++ (0x01 ∷ 0x00 ∷ 0x01 ∷ 0x41 ∷ []))) (refused-at-0 52))
unfolding digits
count_printed day month high low =
    prints (0 ∷ 0 ∷ 0 ∷ 0 ∷ day ∷ month ∷ high ∷ low ∷ 0x01 ∷ 0x00 ∷ 0x01 ∷ 0x41 ∷ []) (refused-at-0 52)
    (subst (λ x. AnsweredOf x (marks 0 (record { day = day; month = month; year = high * 256 + low })) 0 0 (refused-at-0 52)) (sym count-65) refl)

pub empty_printed : ForFour (λ date. Prints ((0 ∷ 0 ∷ 0 ∷ 0 ∷ []) ++ date) (refused-at-0 49))
unfolding digits reading
empty_printed day month high low = prints (0 ∷ 0 ∷ 0 ∷ 0 ∷ day ∷ month ∷ high ∷ low ∷ []) (refused-at-0 49) refl

pub short_printed : Prints (0 ∷ 0 ∷ 0 ∷ 0 ∷ 1 ∷ 5 ∷ 7 ∷ []) (refused-at-0 49)
unfolding digits
short_printed = prints (0 ∷ 0 ∷ 0 ∷ 0 ∷ 1 ∷ 5 ∷ 7 ∷ []) (refused-at-0 49) refl
