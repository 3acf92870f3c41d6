-- What the operations answer, and what they leave in both areas.
use Rattle.std.specs.Prelude.{ℕ, List, Result, Ok, Err}
use Rattle.std.proofs.Math.Option.{Option, none, some}
use Rattle.book.specs.declared.Refusal.{Refusal}
use Rattle.book.specs.Book.{Book, graph}
use Rattle.book.specs.Reading.{Reading, reading, refusal_of, book_in}
use Rattle.rules.specs.declared.Batch.{Batch}
use Rattle.rules.specs.Binding.{known}
use Rattle.judging.specs.Judging.{state_of, report_tests}
use Rattle.trial_record.specs.declared.Record.{Record}
use Rattle.trials.specs.declared.Rejected.{Rejected}
use Rattle.states.specs.Chosen.{chosen}
use Rattle.trial_rules.specs.Trials.{Report, State, path_area, begin_tests, begin, step}

-- An operation's answer, and every byte of the runs area and of the line-up area after it.
pub record Leaves (A : Type 0) : Type 0 where
  pub answer : A
  pub paths : List ℕ
  pub walk : List ℕ

abbrev pub answering : {A : Type 0} → A → List ℕ → List ℕ → Leaves A
answering a paths walk = record { answer = a; paths = paths; walk = walk }

-- ---- begin
-- A refusal writes nothing.
abbrev pub begun_as : Option Refusal → State → List ℕ → List ℕ → Leaves (Result Record Refusal)
begun_as none σ paths walk = answering (Ok σ.rec) (path_area σ) σ.area
begun_as (some x) σ paths walk = answering (Err x) paths walk

-- The state after the rule of begin, in a book.
abbrev pub first_state : Book → Batch → ℕ → ℕ → List ℕ → List ℕ → State
first_state b batch start end paths walk = begin (graph b) (chosen (graph b)) (known batch b.sets) start end paths walk

abbrev pub beginning_of : Reading → Batch → ℕ → ℕ → List ℕ → List ℕ → Leaves (Result Record Refusal)
beginning_of x batch start end paths walk =
    begun_as (refusal_of x (λ b. begin_tests batch (graph b) start end paths walk)) (first_state (book_in x) batch start end paths walk) paths walk

abbrev pub beginning : List ℕ → Batch → ℕ → ℕ → List ℕ → List ℕ → Leaves (Result Record Refusal)
beginning s batch start end paths walk = beginning_of (reading s) batch start end paths walk

-- ---- a report
abbrev pub rejected : Refusal → Record → Rejected
rejected x r = record { refusal = x; «record» = r }

-- A refusal writes nothing, and hands the record back as it came.
abbrev pub reported_as : Option Refusal → State → Record → List ℕ → List ℕ → Leaves (Result Record Rejected)
reported_as none σ r paths walk = answering (Ok σ.rec) (path_area σ) σ.area
reported_as (some x) σ r paths walk = answering (Err (rejected x r)) paths walk

abbrev pub reporting_of : Reading → Record → List ℕ → List ℕ → Report → Leaves (Result Record Rejected)
reporting_of x r paths walk ρ =
    reported_as (refusal_of x (report_tests r paths walk ρ)) (step (graph (book_in x)) (chosen (graph (book_in x))) (state_of r paths walk) ρ) r paths walk

abbrev pub reporting : List ℕ → Record → List ℕ → List ℕ → Report → Leaves (Result Record Rejected)
reporting s r paths walk ρ = reporting_of (reading s) r paths walk ρ

-- The record that a report leaves.
abbrev pub record_in : Result Record Rejected → Record
record_in (Ok r) = r
record_in (Err x) = x.record

-- What a report answers, from what it is refused for alone.
abbrev pub rejected_as : Record → Result Record Refusal → Result Record Rejected
rejected_as r (Ok next) = Ok next
rejected_as r (Err x) = Err (rejected x r)
