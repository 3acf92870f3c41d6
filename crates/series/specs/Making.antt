-- One report of a list, made; and a begin with all of them.
use Rattle.std.specs.Prelude.{ℕ, ◌+◌, Bool, true, false, List, drop, Option, Some, None, Result}
use Rattle.states.specs.Chosen.{chosen}
use Rattle.book.specs.declared.Refusal.{Refusal}
use Rattle.book.specs.Book.{graph}
use Rattle.book.specs.Reading.{Reading, reading, refusal_of, book_in}
use Rattle.rules.specs.declared.Batch.{Batch}
use Rattle.trial_record.specs.declared.Record.{Record}
use Rattle.trial_rules.specs.Trials.{begin_tests, run}
use Rattle.trials.specs.declared.Rejected.{Rejected}
use Rattle.series.specs.declared.Made.{Made}
use Rattle.trials.specs.Operations.{Leaves, answering, begun_as, first_state, reporting}
use Rattle.series.specs.Reports.{is_report, report_in, size_of, reports_of}

-- What is made of a report that ends at a place.
abbrev pub made_of : Leaves (Result Record Rejected) → ℕ → Leaves (Option Made)
made_of l end = answering (Some (record { reported = l.answer; end = end })) l.paths l.walk

abbrev pub made_if : Bool → Leaves (Result Record Rejected) → ℕ → List ℕ → List ℕ → Leaves (Option Made)
made_if true l end paths walk = made_of l end
made_if false l end paths walk = answering None paths walk

abbrev pub making : List ℕ → Record → List ℕ → ℕ → List ℕ → List ℕ → Leaves (Option Made)
making s r reports at paths walk =
    made_if (is_report (drop at reports)) (reporting s r paths walk (report_in (drop at reports))) (at + size_of (drop at reports)) paths walk

-- Begin and a list of reports.
abbrev pub replaying_of : Reading → Batch → ℕ → ℕ → List ℕ → List ℕ → List ℕ → Leaves (Result Record Refusal)
replaying_of x batch start end reports paths walk =
    begun_as (refusal_of x (λ b. begin_tests batch (graph b) start end paths walk))
    (run (graph (book_in x)) (chosen (graph (book_in x))) (first_state (book_in x) batch start end paths walk) (reports_of reports)) paths walk

abbrev pub replaying : List ℕ → Batch → ℕ → ℕ → List ℕ → List ℕ → List ℕ → Leaves (Result Record Refusal)
replaying s batch start end reports paths walk = replaying_of (reading s) batch start end reports paths walk
