-- What a report is refused for in a book that has been read.
use Rattle.std.specs.Prelude.{ℕ, List, [], ◌∷◌, ◌++◌, eqb, drop, Result, Ok, Err}
use Rattle.std.proofs.Math.Option.{Option, none, some}
use Rattle.limits.specs.Limits.{area_size}
use Rattle.book.specs.declared.Refusal.{Refusal}
use Rattle.book.specs.Refusal.{Test, test}
use Rattle.book.specs.Book.{Book, graph}
use Rattle.rules.specs.Area.{spelled, valid}
use Rattle.trial_record.specs.declared.Record.{Record}
use Rattle.trial_rules.specs.Trials.{Report, State, area_tests, is_record, said_tests}

-- The state that a record and the two areas stand for.
abbrev pub state_of : Record → List ℕ → List ℕ → State
state_of r paths walk = record { rec = r; forbidden = spelled r.known paths; beyond = drop area_size paths; area = walk }

-- What every report is refused for: 8, 9 and 11; and then what it is refused for by what it says.
abbrev pub judge_tests : Record → List ℕ → List ℕ → Book → List Test
judge_tests r paths walk b =
    area_tests paths walk
    ++ (test 9 (valid b.count paths r.known) ∷ test 9 (is_record (graph b) (state_of r paths walk)) ∷ test 11 (eqb r.stage 0) ∷ [])

abbrev pub report_tests : Record → List ℕ → List ℕ → Report → Book → List Test
report_tests r paths walk ρ b = judge_tests r paths walk b ++ said_tests (graph b) (state_of r paths walk) ρ

-- What `judge` answers for a refusal, or where there is none.
abbrev pub judged_as : Option Refusal → Result Unit Refusal
judged_as none = Ok tt
judged_as (some x) = Err x
