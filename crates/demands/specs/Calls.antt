-- The words of demand 3, over the answers of begin and the reports and over what they leave, as their contracts give both (`beginning`,
-- `reporting`, `reports_on`): which reports are accepted, and when an oracle (01: a lab) is true to a set of forbidden paths (01: runs).
use Rattle.trials.specs.declared.Rejected.{Rejected}
use Rattle.std.specs.Prelude.{ℕ, ◌≤◌, ◌≡◌, ◌⊎◌, ◌↔◌, length, take, Result, Ok, Err}
use mathlib.Core.List.{List, [], ◌∷◌, Memᴰ}
use Rattle.lists.specs.Distinct.{Distinct}
use Rattle.walks.specs.Avoid.{Occurs, Avoids}
use Rattle.walks.specs.Best.{Feasible}
use Rattle.limits.specs.Limits.{most_paths}
use Rattle.book.specs.Book.{Book, IsPath, graph}
use Rattle.book.specs.Reading.{accepted, reading}
use Rattle.rules.specs.declared.Batch.{Batch}
use Rattle.trial_record.specs.declared.Record.{Record}
use Rattle.trial_rules.specs.Trials.{Report, passed, failed}
use Rattle.trials.specs.Operations.{Leaves, answering, beginning, reporting}
use Rattle.series.specs.Whole.{report_on}
use Rattle.demands.specs.Marks.{OfSheet, Clear}

-- ---- the calls, and their answers
-- An accepted begin in a book that is read: the book's bytes, a batch, start and end, both areas as lent; and the record that
-- it answers. The batch's date is a date then: else it is refused under 15.
pub record AcceptedBegin : Type 0 where
  pub bytes : List ℕ
  pub book : Book
  pub read : reading bytes ≡ accepted book
  pub batch : Batch
  pub start : ℕ
  pub end : ℕ
  pub paths : List ℕ
  pub walk : List ℕ
  pub rec : Record
  pub answered : (beginning bytes batch start end paths walk).answer ≡ Ok rec

-- What it leaves: its record, and both areas.
abbrev pub opening : AcceptedBegin → Leaves Record
opening β =
    let m = beginning β.bytes β.batch β.start β.end β.paths β.walk in
    answering β.rec m.paths m.walk

-- What a report answers that is made on record and areas as they stand.
abbrev pub answer_on : List ℕ → Leaves Record → Report → Result Record Rejected
answer_on s l ρ = (reporting s l.answer l.paths l.walk ρ).answer

-- The answers to a list of reports, in order, each made on what the one before it left (`report_on`).
unfoldable pub answers_on : List ℕ → Leaves Record → List Report → List (Result Record Rejected)
answers_on s l [] = []
answers_on s l (ρ ∷ ρs) = answer_on s l ρ ∷ answers_on s (report_on s l ρ) ρs

-- The reports that were answered with acceptance, in order.
unfoldable pub accepted_by : List (Result Record Rejected) → List Report → List Report
accepted_by [] ρs = []
accepted_by (a ∷ answers) [] = []
accepted_by (Ok r ∷ answers) (ρ ∷ ρs) = ρ ∷ accepted_by answers ρs
accepted_by (Err x ∷ answers) (ρ ∷ ρs) = accepted_by answers ρs

abbrev pub accepted_on : List ℕ → Leaves Record → List Report → List Report
accepted_on s l ρs = accepted_by (answers_on s l ρs) ρs

-- ---- true reports
-- The standing walk (01: the line-up is the first grades of its area, as many as the record's length).
abbrev pub standing_in : Leaves Record → List ℕ
standing_in l = take l.answer.length l.walk

-- A report is true to R (01): it passes a standing walk that avoids R, or names a path of R that stands in the standing walk.
abbrev pub TrueReport : List (List ℕ) → Leaves Record → Report → Type 0
TrueReport R l passed = Avoids R (standing_in l)
TrueReport R l (failed r) = Memᴰ r R × Occurs r (standing_in l)

-- A lab is true to R (01): each of its reports that is answered with acceptance is true; its refused ones may be anything.
unfoldable pub TrueLab : List (List ℕ) → List ℕ → Leaves Record → List Report → Type 0
TrueLab R s l [] = Unit
TrueLab R s l (ρ ∷ ρs) = ((r : Record) → answer_on s l ρ ≡ Ok r → TrueReport R l ρ) × TrueLab R s (report_on s l ρ) ρs

-- ---- the binding sheets' runs and the lab's
-- n different paths have P.
pub record HowMany (P : List ℕ → Type 0) (n : ℕ) : Type 0 where
  pub listed : List (List ℕ)
  pub once : Distinct listed
  pub each : (r : List ℕ) → Memᴰ r listed ↔ P r
  pub number : length listed ≡ n

-- A run of a sheet that binds the batch, or of the lab's R. A run of R that no such sheet has.
abbrev pub OfEither : Book → Batch → List (List ℕ) → List ℕ → Type 0
OfEither b batch R r = OfSheet b batch r ⊎ Memᴰ r R

abbrev pub LabsOnly : Book → Batch → List (List ℕ) → List ℕ → Type 0
LabsOnly b batch R r = Memᴰ r R × (OfSheet b batch r → ⊥)

-- What 01 asks of the lab's R: runs, all over the book's grades; with those of the binding sheets they make at most 256 different ones, one
-- in both counted once.
pub record LabSet (b : Book) (batch : Batch) (R : List (List ℕ)) : Type 0 where
  pub paths : (r : List ℕ) → Memᴰ r R → IsPath b.count r
  pub together : ℕ
  pub counted : HowMany (OfEither b batch R) together
  pub few : together ≤ most_paths

-- A walk from start to end (01: a line-up) that avoids all of R, and all runs of the sheets that bind the batch.
pub record Free (b : Book) (batch : Batch) (R : List (List ℕ)) (start end : ℕ) (w : List ℕ) : Type 0 where
  pub avoids_lab : Feasible (graph b) R start end w
  pub avoids_sheets : Clear b batch w
