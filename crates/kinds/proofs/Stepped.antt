-- Reports made one by one.
use Rattle.std.specs.Prelude.{ℕ, ◌+◌, ◌≡◌, Bool, true, false, List, Result, Ok, Err, Some, None, drop}
use Rattle.std.proofs.Math.Option.{Option, none, some}
use Rattle.std.proofs.Math.Path.{refl, ap}
use Rattle.std.proofs.Common.{sym, ap₂, ◌∙◌, drop-drop}
use Rattle.book.specs.declared.Refusal.{Refusal}
use Rattle.book.specs.Book.{graph}
use Rattle.book.specs.Reading.{Reading, accepted, refused, reading}
use Rattle.rules.specs.declared.Batch.{Batch}
use Rattle.trial_record.specs.declared.Record.{Record}
use Rattle.trials.specs.declared.Rejected.{Rejected}
use Rattle.series.specs.declared.Made.{Made}
use Rattle.trial_rules.specs.Trials.{begin_refusal}
use Rattle.trials.specs.Operations.{Leaves, answering, begun_as, first_state, beginning_of, beginning, reporting, record_in}
use Rattle.series.specs.Making.{replaying, made_if, making}
use Rattle.series.specs.Reports.{is_report, report_in, size_of, reports_of}
use Rattle.series.specs.ReportsLaws.{reports_cons, reports_none}
use Rattle.series.specs.Whole.{reports_on, reports_leave, replay_leaves}

module _ (s : List ℕ) (l : Leaves Record) (reports : List ℕ) (at : ℕ) (paths walk : List ℕ) where
  abbrev rest : List ℕ
  rest = drop at reports

  abbrev made : Leaves (Result Record Rejected)
  made = reporting s l.answer l.paths l.walk (report_in rest)

  -- What a report leaves leads where the reports from its place on lead.
  pub made-next : (m : Made) → answering (Some m) paths walk ≡ making s l.answer reports at l.paths l.walk
      → reports_on s (answering (record_in m.reported) paths walk) (reports_of (drop m.end reports)) ≡ reports_on s l (reports_of rest)
  unfolding reports_on
  made-next m e = go (is_report rest) refl e
    where
      go : (t : Bool) → is_report rest ≡ t → answering (Some m) paths walk ≡ made_if t made (at + size_of rest) l.paths l.walk
          → reports_on s (answering (record_in m.reported) paths walk) (reports_of (drop m.end reports)) ≡ reports_on s l (reports_of rest)
      go false u e = absurd (let z : Some m ≡ None = ap (λ (y : Leaves _). y.answer) e in cc)
      go true u e =
          let both : Some m ≡ Some (record { reported = made.answer; end = at + size_of rest }) = ap (λ (y : Leaves _). y.answer) e in
          let m-is : m ≡ record { reported = made.answer; end = at + size_of rest } = cc in
          ap₂ (λ (x : Made) (y : Leaves _). reports_on s (answering (record_in x.reported) y.paths y.walk) (reports_of (drop x.end reports))) m-is e
          ∙ ap (λ k. reports_on s (answering (record_in made.answer) made.paths made.walk) (reports_of k)) (sym (drop-drop (size_of rest) at reports))
          ∙ ap (reports_on s l) (sym (reports_cons rest u))

  -- Behind the last report none is left.
  pub made-last : answering None paths walk ≡ making s l.answer reports at l.paths l.walk
      → answering l.answer paths walk ≡ reports_on s l (reports_of rest)
  unfolding reports_on
  made-last e = go (is_report rest) refl e
    where
      go : (t : Bool) → is_report rest ≡ t → answering None paths walk ≡ made_if t made (at + size_of rest) l.paths l.walk
          → answering l.answer paths walk ≡ reports_on s l (reports_of rest)
      go true u e = absurd (let z : None ≡ Some _ = ap (λ (y : Leaves _). y.answer) e in cc)
      go false u e = ap (λ (y : Leaves _). answering l.answer y.paths y.walk) e ∙ ap (reports_on s l) (sym (reports_none rest u))

-- Begin, and then the reports one by one, are a replay.
pub stepped : (s : List ℕ) (batch : Batch) (start end : ℕ) (reports paths walk : List ℕ) (first last : Record) (paths₁ walk₁ paths₂ walk₂ : List ℕ)
    → answering (Ok first) paths₁ walk₁ ≡ beginning s batch start end paths walk
    → answering last paths₂ walk₂ ≡ reports_on s (answering first paths₁ walk₁) (reports_of reports)
    → answering (Ok last) paths₂ walk₂ ≡ replaying s batch start end reports paths walk
stepped s batch start end reports paths walk first last paths₁ walk₁ paths₂ walk₂ e after = go (reading s) refl e
  where
    go : (y : Reading) → reading s ≡ y → answering (Ok first) paths₁ walk₁ ≡ beginning_of y batch start end paths walk
        → answering (Ok last) paths₂ walk₂ ≡ replaying s batch start end reports paths walk
    go (refused z) read e = absurd (let w : Ok first ≡ Err z = ap (λ (y : Leaves (Result Record Refusal)). y.answer) e in cc)
    go (accepted b) read e = on (begin_refusal batch (graph b) start end paths walk) refl e
      where
        on : (o : Option Refusal) → begin_refusal batch (graph b) start end paths walk ≡ o
            → answering (Ok first) paths₁ walk₁ ≡ begun_as o (first_state b batch start end paths walk) paths walk
            → answering (Ok last) paths₂ walk₂ ≡ replaying s batch start end reports paths walk
        on (some z) ok e = absurd (let w : Ok first ≡ Err z = ap (λ (y : Leaves (Result Record Refusal)). y.answer) e in cc)
        on none ok e =
            let σ = first_state b batch start end paths walk in
            let same : Ok first ≡ Ok σ.rec = ap (λ (y : Leaves (Result Record Refusal)). y.answer) e in
            let first-is : first ≡ σ.rec = cc in
            ap (λ (x : Leaves Record). answering (Ok x.answer) x.paths x.walk)
            (after
            ∙ ap₂ (λ (x : Record) (y : Leaves (Result Record Refusal)). reports_on s (answering x y.paths y.walk) (reports_of reports)) first-is e
            ∙ reports_leave s b read batch start end paths walk ok (reports_of reports))
            ∙ sym (replay_leaves s b read batch start end paths walk ok reports)
