-- The replay of a list of reports: what each turn of it keeps.
use Rattle.std.specs.Prelude.{ℕ, ◌+◌, ◌≡◌, Bool, true, false, List, [], Result, Ok, Err, Some, None, drop}
use Rattle.std.proofs.Math.Option.{Option, none, some}
use Rattle.std.proofs.Math.Path.{refl, ap}
use Rattle.std.proofs.Common.{sym, ap₂, subst, ◌∙◌, drop-drop}
use Rattle.walks.specs.Graph.{Graph}
use Rattle.states.specs.Chosen.{chosen}
use Rattle.book.specs.declared.Refusal.{Refusal}
use Rattle.book.specs.Book.{Book, graph}
use Rattle.book.specs.Reading.{Reading, accepted, refused, reading}
use Rattle.rules.specs.declared.Batch.{Batch}
use Rattle.trial_record.specs.declared.Record.{Record}
use Rattle.trials.specs.declared.Rejected.{Rejected}
use Rattle.series.specs.declared.Made.{Made}
use Rattle.trial_rules.specs.Trials.{Report, State, begin_refusal, after, run, state_after}
use Rattle.trials.specs.Operations.{Leaves, answering, begun_as, first_state, beginning_of, beginning, reporting, record_in}
use Rattle.series.specs.Reports.{is_report, report_in, size_of, reports_of}
use Rattle.series.specs.ReportsLaws.{reports_cons, reports_none}
use Rattle.series.specs.Making.{made_if, making, replaying_of, replaying}
use Rattle.trial_rules.proofs.Invariant.{Invariant, invariant_begin}
use Rattle.series.specs.Whole.{leaves_of, report_on, report_leaves, after-keeps, opened, replay_leaves}

module _ (s : List ℕ) (batch : Batch) (start end : ℕ) (reports paths₀ walk₀ : List ℕ) where
  -- A refused begin is a refused replay.
  pub not-begun : (x : Refusal) (paths walk : List ℕ) → answering (Err x) paths walk ≡ beginning s batch start end paths₀ walk₀
      → answering (Err x) paths walk ≡ replaying s batch start end reports paths₀ walk₀
  not-begun x paths walk e = go (reading s) e
    where
      go : (y : Reading) → answering (Err x) paths walk ≡ beginning_of y batch start end paths₀ walk₀
          → answering (Err x) paths walk ≡ replaying_of y batch start end reports paths₀ walk₀
      go (refused z) e = e
      go (accepted b) e = on (begin_refusal batch (graph b) start end paths₀ walk₀) e
        where
          on : (o : Option Refusal) → answering (Err x) paths walk ≡ begun_as o (first_state b batch start end paths₀ walk₀) paths₀ walk₀
              → answering (Err x) paths walk ≡ begun_as o (run (graph b) (chosen (graph b)) (first_state b batch start end paths₀ walk₀) (reports_of reports)) paths₀ walk₀
          on none e = absurd (let z : Err x ≡ Ok (first_state b batch start end paths₀ walk₀).rec = ap (λ (l : Leaves (Result Record Refusal)). l.answer) e in cc)
          on (some z) e = e

  -- After some reports: the state of the trials, and that the reports from a place on lead to the end.
  pub record Replayed (l : Leaves Record) (at : ℕ) : Type 0 where
    book : Book
    read : reading s ≡ accepted book
    begins : begin_refusal batch (graph book) start end paths₀ walk₀ ≡ none
    state : State
    done : List Report
    keeps : Invariant (opened s book read batch start end paths₀ walk₀ begins) done state
    held : l ≡ leaves_of state
    leads : run (graph book) (chosen (graph book)) state (reports_of (drop at reports)) ≡ state_after (opened s book read batch start end paths₀ walk₀ begins) (reports_of reports)

  pub replayed-begin : (r : Record) (paths walk : List ℕ) → answering (Ok r) paths walk ≡ beginning s batch start end paths₀ walk₀
      → Replayed (answering r paths walk) 0
  replayed-begin r paths walk e = go (reading s) refl e
    where
      go : (y : Reading) → reading s ≡ y → answering (Ok r) paths walk ≡ beginning_of y batch start end paths₀ walk₀ → Replayed (answering r paths walk) 0
      go (refused z) read e = absurd (let w : Ok r ≡ Err z = ap (λ (l : Leaves (Result Record Refusal)). l.answer) e in cc)
      go (accepted b) read e = on (begin_refusal batch (graph b) start end paths₀ walk₀) refl e
        where
          on : (o : Option Refusal) → begin_refusal batch (graph b) start end paths₀ walk₀ ≡ o
              → answering (Ok r) paths walk ≡ begun_as o (first_state b batch start end paths₀ walk₀) paths₀ walk₀
              → Replayed (answering r paths walk) 0
          on (some z) begins e = absurd (let w : Ok r ≡ Err z = ap (λ (l : Leaves (Result Record Refusal)). l.answer) e in cc)
          on none begins e =
              let σ = first_state b batch start end paths₀ walk₀ in
              let same : Ok r ≡ Ok σ.rec = ap (λ (l : Leaves (Result Record Refusal)). l.answer) e in
              let r-is : r ≡ σ.rec = cc in
              record {
                book = b;
                read = read;
                begins = begins;
                state = σ;
                done = [];
                keeps = invariant_begin (opened s b read batch start end paths₀ walk₀ begins);
                held = ap₂ (λ (x : Record) (l : Leaves (Result Record Refusal)). answering x l.paths l.walk) r-is e;
                leads = refl;
              }

  module _ {l : Leaves Record} {at : ℕ} (p : Replayed l at) where
    abbrev b : Book
    b = p.book

    abbrev g : Graph
    g = graph p.book

    abbrev rest : List ℕ
    rest = drop at reports

    -- One more report.
    replayed-step : is_report (drop at reports) ≡ true → Replayed (report_on s l (report_in (drop at reports))) (at + size_of (drop at reports))
    unfolding run
    replayed-step is =
        let ρ = report_in rest in
        let kept = after-keeps (opened s b p.read batch start end paths₀ walk₀ p.begins) p.state ρ p.done p.keeps in
        record {
          book = b;
          read = p.read;
          begins = p.begins;
          state = after g (chosen g) p.state ρ;
          done = kept.0;
          keeps = kept.1;
          held = ap (λ x. report_on s x ρ) p.held ∙ report_leaves s b p.read p.state p.keeps.valid ρ;
          leads =
              ap (λ x. run g (chosen g) (after g (chosen g) p.state ρ) (reports_of x)) (sym (drop-drop (size_of rest) at reports))
              ∙ sym (ap (run g (chosen g) p.state) (reports_cons rest is))
              ∙ p.leads;
        }

    pub replayed-made : (m : Made) (paths walk : List ℕ) → answering (Some m) paths walk ≡ making s l.answer reports at l.paths l.walk
        → Replayed (answering (record_in m.reported) paths walk) m.end
    replayed-made m paths walk e = go (is_report rest) refl e
      where
        made : Leaves (Result Record Rejected)
        made = reporting s l.answer l.paths l.walk (report_in rest)

        go : (t : Bool) → is_report rest ≡ t → answering (Some m) paths walk ≡ made_if t made (at + size_of rest) l.paths l.walk
            → Replayed (answering (record_in m.reported) paths walk) m.end
        go false u e = absurd (let z : Some m ≡ None = ap (λ (y : Leaves _). y.answer) e in cc)
        go true u e =
            let both : Some m ≡ Some (record { reported = made.answer; end = at + size_of rest }) = ap (λ (y : Leaves _). y.answer) e in
            let m-is : m ≡ record { reported = made.answer; end = at + size_of rest } = cc in
            subst (λ k. Replayed (answering (record_in m.reported) paths walk) k) (sym (ap (λ (x : Made). x.end) m-is))
            (subst (λ y. Replayed y (at + size_of rest)) (sym (ap₂ (λ (x : Made) (y : Leaves _). answering (record_in x.reported) y.paths y.walk) m-is e)) (replayed-step u))

    -- At the end of the list the replay is done.
    pub replayed-last : (paths walk : List ℕ) → answering None paths walk ≡ making s l.answer reports at l.paths l.walk
        → answering (Ok l.answer) paths walk ≡ replaying s batch start end reports paths₀ walk₀
    unfolding run
    replayed-last paths walk e = go (is_report rest) refl e
      where
        go : (t : Bool) → is_report rest ≡ t
            → answering None paths walk ≡ made_if t (reporting s l.answer l.paths l.walk (report_in rest)) (at + size_of rest) l.paths l.walk
            → answering (Ok l.answer) paths walk ≡ replaying s batch start end reports paths₀ walk₀
        go true u e = absurd (let z : None ≡ Some _ = ap (λ (y : Leaves _). y.answer) e in cc)
        go false u e =
            let last : p.state ≡ state_after (opened s b p.read batch start end paths₀ walk₀ p.begins) (reports_of reports) =
            sym (ap (run g (chosen g) p.state) (reports_none rest u)) ∙ p.leads in
            ap (λ (y : Leaves _). answering (Ok l.answer) y.paths y.walk) e
            ∙ ap (λ (x : Leaves Record). answering (Ok x.answer) x.paths x.walk) (p.held ∙ ap leaves_of last)
            ∙ sym (replay_leaves s b p.read batch start end paths₀ walk₀ p.begins reports)
