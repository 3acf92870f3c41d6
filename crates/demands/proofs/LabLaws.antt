-- Demand 3, proved: from the theorems of the theory of trials, by what the answers come to there.
use Rattle.book.specs.declared.Refusal.{Refusal}
use Rattle.std.specs.Prelude.{ℕ, ◌≡◌, refl, List, [], ◌↔◌, length, Result, Ok}
use Rattle.std.proofs.Common.{sym, ap, ap₂, subst, subst₂, ◌∙◌, arith}
use Rattle.std.proofs.Math.Option.{none}
use Rattle.lists.specs.Test.{true→T}
use Rattle.walks.specs.Best.{Best, None}
use Rattle.states.specs.Chosen.{chosen}
use Rattle.book.specs.Book.{WellFormed, graph}
use Rattle.book.proofs.BookLaws.{reading-is-book, IsPath→is_path}
use Rattle.rules.specs.Binding.{known}
use Rattle.rules.proofs.ValidLaws.{valid→Valid}
use Rattle.trial_record.specs.declared.Record.{Record}
use Rattle.trial_rules.specs.Trials.{Report, path_area, Valid, ForbiddenSet, step, Begin, begun, begin_refusal, state_after, accepted_of}
use Rattle.trial_rules.specs.Lacking.{lacking}
use Rattle.trial_rules.proofs.Accepted.{begin-accepted}
use Rattle.trial_rules.proofs.Invariant.{Invariant, invariant_begin}
use Rattle.trial_rules.proofs.Claim.{claim, refused_as_if_not_made}
use Rattle.trial_rules.specs.Oracle.{OracleSet}
use Rattle.trial_rules.proofs.Oracle.{oracle}
use Rattle.trials.specs.Operations.{Leaves, answering}
use Rattle.trials.specs.OperationLaws.{area-valid, state-is}
use Rattle.trials.specs.Replanning.{chosen-planner}
use Rattle.series.specs.Reports.{reports_of}
use Rattle.series.specs.Making.{replaying}
use Rattle.series.specs.Whole.{leaves_of, reports_on, opened, begin_leaves, reports_leave, replay_leaves}
use Rattle.demands.specs.Calls.{AcceptedBegin, opening, accepted_on, standing_in, TrueLab, LabSet}
use Rattle.demands.proofs.CallLaws.{how_many_once, many_of_either, many_labs_only, free→feasible, feasible→free, refused-kept, true-report, answer-is, only_five, begin_ok, accepted_are, true_lab}
use Rattle.demands.specs.Demands.{AsRuled, LabOutcome, ReplayOutcome}

module _ (β : AcceptedBegin) where
  open β use {bytes as s, book as b, read, batch, start, end, paths, walk, rec, answered}

  well : WellFormed b
  well = (reading-is-book s b read).well_formed

  allowed : begin_refusal batch (graph b) start end paths walk ≡ none
  allowed = begin_ok s b read batch start end paths walk rec answered

  -- the trials of the theory
  abbrev t : Begin
  t = opened s b read batch start end paths walk allowed

  opening-is : opening β ≡ leaves_of (begun t)
  opening-is =
      let left = begin_leaves s b read batch start end paths walk allowed in
      ap₂ (λ (m : Leaves (Result Record Refusal)) r. answering r m.paths m.walk) left (recorded (sym answered ∙ ap (λ (m : Leaves (Result Record Refusal)). m.answer) left))
    where
      recorded : {p q : Record} → ◌≡◌ {A = Result Record Refusal} (Ok p) (Ok q) → p ≡ q
      recorded e = cc

  in_order : (done : List Report) × Invariant t done (begun t)
  in_order = ([], invariant_begin t)

  ruled-here : (ρs : List Report) → AsRuled β ρs (accepted_of t ρs) (leaves_of (state_after t ρs))
  ruled-here ρs =
      let c = claim t ρs in
      let v = c.valid in
      let σ = state_after t ρs in
      let leave : (τs : List Report) → leaves_of (state_after t τs) ≡ reports_on s (opening β) τs =
      λ τs. sym (ap (λ l. reports_on s l τs) opening-is ∙ reports_leave s b read batch start end paths walk allowed τs) in
      record {
        left = leave ρs;
        answered = sym (ap (λ l. accepted_on s l ρs) opening-is ∙ accepted_are s b read batch start end paths walk allowed (begun t) in_order ρs);
        planner = chosen-planner b well;
        ruled = refl;
        accepted-ruled = refl;
        refused-kept = refused-kept s;
        as_if_not_made = ap leaves_of (sym (refused_as_if_not_made (graph b) (chosen (graph b)) (begun t) ρs)) ∙ leave (accepted_of t ρs);
        start_is = c.start;
        end_is = c.end;
        first-is = c.first;
        known_is = c.known;
        failed-is = c.failed-count;
        passed_is = c.passed-count;
        trials_are = c.trials-count;
        known-set = subst (ForbiddenSet b.count) c.forbidden v.set;
        path_bytes = c.path_bytes;
        path-length = c.path-length;
        walk-bytes = c.area-bytes;
        walk-length = c.area-length;
        stage_is = v.stage;
        best = λ ne. subst (λ F. Best (graph b) F start end (standing_in (leaves_of σ))) c.forbidden (c.best ne);
        litres_are = v.litres;
        short = v.short;
        nothing = subst (λ F. (σ.rec.stage ≡ 2) ↔ None (graph b) F start end) c.forbidden c.nothing;
        nothing-stands = v.no_walk;
        passed-stage = c.passed-stage;
        in-order =
            record {
              paths-fit = omega (arith, c.path-length, (begin-accepted t).paths-fit);
              walk-fits = omega (arith, c.area-length, (begin-accepted t).area-fits);
              runs = valid→Valid b.count (path_area σ) σ.rec.known (area-valid b σ v.set v.known);
              state = subst (Valid (graph b)) (sym (state-is b σ v.set v.known)) v;
            };
        refusals = λ ρ. only_five s b read σ v ρ (c.refusals ρ);
      }

  pub ruled : (ρs : List Report) → AsRuled β ρs (accepted_on s (opening β) ρs) (reports_on s (opening β) ρs)
  ruled ρs =
      let h = ruled-here ρs in
      subst₂ (AsRuled β ρs) h.answered h.left h

  module _ (R : List (List ℕ)) (set : LabSet b batch R) where
    oracle-set : OracleSet t R
    oracle-set =
        record {
          taken = λ r m. true→T _ (IsPath→is_path b.count r (set.paths r m));
          few = omega (arith, set.few, how_many_once set.counted (many_of_either b well batch R));
        }

    pub labs : (ρs : List Report) → TrueLab R s (opening β) ρs → LabOutcome β R ρs (accepted_on s (opening β) ρs) (reports_on s (opening β) ρs)
    labs ρs honest = subst₂ (LabOutcome β R ρs) rules.answered rules.left here
      where
        rules : AsRuled β ρs (accepted_of t ρs) (leaves_of (state_after t ρs))
        rules = ruled-here ρs

        here : LabOutcome β R ρs (accepted_of t ρs) (leaves_of (state_after t ρs))
        here =
            let σ = state_after t ρs in
            let true-reports = true_lab s b read batch start end paths walk allowed R (begun t) in_order ρs (subst (λ l. TrueLab R s l ρs) opening-is honest) in
            let o = oracle t R oracle-set ρs true-reports in
            record {
              rules = rules;
              failed-counted = rules.failed-is;
              passed_counted = rules.passed_is;
              trials-counted = rules.trials_are;
              lacked = length (lacking (known batch b.sets) R);
              lacked_are = many_labs_only b well batch R;
              failed-bounded = o.failed-bounded;
              trials-bounded = o.trials-bounded;
              true-accepted =
                  λ e ρ q. ((step (graph b) (chosen (graph b)) σ ρ).rec, answer-is s b read σ o.rules.valid ρ none (o.true-accepted e ρ (true-report R σ ρ q)));
              passed-avoids = λ e. feasible→free (o.passed-avoids e);
              passed-litres = o.passed-litres;
              passed-least = λ e v f. o.passed-least e v (free→feasible f);
              passed-best = λ e v f. (o.passed-best e).least v (free→feasible f);
              over = o.over;
              none-exactly =
                  λ ne. (λ e w f. (o.none-exactly ne).0 e w (free→feasible f), λ n. (o.none-exactly ne).1 (λ w f. n w (feasible→free f)));
            }

    pub replay-labs : (reports : List ℕ) → TrueLab R s (opening β) (reports_of reports) → (a : Result Record Refusal) (paths' walk' : List ℕ)
        → answering a paths' walk' ≡ replaying s batch start end reports paths walk
        → (r : Record) × (a ≡ Ok r) × ReplayOutcome β R reports r paths' walk'
    replay-labs reports honest a paths' walk' e =
        let o = labs (reports_of reports) honest in
        let l = reports_on s (opening β) (reports_of reports) in
        let same : answering a paths' walk' ≡ begun_with l =
        e ∙ replay_leaves s b read batch start end paths walk allowed reports ∙ sym (ap begun_with o.rules.ruled) in
        let is : a ≡ Ok l.answer = ap (λ (m : Leaves (Result Record Refusal)). m.answer) same in
        let made : answering l.answer paths' walk' ≡ l = ap (λ (m : Leaves (Result Record Refusal)). answering l.answer m.paths m.walk) same in (
          l.answer,
          is,
          record {
            replayed = sym e ∙ ap (λ x. answering x paths' walk') is;
            as_made = made;
            outcome = subst (LabOutcome β R (reports_of reports) (accepted_on s (opening β) (reports_of reports))) (sym made) o;
          },
        )
      where
        begun_with : Leaves Record → Leaves (Result Record Refusal)
        begun_with m = answering (Ok m.answer) m.paths m.walk
