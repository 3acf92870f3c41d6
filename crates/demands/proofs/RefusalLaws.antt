-- Demand 1, proved: when an operation answers with a refusal, and that a refusal leaves every lent byte and the record.
use Rattle.std.specs.Prelude
use Rattle.std.specs.Prelude.{ℕ, zero, suc, ◌-◌, ◌≡◌, refl, List, ◌↔◌, Some, None, Ok, Err}
use Rattle.std.proofs.Common.{ap, ◌∙◌, inl, inr}
use Rattle.std.proofs.Math.Logic.Iff
use Rattle.std.proofs.Math.Option.{Option, none, some, none-ne-some}
use Rattle.walks.specs.Graph.{Graph}
use Rattle.states.specs.Chosen.{chosen}
use Rattle.book.specs.declared.Refusal.{Refusal}
use Rattle.book.specs.Refusal.{Test}
use Rattle.book.specs.Book.{Book, graph}
use Rattle.book.specs.Reading.{Reading, accepted, refused, reading, read_as, refusal_of, book_in}
use Rattle.rules.specs.Area.{spelled}
use Rattle.rules.specs.Binding.{known}
use Rattle.rules.specs.Operations.{bound_unless, bind_tests, bound_as, binding, area_after}
use Rattle.rules.specs.declared.Batch.{Batch}
use Rattle.walk_check.specs.declared.Occurrence.{Occurrence}
use Rattle.walk_check.specs.Checking.{named_at, answer_at, check_from, checked_unless, occurrence, check_tests}
use Rattle.planner.specs.Planning.{plan_tests, Planned, PlanningOf, Answer as Outcome}
use Rattle.reach.specs.Reaching.{reach_tests, answer_by, table_by, reached, table_after}
use Rattle.listed.specs.Listing.{listing}
use Rattle.content.specs.Content.{content}
use Rattle.writing.specs.Writing.{write_tests, answer_by as length_by, area_by, length_written, area_after as written_after}
use Rattle.trial_record.specs.declared.Record.{Record}
use Rattle.trial_rules.specs.Trials.{Report, State, step, run}
use Rattle.judging.specs.Judging.{state_of, report_tests}
use Rattle.trials.specs.Operations.{rejected, answering, begun_as, first_state, reported_as, reporting}
use Rattle.trials.specs.OperationLaws.{rejected-for}
use Rattle.series.specs.Reports.{reports_of}
use Rattle.demands.specs.Conditions.{Condition}
use Rattle.demands.proofs.Conditions.{zero_one}
use Rattle.demands.proofs.Fields.{bad_book, bad_list, bad_content}
use Rattle.demands.specs.Asked.{Judges}
use Rattle.demands.proofs.Asked.{conditions}
use Rattle.demands.specs.Demands.{ClearOrOccurs, tests_of_begin, Exactly, Refusals}

-- ---- the proofs
-- An answer that tells whether the definition gives x, and what it keeps then.
pub record Tells (o : Option Refusal) (x : Refusal) (answer kept : Type 0) : Type 0 where
  pub defined : answer ↔ (o ≡ some x)
  pub keeps : answer → kept

exactly : {r : Reading} {tests : Book → List Test} {conditions : Book → List Condition} {x : Refusal} {answer : Type 0}
    → Judges r tests conditions → answer ↔ (refusal_of r tests ≡ some x) → Exactly r tests conditions x answer
exactly {x = x} j d = record { defined = d; cause = Iff.trans d (j.refuses x) }

read-iff : (r : Reading) (x : Refusal) → (read_as r ≡ Err x) ↔ (r ≡ refused x)
read-iff (accepted b) x = (λ e. zero_one (cc), λ e. zero_one (cc))
read-iff (refused y) x = (λ e. let same : y ≡ x = cc in ap refused same, λ e. let same : y ≡ x = cc in ap Err same)

-- What the check finds in a walk is no refusal.
pub check_finds : (F : List (List ℕ)) (w : List ℕ) (k e : ℕ) → ClearOrOccurs (Ok (check_from F w k e))
unfolding check_from
check_finds F w zero e = inl refl
check_finds F w (suc k) e = named (named_at F w e) (check_finds F w k (suc e))
  where
    named : (o : Option ℕ) → ClearOrOccurs (Ok (check_from F w k (suc e))) → ClearOrOccurs (Ok (answer_at e o (check_from F w k (suc e))))
    named none rest = rest
    named (some n) rest = inr (e - n, n, refl)

check-iff : (o : Option Refusal) (c : Prelude.Option Occurrence) (x : Refusal) → (checked_unless o c ≡ Err x) ↔ (o ≡ some x)
check-iff none c x = (λ e. zero_one (cc), λ e. absurd (none-ne-some _ e))
check-iff (some y) c x = (λ e. let same : y ≡ x = cc in ap some same, λ e. let same : y ≡ x = cc in ap Err same)

bind-tells : (o : Option Refusal) (F : List (List ℕ)) (area : List ℕ) (x : Refusal) → Tells o x (bound_as (bound_unless o F) ≡ Err x) (area_after (bound_unless o F) area ≡ area)
bind-tells none F area x = record { defined = (λ e. zero_one (cc), λ e. absurd (none-ne-some _ e)); keeps = λ e. zero_one (cc) }
bind-tells (some y) F area x =
    record { defined = (λ e. let same : y ≡ x = cc in ap some same, λ e. let same : y ≡ x = cc in ap Err same); keeps = λ e. refl }

plan-tells : (o : Option Refusal) (g : Graph) (F : List (List ℕ)) (start end : ℕ) (old : List ℕ) (r : Outcome) (new : List ℕ) (x : Refusal)
    → Planned o g F start end old r new → Tells o x (r ≡ Err x) (new ≡ old)
plan-tells (some y) g F start end old r new x p =
    record { defined = (λ e. let same : y ≡ x = cc p.0 in ap some same, λ e. let same : y ≡ x = cc in p.0 ∙ ap Err same); keeps = λ _. p.1 }
plan-tells none g F start end old (Ok (Some found)) new x p =
    record { defined = (λ e. zero_one (cc), λ e. absurd (none-ne-some _ e)); keeps = λ e. zero_one (cc) }
plan-tells none g F start end old (Ok None) new x p =
    record { defined = (λ e. zero_one (cc), λ e. absurd (none-ne-some _ e)); keeps = λ _. p.1 }
plan-tells none g F start end old (Err y) new x p = absurd p

reach-tells : (o : Option Refusal) (g : Graph) (F : List (List ℕ)) (start : ℕ) (old : List ℕ) (x : Refusal) → Tells o x (answer_by o g ≡ Err x) (table_by o g F start old ≡ old)
reach-tells none g F start old x = record { defined = (λ e. zero_one (cc), λ e. absurd (none-ne-some _ e)); keeps = λ e. zero_one (cc) }
reach-tells (some y) g F start old x =
    record { defined = (λ e. let same : y ≡ x = cc in ap some same, λ e. let same : y ≡ x = cc in ap Err same); keeps = λ e. refl }

begin-tells : (o : Option Refusal) (σ : State) (paths walk : List ℕ) (x : Refusal)
    → Tells o x ((begun_as o σ paths walk).answer ≡ Err x) (begun_as o σ paths walk ≡ answering (Err x) paths walk)
begin-tells none σ paths walk x = record { defined = (λ e. zero_one (cc), λ e. absurd (none-ne-some _ e)); keeps = λ e. zero_one (cc) }
begin-tells (some y) σ paths walk x =
    record {
      defined = (λ e. let same : y ≡ x = cc in ap some same, λ e. let same : y ≡ x = cc in ap Err same);
      keeps = λ e. let same : y ≡ x = cc in ap (λ z. answering (Err z) paths walk) same;
    }

write-tells : (o : Option Refusal) (b : Book) (old : List ℕ) (x : Refusal) → Tells o x (length_by o b ≡ Err x) (area_by o b old ≡ old)
write-tells none b old x = record { defined = (λ e. zero_one (cc), λ e. absurd (none-ne-some _ e)); keeps = λ e. zero_one (cc) }
write-tells (some y) b old x =
    record { defined = (λ e. let same : y ≡ x = cc in ap some same, λ e. let same : y ≡ x = cc in ap Err same); keeps = λ e. refl }

pub report-tells : (o : Option Refusal) (σ : State) (q : Record) (paths walk : List ℕ) (x : Refusal)
    → Tells o x ((q' : Record) × ((reported_as o σ q paths walk).answer ≡ Err (rejected x q'))) (reported_as o σ q paths walk ≡ answering (Err (rejected x q)) paths walk)
report-tells none σ q paths walk x =
    record { defined = (λ h. let e = h.1 in zero_one (cc e), λ e. absurd (none-ne-some _ e)); keeps = λ h. let e = h.1 in zero_one (cc e) }
report-tells (some y) σ q paths walk x =
    record {
      defined = (λ h. ap some (rejected-for y x q h.0 h.1), λ e. let same : y ≡ x = cc in (q, ap (λ z. Err (rejected z q)) same));
      keeps = λ h. ap (λ z. answering (Err (rejected z q)) paths walk) (rejected-for y x q h.0 h.1);
    }

-- Demand 1, of refusals.
pub refusals : (s : List ℕ) (x : Refusal) → Refusals s x
refusals s x =
    record {
      read = read-iff (reading s) x;
      read-cause = bad_book s x;
      list_cause = λ n xs. bad_list n xs x;
      content_cause = λ n arcs sets. bad_content n arcs sets x;
      bind = λ batch area. exactly ((conditions (reading s)).bind batch area) (tells-bind batch area).defined;
      check = λ area count w.
          exactly ((conditions (reading s)).check area count w) (check-iff (refusal_of (reading s) (check_tests area count w)) (occurrence (spelled count area) w) x);
      plan = λ paths count start end old r new p.
          exactly ((conditions (reading s)).plan paths count start end old) (tells-plan (reading s) paths count start end old r new p).defined;
      plan_list = λ n xs paths count start end old r new p.
          exactly ((conditions (listing n xs)).plan paths count start end old) (tells-plan (listing n xs) paths count start end old r new p).defined;
      reach = λ paths count start table. exactly ((conditions (reading s)).reach paths count start table) (tells-reach paths count start table).defined;
      begin = λ batch start end paths walk.
          exactly ((conditions (reading s)).begin batch start end paths walk) (begin-tells (refusal_of (reading s) (tests_of_begin batch start end paths walk)) (first batch start end paths walk) paths walk x).defined;
      replay = λ batch start end reports paths walk.
          exactly ((conditions (reading s)).begin batch start end paths walk)
          (begin-tells (refusal_of (reading s) (tests_of_begin batch start end paths walk)) (last batch start end reports paths walk) paths walk x).defined;
      report = λ q paths walk ρ. exactly ((conditions (reading s)).report q paths walk ρ) (tells-report q paths walk ρ).defined;
      write = λ n arcs sets area. exactly ((conditions (content n arcs sets)).write area) (tells-write (content n arcs sets) area).defined;
      bind-keeps = λ batch area. (tells-bind batch area).keeps;
      plan-keeps = λ paths count start end old r new p. (tells-plan (reading s) paths count start end old r new p).keeps;
      plan_list_keeps = λ n xs paths count start end old r new p. (tells-plan (listing n xs) paths count start end old r new p).keeps;
      reach-keeps = λ paths count start table. (tells-reach paths count start table).keeps;
      begin-keeps = λ batch start end paths walk.
          (begin-tells (refusal_of (reading s) (tests_of_begin batch start end paths walk)) (first batch start end paths walk) paths walk x).keeps;
      replay-keeps = λ batch start end reports paths walk.
          (begin-tells (refusal_of (reading s) (tests_of_begin batch start end paths walk)) (last batch start end reports paths walk) paths walk x).keeps;
      report-keeps = λ q paths walk ρ. (tells-report q paths walk ρ).keeps;
      write-keeps = λ n arcs sets area. (tells-write (content n arcs sets) area).keeps;
    }
  where
    g : Graph
    g = graph (book_in (reading s))

    first : (batch : Batch) (start end : ℕ) (paths walk : List ℕ) → State
    first batch start end paths walk = first_state (book_in (reading s)) batch start end paths walk

    last : (batch : Batch) (start end : ℕ) (reports paths walk : List ℕ) → State
    last batch start end reports paths walk = run g (chosen g) (first batch start end paths walk) (reports_of reports)

    tells-bind : (batch : Batch) (area : List ℕ)
        → Tells (refusal_of (reading s) (bind_tests batch area)) x (bound_as (binding s batch area) ≡ Err x) (area_after (binding s batch area) area ≡ area)
    tells-bind batch area = bind-tells (refusal_of (reading s) (bind_tests batch area)) (known batch (book_in (reading s)).sets) area x

    tells-plan : (y : Reading) (paths : List ℕ) (count start end : ℕ) (old : List ℕ) (r : Outcome) (new : List ℕ) → PlanningOf y paths count start end old r new
        → Tells (refusal_of y (plan_tests paths count start end old)) x (r ≡ Err x) (new ≡ old)
    tells-plan y paths count start end old r new p =
        plan-tells (refusal_of y (plan_tests paths count start end old)) (graph (book_in y)) (spelled count paths) start end old r new x p

    tells-reach : (paths : List ℕ) (count start : ℕ) (table : List ℕ)
        → Tells (refusal_of (reading s) (reach_tests paths count start table)) x (reached (reading s) paths count start table ≡ Err x) (table_after (reading s) paths count start table ≡ table)
    tells-reach paths count start table = reach-tells (refusal_of (reading s) (reach_tests paths count start table)) g (spelled count paths) start table x

    tells-report : (q : Record) (paths walk : List ℕ) (ρ : Report)
        → Tells (refusal_of (reading s) (report_tests q paths walk ρ)) x ((q' : Record) × ((reporting s q paths walk ρ).answer ≡ Err (rejected x q')))
        (reporting s q paths walk ρ ≡ answering (Err (rejected x q)) paths walk)
    tells-report q paths walk ρ = report-tells (refusal_of (reading s) (report_tests q paths walk ρ)) (step g (chosen g) (state_of q paths walk) ρ) q paths walk x

    tells-write : (y : Reading) (area : List ℕ) → Tells (refusal_of y (write_tests area)) x (length_written y area ≡ Err x) (written_after y area ≡ area)
    tells-write y area = write-tells (refusal_of y (write_tests area)) (book_in y) area x
