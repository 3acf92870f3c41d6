-- Demand 1, proved: what is answered where nothing is refused.
use Rattle.std.specs.Prelude.{ℕ, ◌≤◌, ◌<◌, ◌≡◌, refl, List, [], ◌++◌, length, drop, Some, None, Ok, Err}
use Rattle.planner.specs.Planning.{walked, Answer as Outcome}
use Rattle.std.proofs.Common.{sym, ap, subst, ◌∙◌, inl, inr, arith}
use Rattle.std.proofs.Math.Option.{Option, none, some, none-ne-some}
use Rattle.std.proofs.lemmas.List.{length-map}
use Rattle.limits.specs.Limits.{most_vertices, area_size, longest}
use Rattle.dates.specs.Calendar.{IsDate}
use Rattle.walks.specs.Graph.{Graph}
use Rattle.walks.specs.Walk.{weight_of, hops}
use Rattle.states.specs.Chosen.{Decided, chosen}
use Rattle.states.proofs.Chosen.{chosen_is}
use Rattle.book.specs.declared.Refusal.{Refusal}
use Rattle.book.specs.Refusal.{refusal_by}
use Rattle.book.specs.Book.{Book, graph}
use Rattle.book.proofs.BookLaws.{reading-is-book}
use Rattle.book.specs.Reading.{Reading, accepted, reading, read_as, refusal_of, book_in}
use Rattle.rules.specs.Binding.{known}
use Rattle.rules.specs.Area.{blocks, spelled}
use Rattle.rules.proofs.AreaLaws.{length-blocks}
use Rattle.rules.specs.ValidLaws.{Valid}
use Rattle.rules.proofs.ValidLaws.{valid→Valid}
use Rattle.rules.specs.Operations.{Binding, bound_unless, bind_tests, bound_as, binding_of, binding, area_after}
use Rattle.rules.proofs.Laws.{bind-accepted}
use Rattle.rules.specs.declared.Batch.{Batch}
use Rattle.walk_check.proofs.Laws.{sizes}
use Rattle.walk_check.specs.Checking.{checked_unless, occurrence, check_tests, checking}
use Rattle.planner.specs.Planning.{plan_tests, Planned, PlanningOf}
use Rattle.listed.specs.Listing.{listing}
use Rattle.listed.specs.SameBook.{arcs_of}
use Rattle.listed.proofs.SameBook.{listed-book}
use Rattle.trial_record.specs.declared.Record.{Record}
use Rattle.trial_rules.specs.Trials.{State, run}
use Rattle.trials.specs.Operations.{begun_as, first_state}
use Rattle.series.specs.Reports.{reports_of}
use Rattle.demands.specs.Demands.{ClearOrOccurs, tests_of_begin, WalkOrNone, GetsPlan, Answers}
use Rattle.demands.proofs.RefusalLaws.{check_finds}
use Rattle.demands.specs.Conditions.{AllHold}
use Rattle.demands.proofs.Conditions.{zero_one}
use Rattle.demands.specs.Asked.{plan_conditions, check_conditions}
use Rattle.demands.proofs.Asked.{conditions}

-- ---- planning
-- Where nothing is refused, the best walk or its absence is an answer, and there is no other kind.
module _ (g : Graph) (F : List (List ℕ)) (start end : ℕ) (old : List ℕ) where
  pub unrefused-answer : (r : Outcome) (new : List ℕ) → Planned none g F start end old r new → WalkOrNone r
  unrefused-answer (Ok (Some found)) new p = inl (found.weight, found.hops, refl)
  unrefused-answer (Ok None) new p = inr refl
  unrefused-answer (Err x) new p = absurd p

  an_answer : (o : Option (List ℕ)) → Decided g F start end o → (r : Outcome) × (new : List ℕ) × Planned none g F start end old r new
  an_answer none n = (Ok None, old, (n, refl))
  an_answer (some w) (best, short) =
      (walked (weight_of g w) (hops w), w ++ drop (length w) old, record { walk = w; best = best; weight_is = refl; hops-is = refl; area-is = refl })

pub plan_gets : (x : Reading) (paths : List ℕ) (count start end : ℕ) (walk : List ℕ) (b : Book) → x ≡ accepted b → b.count ≤ most_vertices → AllHold (plan_conditions paths count start end walk b)
    → GetsPlan (PlanningOf x paths count start end walk)
plan_gets x paths count start end walk b read few h =
    let none-refused : refusal_of x (plan_tests paths count start end walk) ≡ none = ((conditions x).plan paths count start end walk).accepts.1 (b, read, h) in
    let runs = h.1.1.1.1.0 in
    let F = spelled count paths in
    let size : length F ≡ count = length-map (blocks count paths) _ ∙ length-blocks count paths in
    let g = graph (book_in x) in
    let few-in : g.count ≤ most_vertices = subst (λ y. (book_in y).count ≤ most_vertices) (sym read) few in
    let decided = chosen_is g F start end few-in (omega (arith, size, runs.few)) (λ r m. (sizes b.count F runs.paths r m).1) in
    let (r, new, p) = an_answer g F start end walk (chosen g F start end) decided in
    record {
      answered = (r, new, subst (λ o. Planned o g F start end walk r new) (sym none-refused) p);
      each = λ r new p. unrefused-answer g F start end walk r new (subst (λ o. Planned o g F start end walk r new) none-refused p);
    }

-- ---- the other operations
check_gets : (s area : List ℕ) (count : ℕ) (w : List ℕ) (b : Book) → reading s ≡ accepted b → AllHold (check_conditions area count w b) → ClearOrOccurs (checking s area count w)
check_gets s area count w b read h =
    let none-refused : refusal_of (reading s) (check_tests area count w) ≡ none = ((conditions (reading s)).check area count w).accepts.1 (b, read, h) in
    subst (λ o. ClearOrOccurs (checked_unless o (occurrence (spelled count area) w))) (sym none-refused) (check_finds (spelled count area) w (length w) 1)

begun_gets : (o : Option Refusal) (σ : State) (paths walk : List ℕ) → o ≡ none → (r : Record) × ((begun_as o σ paths walk).answer ≡ Ok r)
begun_gets none σ paths walk e = (σ.rec, refl)
begun_gets (some x) σ paths walk e = absurd (none-ne-some x (sym e))

-- ---- an accepted book
-- A batch that binds has a date.
pub dated : (s : List ℕ) (batch : Batch) (area : List ℕ) (n : ℕ) → bound_as (binding s batch area) ≡ Ok n → IsDate batch.date
dated s batch area n is = (((conditions (reading s)).bind batch area).accepts.0 (unrefused (refusal_of (reading s) (bind_tests batch area)) is)).2.1.0
  where
    unrefused : (o : Option Refusal) → bound_as (bound_unless o (known batch (book_in (reading s)).sets)) ≡ Ok n → o ≡ none
    unrefused none e = refl
    unrefused (some x) e = zero_one (cc)

-- What binding gives is the known paths, and its area is valid.
module _ (s : List ℕ) (b : Book) (read : reading s ≡ accepted b) (batch : Batch) (area : List ℕ) where
  pub binds : area_size ≤ length area → IsDate batch.date → binding s batch area ≡ Binding.bound (known batch b.sets)
  binds fits date =
      let none-refused : refusal_by (bind_tests batch area b) ≡ none = ((conditions (accepted b)).bind batch area).accepts.1 (b, refl, (fits, (date, tt))) in
      ap (λ x. binding_of x batch area) read ∙ ap (λ o. bound_unless o (known batch b.sets)) none-refused

  pub binds-valid : area_size ≤ length area → IsDate batch.date
      → (area_size ≤ length (area_after (binding s batch area) area)) × Valid b.count (area_after (binding s batch area) area) (length (known batch b.sets))
  binds-valid fits date =
      let f = bind-accepted s batch area (known batch b.sets) (binds fits date) in
      let b-is : f.book ≡ b = ap book_in (sym f.read ∙ read) in
      (f.long, subst (λ (x : Book). Valid x.count (area_after (binding s batch area) area) (length (known batch b.sets))) b-is (valid→Valid _ _ _ f.validity))

-- Demand 1, of an accepted book.
pub answers : (s : List ℕ) (b : Book) → reading s ≡ accepted b → (batch : Batch) → IsDate batch.date → (start end : ℕ) → start < b.count → end < b.count
    → (paths walk : List ℕ) → area_size ≤ length paths → longest ≤ length walk → Answers s b batch start end paths walk
answers s b read batch date start end start-below end_Below paths walk runs-area walk-area =
    let few = (reading-is-book s b read).well_formed.few-vertices in
    let after = area_after (binding s batch paths) paths in
    let n = length (known batch b.sets) in
    let (long, runs) = binds-valid s b read batch paths runs-area date in
    let none-refused = ((conditions (reading s)).begin batch start end paths walk).accepts.1 (b, read, (runs-area, (walk-area, (start-below, (end_Below, (date, tt)))))) in
    record {
      read = ap read_as read;
      bound = ap bound_as (binds s b read batch paths runs-area date);
      planned =
          plan_gets (reading s) after n start end walk b read few
          (long, (walk-area, (start-below, (end_Below, (runs, tt)))));
      planned_list = λ k xs k-is same.
          plan_gets (listing k xs) after n start end walk (record { count = b.count; arcs = arcs_of xs; sets = [] }) (ap (λ m. listing m xs) k-is ∙ listed-book s b read xs same) few
          (long, (walk-area, (start-below, (end_Below, (runs, tt)))));
      checked = λ w short is. check_gets s after n w b read (long, (runs, ((short, is), tt)));
      begun = begun_gets (refusal_of (reading s) (tests_of_begin batch start end paths walk)) (first_state (book_in (reading s)) batch start end paths walk) paths walk none-refused;
      replayed = λ reports. begun_gets (refusal_of (reading s) (tests_of_begin batch start end paths walk)) (replayed-state reports) paths walk none-refused;
      planned-under = λ count runs.
          plan_gets (reading s) paths count start end walk b read few
          (runs-area, (walk-area, (start-below, (end_Below, (runs, tt)))));
      checked_under = λ count runs w short is. check_gets s paths count w b read (runs-area, (runs, ((short, is), tt)));
    }
  where
    replayed-state : List ℕ → State
    replayed-state reports =
        let g = graph (book_in (reading s)) in
        run g (chosen g) (first_state (book_in (reading s)) batch start end paths walk) (reports_of reports)
