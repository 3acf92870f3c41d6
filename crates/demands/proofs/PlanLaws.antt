-- Demand 2, proved: a plan is the shortest of the line-ups that are allowed.
use Rattle.std.specs.Prelude.{ℕ, suc, ◌≤◌, ◌<◌, ◌≡◌, refl, List, length, take, drop, Some, None, Ok, Err}
use Rattle.planner.specs.Planning.{Answer as Outcome}
use Rattle.std.proofs.Common.{sym, ap, subst, subst₂, ◌∙◌, inl, inr, arith, length-append, length-drop, take_at, drop_at}
use Rattle.std.proofs.Math.Option.{none}
use Rattle.limits.specs.Limits.{area_size, longest}
use Rattle.dates.specs.Calendar.{IsDate}
use Rattle.walks.specs.Graph.{Graph}
use Rattle.walks.specs.Walk.{weight_of, hops}
use Rattle.walks.proofs.Walk.{hops-length}
use Rattle.walks.specs.Avoid.{Avoids}
use Rattle.walks.specs.Order.{Lex, ◌≼⟨◌⟩◌}
use Rattle.walks.proofs.Order.{≼-weight}
use Rattle.walks.specs.Best.{Feasible}
use Rattle.states.specs.Chosen.{Decided}
use Rattle.book.specs.Refusal.{refusal_by}
use Rattle.book.specs.Book.{Book, WellFormed, graph}
use Rattle.book.proofs.BookLaws.{reading-is-book}
use Rattle.book.specs.Reading.{accepted, reading, refusal_of, book_in}
use Rattle.rules.specs.Binding.{known}
use Rattle.rules.specs.Area.{spelled}
use Rattle.rules.specs.Operations.{bound_as, binding, area_after}
use Rattle.rules.proofs.Laws.{bind-accepted}
use Rattle.rules.specs.declared.Batch.{Batch}
use Rattle.routes.specs.Plan.{PlannedWalk}
use Rattle.planner.specs.Planning.{plan_tests, Planned, PlanningOf, Planning}
use Rattle.planner.proofs.RuleSets.{planned-same}
use Rattle.listed.proofs.SameBook.{from-book}
use Rattle.trial_rules.proofs.Plans.{plan-best}
use Rattle.trials.specs.Replanning.{chosen-planner, known-set}
use Rattle.demands.specs.Marks.{Clear}
use Rattle.demands.proofs.Marks.{needs_nothing, known→sheet, sheet→known}
use Rattle.demands.proofs.Conditions.{zero_one}
use Rattle.demands.proofs.Asked.{conditions}
use Rattle.demands.specs.Demands.{Allowed, Shortest, Plans, BatchPlans}
use Rattle.demands.proofs.AnswerLaws.{dated, binds, binds-valid, answers}

-- ---- the known paths are those of the sheets that bind
module _ (b : Book) (batch : Batch) where
  avoids→clear : (w : List ℕ) → Avoids (known batch b.sets) w → Clear b batch w
  avoids→clear w a r o = a r (sheet→known b batch o)

  clear→avoids : (w : List ℕ) → Clear b batch w → Avoids (known batch b.sets) w
  clear→avoids w c r m = c r (known→sheet b batch m)

  module _ (start end : ℕ) (w : List ℕ) where
    pub feasible→allowed : Feasible (graph b) (known batch b.sets) start end w → Allowed b batch start end w
    feasible→allowed f = record { walk = f.walk; starts = f.starts; ends = f.ends; clear = avoids→clear w f.clear }

    pub allowed→feasible : Allowed b batch start end w → Feasible (graph b) (known batch b.sets) start end w
    allowed→feasible f = record { walk = f.walk; starts = f.starts; ends = f.ends; clear = clear→avoids w f.clear }

-- ---- ties
tie-hops : (g : Graph) (v w : List ℕ) → v ≼⟨ g ⟩ w → weight_of g w ≡ weight_of g v → hops v ≤ hops w
tie-hops g v w (inl p) e = absurd (omega arith)
tie-hops g v w (inr (same, inl p)) e = omega arith
tie-hops g v w (inr (same, inr p)) e = omega arith

tie-first : (g : Graph) (v w : List ℕ) → v ≼⟨ g ⟩ w → weight_of g w ≡ weight_of g v → hops w ≡ hops v → Lex v w
tie-first g v w (inl p) e h = absurd (omega arith)
tie-first g v w (inr (same, inl p)) e h = absurd (omega arith)
tie-first g v w (inr (same, inr p)) e h = p.1

-- ---- a plan under the known paths
module _ (b : Book) (well : WellFormed b) (batch : Batch) (start end : ℕ) (start-below : start < b.count) (end_Below : end < b.count) (old : List ℕ) (long : longest ≤ length old) where
  abbrev F : List (List ℕ)
  F = known batch b.sets

  module _ (litres changeovers : ℕ) (new : List ℕ) (p : PlannedWalk (graph b) F start end old litres changeovers new) where
    size : suc changeovers ≡ length p.walk
    size = omega (arith, p.hops-is, hops-length p.walk p.best.feasible.walk)

    front : take (suc changeovers) new ≡ p.walk
    front = ap (take (suc changeovers)) p.area-is ∙ take_at p.walk (drop (length p.walk) old) (suc changeovers) (sym size)

    short-walk : length p.walk ≤ longest
    short-walk =
        let planner = chosen-planner b well in
        let set = known-set batch b well in
        (subst (Decided (graph b) F start end) (plan-best planner set start-below end_Below p.best) (planner.plans F start end set start-below end_Below)).1

    before : (v : List ℕ) → Allowed b batch start end v → p.walk ≼⟨ graph b ⟩ v
    before v a = p.best.least v (allowed→feasible b batch start end v a)

    is-shortest : Shortest b batch start end old litres changeovers new
    is-shortest =
        record {
          allowed = subst (Allowed b batch start end) (sym front) (feasible→allowed b batch start end p.walk p.best.feasible);
          litres_are = p.weight_is ∙ ap (weight_of (graph b)) (sym front);
          changeovers_are = p.hops-is ∙ ap hops (sym front);
          least = λ v a. omega (arith, p.weight_is, ≼-weight (graph b) p.walk v (before v a));
          fewest = λ v a e. omega (arith, p.hops-is, tie-hops (graph b) p.walk v (before v a) (e ∙ p.weight_is));
          lowest = λ v a e h. subst (λ w. Lex w v) (sym front) (tie-first (graph b) p.walk v (before v a) (e ∙ p.weight_is) (h ∙ p.hops-is));
          ordered = λ v a. subst (λ w. w ≼⟨ graph b ⟩ v) (sym front) (before v a);
          short = subst (λ w. length w ≤ longest) (sym front) short-walk;
          untouched =
              ap (drop (suc changeovers)) p.area-is
              ∙ drop_at p.walk (drop (length p.walk) old) (suc changeovers) (sym size)
              ∙ ap (λ k. drop k old) (sym size);
          same_length =
              let joined = ap length p.area-is ∙ length-append p.walk (drop (length p.walk) old) in
              omega (arith, joined, length-drop (length p.walk) old, short-walk);
        }

  known-plans : (r : Outcome) (new : List ℕ) → Planned none (graph b) F start end old r new → Plans b batch start end old r new
  known-plans (Ok (Some found)) new p =
      record {
        answer = inl (found.weight, found.hops, refl);
        shortest = λ litres changeovers e.
            let same-weight : found.weight ≡ litres = cc in
            let same-hops : found.hops ≡ changeovers = cc in
            subst₂ (λ n k. Shortest b batch start end old n k new) same-weight same-hops (is-shortest found.weight found.hops new p);
        none-exactly = (λ e. zero_one (cc), λ no_Walk. absurd (no_Walk p.walk (feasible→allowed b batch start end p.walk p.best.feasible)));
        none-untouched = λ e. zero_one (cc);
      }
  known-plans (Ok None) new p =
      record {
        answer = inr refl;
        shortest = λ litres changeovers e. zero_one (cc);
        none-exactly = (λ e v a. p.0 v (allowed→feasible b batch start end v a), λ _. refl);
        none-untouched = λ _. p.1;
      }
  known-plans (Err x) new p = absurd p

-- ---- the theorem
-- The count that binding answers is that of the known paths.
module _ (s : List ℕ) (b : Book) (read : reading s ≡ accepted b) (batch : Batch) (area : List ℕ) (fits : area_size ≤ length area) where
  pub count-is : (n : ℕ) → bound_as (binding s batch area) ≡ Ok n → n ≡ length (known batch b.sets)
  count-is n answer = let both : Ok n ≡ Ok (length (known batch b.sets)) = sym answer ∙ ap bound_as (binds s b read batch area fits (dated s batch area n answer)) in cc

-- Planning, refused or not, has one answer and one set of bytes.
pub one-plan : (s paths : List ℕ) (count start end : ℕ) (old : List ℕ) (r r' : Outcome) (new new' : List ℕ)
    → Planning s paths count start end old r new → Planning s paths count start end old r' new' → (r ≡ r') × (new ≡ new')
one-plan s paths count start end old r r' new new' p p' =
    let F = spelled count paths in
    planned-same (refusal_of (reading s) (plan_tests paths count start end old)) (graph (book_in (reading s))) F F (λ _ _ a. a) (λ _ _ a. a) start end old r r' new new' p p'

pub batch-plans : (s : List ℕ) (b : Book) → reading s ≡ accepted b → (batch : Batch) (area : List ℕ) → area_size ≤ length area
    → (n : ℕ) → bound_as (binding s batch area) ≡ Ok n → (start end : ℕ) → start < b.count → end < b.count → (old : List ℕ) → longest ≤ length old
    → BatchPlans s b batch area n start end old
batch-plans s b read batch area fits n answer start end start-below end_Below old long =
    let after = area_after (binding s batch area) area in
    let date = dated s batch area n answer in
    let n-is : length (known batch b.sets) ≡ n = sym (count-is s b read batch area fits n answer) in
    subst (λ m. BatchPlans s b batch area m start end old) n-is
    (record {
      answered = (answers s b read batch date start end start-below end_Below area old fits long).planned.answered;
      one = one-plan s after (length (known batch b.sets)) start end old;
      plans = under-known date;
      plans_list = λ k xs k-is same r new p. under-known date r new (from-book s b read k xs k-is same after (length (known batch b.sets)) start end old r new p);
      needs_0 = λ set e w. needs_nothing set e w batch;
    })
  where
    under-known : IsDate batch.date → (r : Outcome) (new : List ℕ) → Planning s (area_after (binding s batch area) area) (length (known batch b.sets)) start end old r new
        → Plans b batch start end old r new
    under-known date r new p =
        let well = (reading-is-book s b read).well_formed in
        let F = known batch b.sets in
        let after = area_after (binding s batch area) area in
        let (long_after, runs) = binds-valid s b read batch area fits date in
        let spells : spelled (length F) after ≡ F = (bind-accepted s batch area F (binds s b read batch area fits date)).spells in
        let none-refused : refusal_by (plan_tests after (length F) start end old b) ≡ none =
        ((conditions (accepted b)).plan after (length F) start end old).accepts.1 (b, refl, (long_after, (long, (start-below, (end_Below, (runs, tt)))))) in
        known-plans b well batch start end start-below end_Below old long r new
        (subst (λ G. Planned none (graph b) G start end old r new) spells
        (subst (λ o. Planned o (graph b) (spelled (length F) after) start end old r new) none-refused
        (subst (λ x. PlanningOf x after (length F) start end old r new) read p)))
