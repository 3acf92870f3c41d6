-- What the search finds, as the record and the line-up area hold it.
use Rattle.std.specs.Prelude.{ℕ, ◌≤◌, ◌<◌, ◌≡◌, refl, List, length, Some, None}
use Rattle.std.proofs.Common.{sym, ap₂, subst, arith}
use Rattle.std.proofs.Math.Option.{Option, none, some}
use Rattle.lists.specs.Test.{T→true, true→T}
use Rattle.walks.specs.Graph.{Graph}
use Rattle.walks.proofs.Walk.{hops-length}
use Rattle.states.specs.Chosen.{Decided, chosen}
use Rattle.states.proofs.Chosen.{chosen_is}
use Rattle.book.specs.Book.{Book, WellFormed, graph}
use Rattle.book.proofs.BookLaws.{is_path→IsPath}
use Rattle.rules.specs.Binding.{known}
use Rattle.rules.proofs.BindingLaws.{known-few, known-paths, known-once}
use Rattle.rules.specs.declared.Batch.{Batch}
use Rattle.routes.specs.Plan.{Searched}
use Rattle.limits.specs.Limits.{longest}
use Rattle.trial_record.specs.declared.Record.{Record}
use Rattle.trial_rules.specs.Trials.{ForbiddenSet, Plan, Planner, Begin, begin_refusal, stage_of, litres_of, length_of, overlaid}
use Rattle.trial_record.specs.Steps.{Found, with_plan, replanned, Recordable}
use Rattle.trial_rules.proofs.Tests.{once→Distinct, forbidden-set}
use Rattle.trial_rules.proofs.Plans.{plan-best, plan-none}

-- The chosen walk is a planner's answer, in every book that is read.
pub chosen-planner : (b : Book) → WellFormed b → Planner (graph b) (chosen (graph b))
chosen-planner b w =
    record {
      plans = λ F s t set start end. chosen_is (graph b) F s t w.few-vertices set.few (λ r m. (is_path→IsPath b.count r (T→true _ (set.taken r m))).eight);
    }

-- The known paths of a batch are a forbidden set.
pub known-set : (batch : Batch) (b : Book) → WellFormed b → ForbiddenSet b.count (known batch b.sets)
known-set batch b w =
    forbidden-set b.count (known batch b.sets) (known-few batch b w) (once→Distinct _ (true→T _ (known-once batch b w))) (known-paths batch b w)

-- The trials that an accepted begin opens in a book that is read.
abbrev pub trials_of : (b : Book) → WellFormed b → (batch : Batch) (start end : ℕ) (paths walk : List ℕ) → begin_refusal batch (graph b) start end paths walk ≡ none → Begin
trials_of b w batch start end paths walk e =
    record {
      batch = batch;
      graph = graph b;
      plan = chosen (graph b);
      planner = chosen-planner b w;
      bound = known batch b.sets;
      bound-set = known-set batch b w;
      start = start;
      end = end;
      paths = paths;
      area = walk;
      not-refused = e;
    }

-- The record with a plan p, or with none.
abbrev pub with_answer : Graph → Record → Option (List ℕ) → Record
with_answer g r p = with_plan r (stage_of p) (litres_of g p) (length_of p)

pub record Held (g : Graph) (p : Option (List ℕ)) (f : Found) (old new : List ℕ) : Type 0 where
  pub rec-is : (r : Record) → replanned r f ≡ with_answer g r p
  pub area-is : new ≡ overlaid p old
  pub short : Recordable f

module _
    {g : Graph} {plan : Plan} (planner : Planner g plan) {F : List (List ℕ)} {s t : ℕ}
    (set : ForbiddenSet g.count F) (start : s < g.count) (end : t < g.count)
    {old new : List ℕ}
  where
    -- What is found is the planner's plan.
    pub held : (f : Found) → Searched g F s t old f new → Held g (plan F s t) f old new
    held (Some found) p =
        let is : plan F s t ≡ some p.walk = plan-best planner set start end p.best in
        let short : length p.walk ≤ longest = (subst (Decided g F s t) is (planner.plans F s t set start end)).1 in
        let size = hops-length p.walk p.best.feasible.walk in
        subst (λ q. Held g q (Some found) old new) (sym is)
        (record {
          rec-is = λ r. ap₂ (with_plan r 0) p.weight_is (omega (arith, p.hops-is));
          area-is = p.area-is;
          short = omega (arith, p.hops-is);
        })
    held None p =
        subst (λ q. Held g q None old new) (sym (plan-none planner set start end p.0))
        (record { rec-is = λ r. refl; area-is = p.1; short = tt })
