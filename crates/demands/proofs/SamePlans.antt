-- Two books whose known paths leave the same walks, for every batch, have equal plans and tables of ends.
use Rattle.planner.specs.Planning.{Answer as Outcome}
use Rattle.std.specs.Prelude.{ℕ, zero, suc, ◌*◌, ◌≤◌, ◌≡◌, refl, true, List, [], ◌∷◌, ◌++◌, leb, ltb, length, drop, Ok}
use Rattle.std.proofs.Common.{sym, ap, ap₂, subst, ◌∙◌, le-leb}
use Rattle.std.proofs.Math.Option.{Option, none, some}
use Rattle.limits.specs.Limits.{most_vertices, area_size}
use Rattle.walks.specs.Graph.{Graph, from_arcs}
use Rattle.walks.specs.Best.{NoStricter}
use Rattle.walks.proofs.Best.{Best-unique, Best-not-None, Best-same}
use Rattle.states.specs.Chosen.{Decided, chosen}
use Rattle.states.proofs.Chosen.{chosen_is}
use Rattle.book.specs.declared.Refusal.{Refusal}
use Rattle.book.specs.Refusal.{test, refusal_by}
use Rattle.book.specs.Book.{Book, WellFormed, graph}
use Rattle.book.proofs.BookLaws.{reading-is-book}
use Rattle.book.specs.Reading.{accepted, reading, book_in}
use Rattle.rules.specs.Binding.{known}
use Rattle.rules.specs.Area.{spelled, valid}
use Rattle.rules.specs.Operations.{bound_as, binding, area_after}
use Rattle.rules.proofs.Laws.{bind-accepted}
use Rattle.rules.specs.declared.Batch.{Batch}
use Rattle.walk_check.proofs.Laws.{sizes}
use Rattle.planner.specs.Planning.{Planning}
use Rattle.planner.specs.RuleSets.{SameWalks}
use Rattle.planner.proofs.RuleSets.{equal-plans}
use Rattle.ends.specs.Ends.{entry_of, ends}
use Rattle.reach.specs.Reaching.{reach_tests, answer_by, table_by, reached, table_after}
use Rattle.trial_rules.specs.Trials.{ForbiddenSet}
use Rattle.trial_rules.proofs.Tests.{set-paths}
use Rattle.trials.specs.Replanning.{known-set}
use Rattle.demands.proofs.AnswerLaws.{dated, binds}
use Rattle.demands.proofs.PlanLaws.{count-is}
use Rattle.demands.specs.Demands.{SamePlans}

-- ---- the best walk under two lists of paths that leave the same walks
module _ (g : Graph) (F G : List (List ℕ)) (to : NoStricter g F G) (from : NoStricter g G F) (s t : ℕ) where
  one_choice : (p q : Option (List ℕ)) → Decided g F s t p → Decided g G s t q → p ≡ q
  one_choice none none n m = refl
  one_choice none (some w) n (best, _) = absurd (Best-not-None (Best-same from to best) n)
  one_choice (some v) none (best, _) m = absurd (Best-not-None (Best-same to from best) m)
  one_choice (some v) (some w) (best, _) (best', _) = ap some (Best-unique (Best-same to from best) best')

decides : (g : Graph) (F : List (List ℕ)) → g.count ≤ most_vertices → ForbiddenSet g.count F → (s t : ℕ) → Decided g F s t (chosen g F s t)
decides g F few set s t = chosen_is g F s t few set.few (λ r m. (sizes g.count F (set-paths g.count F set) r m).1)

-- ---- the table of ends, under two such lists
ends_same : (g : Graph) (F G : List (List ℕ)) (s n : ℕ) → ((t : ℕ) → chosen g F s t ≡ chosen g G s t) → ends g F s n ≡ ends g G s n
unfolding ends
ends_same g F G s zero same = refl
ends_same g F G s (suc n) same = ap₂ (λ l o. l ++ entry_of g o) (ends_same g F G s n same) (same n)

tables-same : (g : Graph) (F G : List (List ℕ)) (s : ℕ) (old : List ℕ) → ((t : ℕ) → chosen g F s t ≡ chosen g G s t) → (x : Option Refusal)
    → table_by x g F s old ≡ table_by x g G s old
tables-same g F G s old same none = ap (λ l. l ++ drop (2 * g.count) old) (ends_same g F G s g.count same)
tables-same g F G s old same (some x) = refl

-- Under what binding left, only the table's length and the start can be refused.
abbrev left-refusal : ℕ → List ℕ → ℕ → Option Refusal
left-refusal start table count = refusal_by (test 8 (leb (2 * count) (length table)) ∷ test 7 (ltb start count) ∷ [])

module _ (s : List ℕ) (b : Book) (read : reading s ≡ accepted b) (batch : Batch) (area : List ℕ) (fits : area_size ≤ length area) (n : ℕ)
    (is : bound_as (binding s batch area) ≡ Ok n) (start : ℕ) (table : List ℕ) where
  abbrev after : List ℕ
  after = area_after (binding s batch area) area

  reach-known : (reached (reading s) after n start table ≡ answer_by (left-refusal start table b.count) (graph b))
      × (table_after (reading s) after n start table ≡ table_by (left-refusal start table b.count) (graph b) (known batch b.sets) start table)
  reach-known =
      let F = known batch b.sets in
      let f = bind-accepted s batch area F (binds s b read batch area fits (dated s batch area n is)) in
      let n-is : n ≡ length F = count-is s b read batch area fits n is in
      let runs : valid b.count after n ≡ true =
      ap (valid b.count after) n-is ∙ subst (λ (x : Book). valid x.count after (length F) ≡ true) (ap book_in (sym f.read ∙ read)) f.validity in
      let refusal : refusal_by (reach_tests after n start table b) ≡ left-refusal start table b.count = rw (le-leb area_size (length after) f.long, runs) refl in (
        ap (λ x. reached x after n start table) read ∙ ap (λ o. answer_by o (graph b)) refusal,
        ap (λ x. table_after x after n start table) read ∙ ap₂ (λ o G. table_by o (graph b) G start table) refusal (ap (λ k. spelled k after) n-is ∙ f.spells),
      )

-- ---- the theorem
module _ (s s' : List ℕ) (b c : Book) (read : reading s ≡ accepted b) (read' : reading s' ≡ accepted c) (o : SameWalks b c) where
  well : WellFormed b
  well = (reading-is-book s b read).well_formed

  pub same_graph : graph c ≡ graph b
  same_graph = ap₂ from_arcs o.same.counts o.same.arcs

  -- the known paths of c, as those of a book on b's graph
  pub other-set : (batch : Batch) → ForbiddenSet b.count (known batch c.sets)
  other-set batch = subst (λ n. ForbiddenSet n (known batch c.sets)) o.same.counts (known-set batch c (reading-is-book s' c read').well_formed)

  plans : (batch : Batch) (area area' : List ℕ) → area_size ≤ length area → area_size ≤ length area'
      → (n n' : ℕ) → bound_as (binding s batch area) ≡ Ok n → bound_as (binding s' batch area') ≡ Ok n'
      → (start end : ℕ) (old : List ℕ) (r r' : Outcome) (new new' : List ℕ)
      → Planning s (area_after (binding s batch area) area) n start end old r new
      → Planning s' (area_after (binding s' batch area') area') n' start end old r' new'
      → (r ≡ r') × (new ≡ new')
  plans batch area area' fits fits' n n' is is' start end old r r' new new' p p' =
      equal-plans batch start end old s s' b c read read' o area area' (known batch b.sets) (known batch c.sets)
      (binds s b read batch area fits (dated s batch area n is)) (binds s' c read' batch area' fits' (dated s' batch area' n' is')) r r' new new'
      (subst (λ m. Planning s (area_after (binding s batch area) area) m start end old r new) (count-is s b read batch area fits n is) p)
      (subst (λ m. Planning s' (area_after (binding s' batch area') area') m start end old r' new') (count-is s' c read' batch area' fits' n' is') p')

  pub same_choice : (batch : Batch) (start end : ℕ) → chosen (graph b) (known batch b.sets) start end ≡ chosen (graph b) (known batch c.sets) start end
  same_choice batch start end =
      let F = known batch b.sets in
      let G = known batch c.sets in
      let g = graph b in
      one_choice g F G (o.to batch) (o.from batch) start end (chosen g F start end) (chosen g G start end)
      (decides g F well.few-vertices (known-set batch b well) start end) (decides g G well.few-vertices (other-set batch) start end)

  tables : (batch : Batch) (area area' : List ℕ) → area_size ≤ length area → area_size ≤ length area'
      → (n n' : ℕ) → bound_as (binding s batch area) ≡ Ok n → bound_as (binding s' batch area') ≡ Ok n'
      → (start : ℕ) (table : List ℕ)
      → (reached (reading s) (area_after (binding s batch area) area) n start table ≡ reached (reading s') (area_after (binding s' batch area') area') n' start table)
      × (table_after (reading s) (area_after (binding s batch area) area) n start table ≡ table_after (reading s') (area_after (binding s' batch area') area') n' start table)
  tables batch area area' fits fits' n n' is is' start table =
      let F = known batch b.sets in
      let G = known batch c.sets in
      let (answer, numbers) = reach-known s b read batch area fits n is start table in
      let (answer', numbers') = reach-known s' c read' batch area' fits' n' is' start table in (
        answer ∙ sym (answer' ∙ ap₂ (λ k h. answer_by (left-refusal start table k) h) o.same.counts same_graph),
        numbers
            ∙ tables-same (graph b) F G start table (same_choice batch start) (left-refusal start table b.count)
            ∙ sym (numbers' ∙ ap₂ (λ k h. table_by (left-refusal start table k) h G start table) o.same.counts same_graph),
      )

  pub same-plans : SamePlans s s'
  same-plans = record { plans = plans; tables = tables }
