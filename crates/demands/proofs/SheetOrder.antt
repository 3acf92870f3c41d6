-- Demand 2, proved: two books that differ only in the order of their sheets have equal plans, counts of known runs, tables of ends, and trials.
use Rattle.std.specs.Prelude.{ℕ, ◌≤◌, ◌≡◌, refl, List, [], ◌∷◌, ◌++◌, length, drop, Result, Ok}
use Rattle.std.proofs.Common.{sym, ap, ap₂, subst₂, ◌∙◌, arith, le-leb, drop_at}
use Rattle.std.proofs.Math.Option.{Option, none, some}
use Rattle.limits.specs.Limits.{area_size}
use Rattle.lists.specs.Distinct.{distinct-length}
use Rattle.walks.specs.Graph.{Graph}
use Rattle.walks.specs.Avoid.{◌⊆◌}
use Rattle.states.specs.Chosen.{chosen}
use Rattle.book.specs.declared.Refusal.{Refusal}
use Rattle.book.specs.Refusal.{test, refusal_by}
use Rattle.book.specs.Book.{Book, WellFormed, graph}
use Rattle.book.proofs.BookLaws.{reading-is-book}
use Rattle.book.specs.Reading.{accepted, reading}
use Rattle.rules.specs.Binding.{known}
use Rattle.rules.specs.Area.{written, spelled}
use Rattle.rules.specs.Operations.{bound_unless, date_test, bind_tests, bound_as, binding_of, binding}
use Rattle.rules.proofs.Laws.{same_set}
use Rattle.rules.proofs.ValidLaws.{written-length, written-spells}
use Rattle.rules.specs.declared.Batch.{Batch}
use Rattle.planner.specs.RuleSets.{Reordered, SameWalks, reordered_walks}
use Rattle.trial_record.specs.declared.Record.{Record}
use Rattle.trial_rules.specs.Trials.{ForbiddenSet, stage_of, litres_of, length_of, overlaid, begin_tests, begin}
use Rattle.trial_rules.proofs.Tests.{set-paths, set-once}
use Rattle.trials.specs.Operations.{Leaves, begun_as, beginning_of, beginning}
use Rattle.trials.specs.Replanning.{known-set}
use Rattle.demands.proofs.Conditions.{zero_one}
use Rattle.demands.specs.Demands.{SameTrials, SameAnswers}
use Rattle.demands.proofs.SamePlans.{other-set, same_graph, same_choice, same-plans}

-- ---- begin, under two sets of the same paths
-- Two sets of the same paths have as many.
same_size : {n : ℕ} {F G : List (List ℕ)} → F ⊆ G → G ⊆ F → ForbiddenSet n F → ForbiddenSet n G → length F ≡ length G
same_size {n} {F} {G} more less F-set G-set = omega (arith, distinct-length F G F-set.distinct more, distinct-length G F G-set.distinct less)

-- The bytes that a set leaves in the runs area spell it, and then come those that were there.
module _ (v : ℕ) (F : List (List ℕ)) (set : ForbiddenSet v F) (beyond : List ℕ) where
  area-spells : (n : ℕ) → length F ≡ n → spelled n (written F ++ beyond) ≡ F
  area-spells n is = ap (λ k. spelled k (written F ++ beyond)) (sym is) ∙ written-spells v F set.few (set-paths v F set) (set-once v F set) beyond

  area-beyond : drop area_size (written F ++ beyond) ≡ beyond
  area-beyond = drop_at (written F) beyond area_size (written-length v F set.few (set-paths v F set) (set-once v F set) beyond)

module _
    (g : Graph) (F G : List (List ℕ)) (more : F ⊆ G) (less : G ⊆ F) (F-set : ForbiddenSet g.count F) (G-set : ForbiddenSet g.count G)
    (s t : ℕ) (same_choice : chosen g F s t ≡ chosen g G s t) (paths walk : List ℕ)
  where
    same-begun : (o : Option Refusal)
        → SameTrials (begun_as o (begin g (chosen g) F s t paths walk) paths walk) (begun_as o (begin g (chosen g) G s t paths walk) paths walk)
    same-begun (some x) = record { answers = refl; walks = refl; runs = λ r e. zero_one (cc); beyond = refl }
    same-begun none =
        let size = same_size more less F-set G-set in
        let rest = drop area_size paths in
        record {
          answers =
              ap₂ (λ p n. Ok (record { stage = stage_of p; start = s; end = t; known = n; first = n; failed = 0; passed = 0; litres = litres_of g p; length = length_of p }))
              same_choice size;
          walks = ap (λ p. overlaid p walk) same_choice;
          runs = λ r e.
              let same : (begin g (chosen g) F s t paths walk).rec ≡ r = cc in
              let F-size : length F ≡ r.known = ap (λ (q : Record). q.known) same in
              let F-is = sym (area-spells g.count F F-set rest r.known F-size) in
              let G-is = sym (area-spells g.count G G-set rest r.known (sym size ∙ F-size)) in
              (subst₂ (λ P Q. P ⊆ Q) F-is G-is more, subst₂ (λ P Q. P ⊆ Q) G-is F-is less);
          beyond = area-beyond g.count F F-set rest ∙ sym (area-beyond g.count G G-set rest);
        }

-- ---- the theorem
pub same-answers : (s s' : List ℕ) (b c : Book) → reading s ≡ accepted b → reading s' ≡ accepted c → Reordered b c → SameAnswers s s'
same-answers s s' b c read read' o = record { counts = counts; planning = same-plans s s' b c read read' walks; trials = trials }
  where
    well : WellFormed b
    well = (reading-is-book s b read).well_formed

    walks : SameWalks b c
    walks = reordered_walks b c o

    G-set : (batch : Batch) → ForbiddenSet b.count (known batch c.sets)
    G-set = other-set s s' b c read read' walks

    size : (batch : Batch) → length (known batch b.sets) ≡ length (known batch c.sets)
    size batch =
        let (more, less) = same_set batch b c o.sets in
        same_size more less (known-set batch b well) (G-set batch)

    counts : (batch : Batch) (area area' : List ℕ) → area_size ≤ length area → area_size ≤ length area' → bound_as (binding s batch area) ≡ bound_as (binding s' batch area')
    counts batch area area' fits fits' =
        ap (λ x. bound_as (binding_of x batch area)) read
        ∙ same (refusal_by (bind_tests batch area b))
        ∙ ap (λ t. bound_as (bound_unless (refusal_by (test 8 t ∷ date_test batch ∷ [])) G)) (le-leb area_size (length area) fits ∙ sym (le-leb area_size (length area') fits'))
        ∙ sym (ap (λ x. bound_as (binding_of x batch area')) read')
      where
        G : List (List ℕ)
        G = known batch c.sets

        same : (o : Option Refusal) → bound_as (bound_unless o (known batch b.sets)) ≡ bound_as (bound_unless o G)
        same none = ap Ok (size batch)
        same (some x) = refl

    trials : (batch : Batch) (start end : ℕ) (paths walk : List ℕ) → SameTrials (beginning s batch start end paths walk) (beginning s' batch start end paths walk)
    trials batch start end paths walk =
        let F = known batch b.sets in
        let G = known batch c.sets in
        let (more, less) = same_set batch b c o.sets in
        let g = graph b in
        let F-set = known-set batch b well in
        let begins : (h : Graph) → List (List ℕ) → Leaves (Result Record Refusal) = λ h H. begun_as (refusal_by (begin_tests batch h start end paths walk)) (begin h (chosen h) H start end paths walk) paths walk in
        let left : beginning s batch start end paths walk ≡ begins g F = ap (λ x. beginning_of x batch start end paths walk) read in
        let right : beginning s' batch start end paths walk ≡ begins g G = ap (λ x. beginning_of x batch start end paths walk) read' ∙ ap (λ h. begins h G) (same_graph s s' b c read read' walks) in
        subst₂ SameTrials (sym left) (sym right) (same-begun g F G more less F-set (G-set batch) start end (same_choice s s' b c read read' walks batch start end) paths walk (refusal_by (begin_tests batch g start end paths walk)))
