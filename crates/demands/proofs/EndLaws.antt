-- Every end from one start, proved: each entry is what planning to that end answers, by the contract of planning.
use Rattle.std.specs.Prelude
use Rattle.std.specs.Prelude.{ℕ, ◌+◌, ◌*◌, ◌≤◌, ◌<◌, ◌≡◌, refl, List, [], ◌∷◌, ◌++◌, ◌↔◌, length, drop, get_or, replicate, Some, Result, Ok, Err}
use Rattle.planner.specs.Planning.{Answer as Outcome}
use Rattle.book.specs.declared.Refusal.{Refusal}
use Rattle.std.proofs.Common.{sym, ap, ap₂, subst, subst₂, ◌∙◌, arith, length-append, length-drop, drop_at}
use Rattle.std.proofs.Math.Option.{Option, none, some}
use Rattle.std.proofs.lemmas.List.{length-replicate}
use Rattle.std.proofs.Math.ListN.{get_or-append}
use Rattle.limits.specs.Limits.{area_size, longest}
use Rattle.walks.specs.Graph.{Graph}
use Rattle.walks.specs.Best.{None}
use Rattle.states.specs.Chosen.{chosen}
use Rattle.automaton.specs.Area.{Bounded}
use Rattle.book.specs.Refusal.{refusal_by}
use Rattle.book.specs.Book.{Book, WellFormed, graph}
use Rattle.book.proofs.BookLaws.{reading-is-book}
use Rattle.book.proofs.TableLaws.{book-weights}
use Rattle.book.specs.Reading.{accepted, reading}
use Rattle.rules.specs.Area.{spelled}
use Rattle.rules.specs.ValidLaws.{Valid}
use Rattle.rules.specs.Operations.{bound_as, binding, area_after}
use Rattle.rules.specs.declared.Batch.{Batch}
use Rattle.planner.specs.Planning.{plan_tests, Planned, PlanningOf}
use Rattle.planner.proofs.ValidArea.{valid-bounded}
use Rattle.ends.specs.Ends.{no_end, entry_of, ends}
use Rattle.ends.proofs.EndsLaws.{length-ends, ends-weight, ends-hops, entry-best, entry-none, none-entry, entry-start}
use Rattle.reach.specs.Reaching.{reach_tests, answer_by, table_by, Reaching}
use Rattle.demands.proofs.Asked.{conditions}
use Rattle.demands.specs.Demands.{entry_for, entry_at, PlanTo, EveryEnd}
use Rattle.demands.proofs.AnswerLaws.{plan_gets, dated, binds-valid}
use Rattle.demands.proofs.PlanLaws.{count-is}

-- An entry has two numbers.
two-numbers : (g : Graph) (o : Option (List ℕ)) → get_or (entry_of g o) 0 0 ∷ get_or (entry_of g o) 1 0 ∷ [] ≡ entry_of g o
two-numbers g none = refl
two-numbers g (some w) = refl

module _ (s : List ℕ) (b : Book) (read : reading s ≡ accepted b) (paths : List ℕ) (count start : ℕ) (area : area_size ≤ length paths) (runs : Valid b.count paths count) (below : start < b.count) where
  abbrev F : List (List ℕ)
  F = spelled count paths

  well : WellFormed b
  well = (reading-is-book s b read).well_formed

  bounded : Bounded b.count F
  bounded = valid-bounded b.count paths count well.few-vertices runs

  -- what planning to an end says is what the best walk there is
  module _ (end : ℕ) (end_Below : end < b.count) where
    abbrev entry : List ℕ
    entry = entry_of (graph b) (chosen (graph b) F start end)

    planned-entry : (walk : List ℕ) (r : Outcome) (new : List ℕ) → Planned none (graph b) F start end walk r new → entry ≡ entry_for r
    planned-entry walk (Ok (Some found)) new p =
        entry-best (graph b) F start end well.few-vertices bounded.few bounded.short p.best ∙ ap₂ (λ x y. x ∷ y ∷ []) (sym p.weight_is) (sym p.hops-is)
    planned-entry walk (Ok Prelude.None) new p = entry-none (graph b) F start end well.few-vertices bounded.few bounded.short p.0
    planned-entry walk (Err x) new p = absurd p

    unrefused : (walk : List ℕ) → longest ≤ length walk → refusal_by (plan_tests paths count start end walk b) ≡ none
    unrefused walk fits = ((conditions (accepted b)).plan paths count start end walk).accepts.1 (b, refl, (area, (fits, (below, (end_Below, (runs, tt))))))

    plan-entry : (r : Outcome) → PlanTo s paths count start end r → entry ≡ entry_for r
    plan-entry r p =
        planned-entry p.walk r p.new
        (subst (λ o. Planned o (graph b) F start end p.walk r p.new) (unrefused p.walk p.fits)
        (subst (λ x. PlanningOf x paths count start end p.walk r p.new) read p.planned))

    -- what is planned in an area that fits is a plan to that end
    pub plan-to : (walk : List ℕ) → longest ≤ length walk → (r : Outcome) (new : List ℕ) → Planned none (graph b) F start end walk r new → PlanTo s paths count start end r
    plan-to walk fits r new p =
        record {
          walk = walk;
          fits = fits;
          new = new;
          planned =
              subst (λ x. PlanningOf x paths count start end walk r new) (sym read)
              (subst (λ o. Planned o (graph b) F start end walk r new) (sym (unrefused walk fits)) p);
        }

    nothing : None (graph b) F start end → PlanTo s paths count start end (Ok Prelude.None)
    nothing no_Walk =
        let walk : List ℕ = replicate longest 0 in
        plan-to walk (omega (arith, length-replicate {A = ℕ} longest 0)) (Ok Prelude.None) walk (no_Walk, refl)

    none-exactly : (i : ℕ) → get_or (no_end ∷ no_end ∷ []) i 0 ≡ no_end → (get_or entry i 0 ≡ no_end) ↔ PlanTo s paths count start end (Ok Prelude.None)
    none-exactly i mark = (
      λ e. nothing (none-entry (graph b) F start end well.few-vertices bounded.few bounded.short (book-weights b well) i e),
      λ p. ap (λ l. get_or l i 0) (plan-entry (Ok Prelude.None) p) ∙ mark,
    )

  module _ (table : List ℕ) (room : 2 * b.count ≤ length table) where
    abbrev after : List ℕ
    after = ends (graph b) F start b.count ++ drop (2 * b.count) table

    front : (i : ℕ) → i < 2 * b.count → get_or after i 0 ≡ get_or (ends (graph b) F start b.count) i 0
    front i h = get_or-append (ends (graph b) F start b.count) (drop (2 * b.count) table) 0 i (omega (arith, length-ends (graph b) F start b.count))

    weight-at : (end : ℕ) (h : end < b.count) → get_or after (2 * end) 0 ≡ get_or (entry end h) 0 0
    weight-at end h = front (2 * end) (omega arith) ∙ ends-weight (graph b) F start b.count end h

    hops-at : (end : ℕ) (h : end < b.count) → get_or after (2 * end + 1) 0 ≡ get_or (entry end h) 1 0
    hops-at end h = front (2 * end + 1) (omega arith) ∙ ends-hops (graph b) F start b.count end h

    entry-at : (end : ℕ) (h : end < b.count) → entry_at after end ≡ entry end h
    entry-at end h = ap₂ (λ x y. x ∷ y ∷ []) (weight-at end h) (hops-at end h) ∙ two-numbers (graph b) (chosen (graph b) F start end)

    filled : EveryEnd s b paths count start table (Ok b.count) after
    filled =
        record {
          answer = refl;
          entry = λ end h r p. entry-at end h ∙ plan-entry end h r p;
          planned = λ end h walk fits. plan_gets (reading s) paths count start end walk b read well.few-vertices (area, (fits, (below, (h, (runs, tt)))));
          none_first = λ end h. rw (weight-at end h) (none-exactly end h 0 refl);
          none-second = λ end h. rw (hops-at end h) (none-exactly end h 1 refl);
          start-entry = entry-at start below ∙ entry-start (graph b) F start well.few-vertices bounded.few bounded.short bounded.long below;
          untouched = drop_at (ends (graph b) F start b.count) (drop (2 * b.count) table) (2 * b.count) (length-ends (graph b) F start b.count);
          same_length =
              let joined = length-append (ends (graph b) F start b.count) (drop (2 * b.count) table) in
              omega (arith, joined, length-ends (graph b) F start b.count, length-drop (2 * b.count) table);
        }

    pub every_end : (r : Result ℕ Refusal) (new : List ℕ) → Reaching (reading s) paths count start table r new → EveryEnd s b paths count start table r new
    every_end r new p =
        let none-refused : refusal_by (reach_tests paths count start table b) ≡ none =
        ((conditions (accepted b)).reach paths count start table).accepts.1 (b, refl, (area, (room, (below, (runs, tt))))) in
        let (answer, numbers) : (r ≡ Ok b.count) × (new ≡ after) =
        subst (λ o. (r ≡ answer_by o (graph b)) × (new ≡ table_by o (graph b) F start table)) none-refused (subst (λ x. Reaching x paths count start table r new) read p) in
        subst₂ (EveryEnd s b paths count start table) (sym answer) (sym numbers) filled

-- Under the known runs that binding gives.
pub batch-ends : (s : List ℕ) (b : Book) → reading s ≡ accepted b → (batch : Batch) (area : List ℕ) → area_size ≤ length area → (n : ℕ) → bound_as (binding s batch area) ≡ Ok n
    → (start : ℕ) → start < b.count → (table : List ℕ) → 2 * b.count ≤ length table
    → (r : Result ℕ Refusal) (new : List ℕ) → Reaching (reading s) (area_after (binding s batch area) area) n start table r new
    → EveryEnd s b (area_after (binding s batch area) area) n start table r new
batch-ends s b read batch area fits n answer start below table room =
    let (long, runs) = binds-valid s b read batch area fits (dated s batch area n answer) in
    every_end s b read (area_after (binding s batch area) area) n start long
    (subst (Valid b.count (area_after (binding s batch area) area)) (sym (count-is s b read batch area fits n answer)) runs) below table room
