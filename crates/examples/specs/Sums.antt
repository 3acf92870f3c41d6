-- 01's settled sums: those that 01 stars, in its order. Each is from the bytes of a book, on every date of a batch, and for all lent areas that are long enough.
use Rattle.std.specs.Prelude.{ℕ, ◌≤◌, ◌≡◌, List, [], ◌∷◌, ◌++◌, T, length, drop, Some, Ok, Err}
use Rattle.std.proofs.Math.Path.{refl, ap}
use Rattle.std.proofs.Common.{ap₂, ◌∙◌, arith, le-leb, length-append, length-drop}
use Rattle.std.proofs.Math.Option.{Option, none}
use Rattle.dates.specs.declared.Date.{Date}
use Rattle.dates.specs.Calendar.{IsDate}
use Rattle.dates.proofs.CalendarLaws.{date-is}
use Rattle.walks.specs.Graph.{Graph}
use Rattle.walks.specs.Best.{Best}
use Rattle.walks.specs.Feasible.{is_feasible}
use Rattle.book.specs.declared.Refusal.{Refusal}
use Rattle.book.specs.declared.Refusal.TheVariants.{Truncated, Value}
use Rattle.book.specs.Refusal.{number_of, place_of, refusal_by}
use Rattle.book.proofs.RefusalLaws.{hold→none}
use Rattle.book.specs.Book.{Book, WellFormed, all_paths, graph, is_path, are_vertices}
use Rattle.book.proofs.BookLaws.{reading-is-book}
use Rattle.book.specs.Reading.{accepted, reading, read_as}
use Rattle.examples.specs.Batches.{marks, ForDates, ForBatches}
use Rattle.examples.specs.Books.{bytes_a, book_a, book-A, bytes_ways, book_ways, book-ways, bytes_shortcut, book_shortcut, book-shortcut, count-64, count-65, no_body}
use Rattle.states.specs.Chosen.{chosen}
use Rattle.examples.specs.Walks.{marks_3, named-123, named-13}
use Rattle.rules.specs.Binding.{covers, applied, known, once}
use Rattle.limits.specs.Limits.{area_size, longest}
use Rattle.rules.specs.Operations.{Binding, bound_unless, bind_tests, binding_of, binding, area_after}
use Rattle.rules.specs.declared.Batch.{Batch}
use Rattle.planner.specs.Planning.{Planning, walked, nothing, Answer as Outcome}
use Rattle.examples.specs.Plans.{Only, Gives, sums as planning}
use Rattle.trial_rules.specs.Trials.{Report, failed, State, path_area, trials, begin_tests, oracle_tests, Valid, is_forbidden_set, is_record, is_valid, begin_refusal, refusal, Plan, Planner, holding, unless, step, after, run}
use Rattle.series.specs.Reports.{reports_in, reports_of}
use Rattle.trials.specs.Operations.{Leaves, answering, begun_as, first_state, beginning_of, beginning, reported_as, reporting_of, reporting}
use Rattle.series.specs.Making.{replaying_of, replaying}
use Rattle.trial_rules.proofs.Tests.{is_forbidden_set→, is_valid→Valid}
use Rattle.trial_rules.proofs.Plans.{plan-best, plan-none}
use Rattle.trials.specs.Replanning.{chosen-planner}
use Rattle.trial_rules.proofs.Accepted.{only-oracle}
use Rattle.trials.specs.OperationLaws.{same_step}

-- ---- what the sums say
abbrev pub ForLent : (List ℕ → List ℕ → Type 0) → Type 0
ForLent P = (paths walk : List ℕ) → area_size ≤ length paths → longest ≤ length walk → P paths walk

-- Planning: the book binds the batch, and planning under the known runs F answers r (`walked litres changeovers`, or `nothing`) and nothing else, with
-- w in the front of the line-up area and the bytes after it as lent.
abbrev pub Plans : List ℕ → Batch → ℕ → ℕ → Outcome → List ℕ → Type 0
Plans s batch start end r w =
    ForLent (λ paths walk. (F : List (List ℕ)) × (binding s batch paths ≡ Binding.bound F)
    × Only (Planning s (area_after (binding s batch paths) paths) (length F) start end walk) r (w ++ drop (length w) walk))

-- Trials, on book A from 0 to 3. A state is the record, the known runs and the bytes of both areas, for areas as lent; `leaving` is an
-- answer with those bytes.
abbrev pub Stands : Type 0
Stands = List ℕ → List ℕ → State

abbrev pub leaving : {A : Type 0} → A → State → Leaves A
leaving a σ = answering a (path_area σ) σ.area

-- Begin for a batch leads to σ.
abbrev pub Begins : Batch → Stands → Type 0
Begins batch σ = ForLent (λ paths walk. beginning bytes_a batch 0 3 paths walk ≡ leaving (Ok (σ paths walk).rec) (σ paths walk))

-- A report on what stands at σ is accepted and leads to τ.
abbrev pub Leads : Stands → Report → Stands → Type 0
Leads σ ρ τ =
    ForLent (λ paths walk. reporting bytes_a (σ paths walk).rec (path_area (σ paths walk)) (σ paths walk).area ρ
    ≡ leaving (Ok (τ paths walk).rec) (τ paths walk))

-- Begin for a batch and then a list of reports, as bytes, lead to σ.
abbrev pub Replays : Batch → List ℕ → Stands → Type 0
Replays batch reports σ =
    ForLent (λ paths walk. replaying bytes_a batch 0 3 reports paths walk ≡ leaving (Ok (σ paths walk).rec) (σ paths walk))

-- Marks 3: 0 1 2 1 2 3, 450.
abbrev pub begun-3 : Stands
begun-3 paths walk =
    record {
      rec = record { stage = 0; start = 0; end = 3; known = 2; first = 2; failed = 0; passed = 0; litres = 450; length = 6 };
      forbidden = (0 ∷ 1 ∷ 2 ∷ 3 ∷ []) ∷ (0 ∷ 2 ∷ 3 ∷ []) ∷ [];
      beyond = drop area_size paths;
      area = 0 ∷ 1 ∷ 2 ∷ 1 ∷ 2 ∷ 3 ∷ drop 6 walk;
    }

-- A path r is named under which the plan is 0 1 3, 500. The bytes after it are those that stood there.
abbrev pub after_one : List ℕ → Stands
after_one r paths walk =
    record {
      rec = record { stage = 0; start = 0; end = 3; known = 3; first = 2; failed = 1; passed = 0; litres = 500; length = 3 };
      forbidden = (0 ∷ 1 ∷ 2 ∷ 3 ∷ []) ∷ (0 ∷ 2 ∷ 3 ∷ []) ∷ r ∷ [];
      beyond = drop area_size paths;
      area = 0 ∷ 1 ∷ 3 ∷ 1 ∷ 2 ∷ 3 ∷ drop 6 walk;
    }

abbrev pub after-123 : Stands
after-123 = after_one (1 ∷ 2 ∷ 3 ∷ [])

-- Then named 1 3: none. The line-up area is untouched.
abbrev pub after-13 : Stands
after-13 paths walk =
    record {
      rec = record { stage = 2; start = 0; end = 3; known = 4; first = 2; failed = 2; passed = 0; litres = 0; length = 0 };
      forbidden = (0 ∷ 1 ∷ 2 ∷ 3 ∷ []) ∷ (0 ∷ 2 ∷ 3 ∷ []) ∷ (1 ∷ 2 ∷ 3 ∷ []) ∷ (1 ∷ 3 ∷ []) ∷ [];
      beyond = drop area_size paths;
      area = 0 ∷ 1 ∷ 3 ∷ 1 ∷ 2 ∷ 3 ∷ drop 6 walk;
    }

-- Reading is refused under 01's number n, at a byte.
abbrev pub Refuses : List ℕ → ℕ → ℕ → Type 0
Refuses s n at = (x : Refusal) × (read_as (reading s) ≡ Err x) × (number_of x ≡ n) × (place_of x ≡ Some at)

-- ---- the list
pub record Sums : Type 0 where
  -- On every date. Book A, start 0, end 3. Marks 0: 0 1 2 3, 300. Marks 1: 0 2 3, 350. Marks 2: 0 1 2 3, 300. Marks 3: 0 1 2 1 2 3, 450, 5 changeovers.
  pub marks_0 : ForDates (λ date. Plans bytes_a (marks 0 date) 0 3 (walked 300 3) (0 ∷ 1 ∷ 2 ∷ 3 ∷ []))
  pub marks_1 : ForDates (λ date. Plans bytes_a (marks 1 date) 0 3 (walked 350 2) (0 ∷ 2 ∷ 3 ∷ []))
  pub marks_2 : ForDates (λ date. Plans bytes_a (marks 2 date) 0 3 (walked 300 3) (0 ∷ 1 ∷ 2 ∷ 3 ∷ []))
  pub marks_3 : ForDates (λ date. Plans bytes_a (marks 3 date) 0 3 (walked 450 5) (0 ∷ 1 ∷ 2 ∷ 1 ∷ 2 ∷ 3 ∷ []))
  -- From marks 3, named 1 2 3: then 0 1 3, 500. Then named 1 3: none, failed 2, trials 2. By the single operations, and as lists of reports.
  pub from_marks_3 : ForDates (λ date. Begins (marks 3 date) begun-3)
  pub named-123 : Leads begun-3 (failed (1 ∷ 2 ∷ 3 ∷ [])) after-123
  pub then-named-13 : Leads after-123 (failed (1 ∷ 3 ∷ [])) after-13
  pub trials-2 : (paths walk : List ℕ) → trials (after-13 paths walk) ≡ 2
  pub list_123 : ForDates (λ date. Replays (marks 3 date) (1 ∷ 3 ∷ 1 ∷ 2 ∷ 3 ∷ []) after-123)
  pub list_123_13 : ForDates (λ date. Replays (marks 3 date) (1 ∷ 3 ∷ 1 ∷ 2 ∷ 3 ∷ 1 ∷ 2 ∷ 1 ∷ 3 ∷ []) after-13)
  -- Start 3, end 0: none. Start 3, end 3: 3, 0 litres. Whatever the batch.
  pub back : ForBatches (λ batch. Plans bytes_a batch 3 0 nothing [])
  pub stay : ForBatches (λ batch. Plans bytes_a batch 3 3 (walked 0 0) (3 ∷ []))
  -- 0 to 1, 1 to 3, 0 to 2, 2 to 3, all 100: 0 1 3. With 0 to 3 at 200: 0 3.
  pub lower_vertex : ForBatches (λ batch. Plans bytes_ways batch 0 3 (walked 200 2) (0 ∷ 1 ∷ 3 ∷ []))
  pub fewer-hops : ForBatches (λ batch. Plans bytes_shortcut batch 0 3 (walked 200 1) (0 ∷ 3 ∷ []))
  -- Bytes 01 00 01 40 are read; 01 00 01 41 is 4 at 0; 01 00 01 is 1 at 0.
  pub count-64 : read_as (reading (0x01 ∷ 0x00 ∷ 0x01 ∷ 0x40 ∷ [])) ≡ Ok (record { vertices = 64; arcs = 0; sets = 0; paths = 0 })
  pub count-65 : Refuses (0x01 ∷ 0x00 ∷ 0x01 ∷ 0x41 ∷ []) 4 0
  pub no_body : Refuses (0x01 ∷ 0x00 ∷ 0x01 ∷ []) 1 0

-- ---- planning
pub binds : (s : List ℕ) (b : Book) → reading s ≡ accepted b → (batch : Batch) → IsDate batch.date → (paths : List ℕ) → area_size ≤ length paths
    → binding s batch paths ≡ Binding.bound (known batch b.sets)
binds s b read batch valid paths fits =
    ap (λ x. binding_of x batch paths) read ∙ ap (λ o. bound_unless o (known batch b.sets)) (hold→none (bind_tests batch paths b) (le-leb area_size (length paths) fits, ((date-is batch.date).1 valid, tt)))

pub plans : (s : List ℕ) (b : Book) → reading s ≡ accepted b → (batch : Batch) (start end : ℕ) (r : Outcome) (w : List ℕ) → Gives s batch start end r w
    → IsDate batch.date → Plans s batch start end r w
plans s b read batch start end r w gives valid paths walk fits long =
    let is = binds s b read batch valid paths fits in
    (known batch b.sets, is, gives paths (known batch b.sets) is walk long)

-- ---- trials
abbrev pub graph_a : Graph
graph_a = graph book_a

abbrev pub plan_a : Plan
plan_a = chosen graph_a

pub well-A : WellFormed book_a
well-A = (reading-is-book bytes_a book_a book-A).well_formed

abbrev planner_a : Planner graph_a plan_a
planner_a = chosen-planner book_a well-A

-- An accepted report, as an operation and as one of a list.
pub record Taken (σ : State) (ρ : Report) (τ : State) : Type 0 where
  pub left : reporting bytes_a σ.rec (path_area σ) σ.area ρ ≡ leaving (Ok τ.rec) τ
  next : after graph_a plan_a σ ρ ≡ τ

taken : (σ : State) (ρ : Report) (τ : State) → longest ≤ length σ.area → Valid graph_a σ → refusal_by (oracle_tests graph_a σ ρ) ≡ none
    → step graph_a plan_a σ ρ ≡ τ → Taken σ ρ τ
taken σ ρ τ long v ok to =
    let unrefused : refusal graph_a σ ρ ≡ none = only-oracle graph_a σ ρ long v ∙ ok in
    record {
      left =
          ap (λ x. reporting_of x σ.rec (path_area σ) σ.area ρ) book-A
          ∙ same_step book_a σ v ρ
          ∙ ap₂ (λ x y. reported_as x y σ.rec (path_area σ) σ.area) unrefused to;
      next = ap₂ (λ x (y : State). unless x y σ) unrefused to;
    }

module _ (paths walk : List ℕ) (fits : area_size ≤ length paths) (long : longest ≤ length walk) where
  abbrev σ₀ : State
  σ₀ = begun-3 paths walk

  abbrev σ₁ : State
  σ₁ = after-123 paths walk

  abbrev σ₂ : State
  σ₂ = after-13 paths walk

  pub first-is : (date : Date) → first_state book_a (marks 3 date) 0 3 paths walk ≡ σ₀
  unfolding covers applied is_forbidden_set once is_path are_vertices
  first-is date =
      ap (λ (p : Option (List ℕ)). holding graph_a p σ₀.forbidden 0 3 2 0 (drop area_size paths) walk)
      (plan-best planner_a (is_forbidden_set→ 4 σ₀.forbidden tt) (omega arith) (omega arith) marks_3.best)

  -- six bytes that were written, and then those that were lent
  pub long_after : (front : List ℕ) → length front ≡ 6 → longest ≤ length (front ++ drop 6 walk)
  long_after front six = simp (length-append, length-drop) (omega (arith, long, six))

  pub valid-3 : Valid graph_a σ₀
  unfolding is_valid is_record is_forbidden_set once is_feasible is_path are_vertices
  valid-3 = is_valid→Valid graph_a σ₀ tt

  valid-123 : Valid graph_a σ₁
  unfolding is_valid is_record is_forbidden_set once is_feasible is_path are_vertices
  valid-123 = is_valid→Valid graph_a σ₁ tt

  -- a path that stands in the first walk is named, and the plan is then 0 1 3
  module _
      (r : List ℕ) (set : T (is_forbidden_set 4 (after_one r paths walk).forbidden)) (stands : refusal_by (oracle_tests graph_a σ₀ (failed r)) ≡ none)
      (best : Best graph_a (after_one r paths walk).forbidden 0 3 (0 ∷ 1 ∷ 3 ∷ []))
    where
      step-one : step graph_a plan_a σ₀ (failed r) ≡ after_one r paths walk
      step-one =
          ap (λ (p : Option (List ℕ)). holding graph_a p (after_one r paths walk).forbidden 0 3 2 1 σ₀.beyond σ₀.area)
          (plan-best planner_a (is_forbidden_set→ 4 (after_one r paths walk).forbidden set) (omega arith) (omega arith) best)

      pub taken-one : Taken σ₀ (failed r) (after_one r paths walk)
      taken-one = taken σ₀ (failed r) (after_one r paths walk) (long_after (0 ∷ 1 ∷ 2 ∷ 1 ∷ 2 ∷ 3 ∷ []) refl) valid-3 stands step-one

      pub run-one : (date : Date) → run graph_a plan_a (first_state book_a (marks 3 date) 0 3 paths walk) (failed r ∷ []) ≡ after_one r paths walk
      unfolding run
      run-one date = ap (λ (σ : State). after graph_a plan_a σ (failed r)) (first-is date) ∙ taken-one.next

  step-13 : step graph_a plan_a σ₁ (failed (1 ∷ 3 ∷ [])) ≡ σ₂
  unfolding is_forbidden_set once is_path are_vertices
  step-13 =
      ap (λ (p : Option (List ℕ)). holding graph_a p σ₂.forbidden 0 3 2 2 σ₁.beyond σ₁.area)
      (plan-none planner_a (is_forbidden_set→ 4 σ₂.forbidden tt) (omega arith) (omega arith) named-13)

  taken-123 : Taken σ₀ (failed (1 ∷ 2 ∷ 3 ∷ [])) σ₁
  unfolding is_forbidden_set once is_path are_vertices
  taken-123 = taken-one (1 ∷ 2 ∷ 3 ∷ []) tt refl named-123.best

  taken-13 : Taken σ₁ (failed (1 ∷ 3 ∷ [])) σ₂
  unfolding is_path are_vertices
  taken-13 = taken σ₁ (failed (1 ∷ 3 ∷ [])) σ₂ (long_after (0 ∷ 1 ∷ 3 ∷ 1 ∷ 2 ∷ 3 ∷ []) refl) valid-123 refl step-13

  -- the lists of reports
  pub run-123 : (date : Date) → run graph_a plan_a (first_state book_a (marks 3 date) 0 3 paths walk) (failed (1 ∷ 2 ∷ 3 ∷ []) ∷ []) ≡ σ₁
  unfolding is_forbidden_set once is_path are_vertices
  run-123 date = run-one (1 ∷ 2 ∷ 3 ∷ []) tt refl named-123.best date

  run-13 : (date : Date) → run graph_a plan_a (first_state book_a (marks 3 date) 0 3 paths walk) (failed (1 ∷ 2 ∷ 3 ∷ []) ∷ failed (1 ∷ 3 ∷ []) ∷ []) ≡ σ₂
  unfolding run
  run-13 date = ap (λ (σ : State). after graph_a plan_a σ (failed (1 ∷ 3 ∷ []))) (run-123 date) ∙ taken-13.next

  -- on a date
  module _ (date : Date) (valid : IsDate date) where
    pub opens : begin_refusal (marks 3 date) graph_a 0 3 paths walk ≡ none
    opens =
        hold→none (begin_tests (marks 3 date) graph_a 0 3 paths walk)
        (le-leb area_size (length paths) fits, (le-leb longest (length walk) long, (refl, (refl, ((date-is date).1 valid, tt)))))

    begins : beginning bytes_a (marks 3 date) 0 3 paths walk ≡ leaving (Ok σ₀.rec) σ₀
    begins =
        ap (λ x. beginning_of x (marks 3 date) 0 3 paths walk) book-A ∙ ap₂ (λ x (σ : State). begun_as x σ paths walk) opens (first-is date)

    pub replays : (reports : List ℕ) (σ : State) → run graph_a plan_a (first_state book_a (marks 3 date) 0 3 paths walk) (reports_of reports) ≡ σ
        → replaying bytes_a (marks 3 date) 0 3 reports paths walk ≡ leaving (Ok σ.rec) σ
    replays reports σ e =
        ap (λ x. replaying_of x (marks 3 date) 0 3 reports paths walk) book-A ∙ ap₂ (λ x (τ : State). begun_as x τ paths walk) opens e

-- ---- the sums
pub sums : Sums
unfolding all_paths reports_in
sums =
    record {
      marks_0 = λ date. plans bytes_a book_a book-A (marks 0 date) 0 3 (walked 300 3) (0 ∷ 1 ∷ 2 ∷ 3 ∷ []) (planning.marks_0 date);
      marks_1 = λ date. plans bytes_a book_a book-A (marks 1 date) 0 3 (walked 350 2) (0 ∷ 2 ∷ 3 ∷ []) (planning.marks_1 date);
      marks_2 = λ date. plans bytes_a book_a book-A (marks 2 date) 0 3 (walked 300 3) (0 ∷ 1 ∷ 2 ∷ 3 ∷ []) (planning.marks_2 date);
      marks_3 = λ date. plans bytes_a book_a book-A (marks 3 date) 0 3 (walked 450 5) (0 ∷ 1 ∷ 2 ∷ 1 ∷ 2 ∷ 3 ∷ []) (planning.marks_3 date);
      from_marks_3 = λ date valid paths walk fits long. begins paths walk fits long date valid;
      named-123 = λ paths walk fits long. (taken-123 paths walk fits long).left;
      then-named-13 = λ paths walk fits long. (taken-13 paths walk fits long).left;
      trials-2 = λ paths walk. refl;
      list_123 = λ date valid paths walk fits long. replays paths walk fits long date valid (1 ∷ 3 ∷ 1 ∷ 2 ∷ 3 ∷ []) (after-123 paths walk) (run-123 paths walk fits long date);
      list_123_13 = λ date valid paths walk fits long. replays paths walk fits long date valid (1 ∷ 3 ∷ 1 ∷ 2 ∷ 3 ∷ 1 ∷ 2 ∷ 1 ∷ 3 ∷ []) (after-13 paths walk) (run-13 paths walk fits long date);
      back = λ batch. plans bytes_a book_a book-A batch 3 0 nothing [] (planning.back batch);
      stay = λ batch. plans bytes_a book_a book-A batch 3 3 (walked 0 0) (3 ∷ []) (planning.stay batch);
      lower_vertex = λ batch. plans bytes_ways book_ways book-ways batch 0 3 (walked 200 2) (0 ∷ 1 ∷ 3 ∷ []) (planning.lower_vertex batch);
      fewer-hops = λ batch. plans bytes_shortcut book_shortcut book-shortcut batch 0 3 (walked 200 1) (0 ∷ 3 ∷ []) (planning.fewer-hops batch);
      count-64 = ap read_as count-64;
      count-65 = (Value 0, ap read_as count-65, refl, refl);
      no_body = (Truncated 0, ap read_as no_body, refl, refl);
    }
