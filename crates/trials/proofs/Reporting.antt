-- A report, by what its tests and planning say.
use Prim.Native.Nat.{ℕ, suc, ◌+◌, ◌*◌, ◌≤◌, ◌<◌}
use mathlib.Core.Bool.{true}
use mathlib.Core.List.{List, [], ◌∷◌, ◌++◌, append_assoc}
use mathlib.Core.Option.{Option, none, some}
use mathlib.Core.Path.{◌≡◌, refl, sym, ap, ap₂, subst, ◌∙◌}
use native.Mathlib.Omega.{arith}
use lib.Dec.{ltb→lt}
use lib.ListN.{length, set, take, drop, length-append, length-map, length-set}
use lib.Seq.{paste, set-append_left, take-append-le, drop-append-le}
use Rattle.std.specs.Prelude.{Result, Ok, Err}
use Rattle.lists.specs.Test.{T→true, T_and}
use Rattle.walks.specs.Avoid.{occurs}
use Rattle.states.specs.Chosen.{chosen}
use Rattle.book.specs.declared.Loaded.{Loaded}
use Rattle.book.specs.declared.Refusal.{Refusal}
use Rattle.book.specs.Refusal.{refusal_by}
use Rattle.book.proofs.RefusalLaws.{first-kept, first-of_append}
use Rattle.book.specs.Book.{Book, WellFormed, IsPath, is_path, graph}
use Rattle.book.proofs.BookLaws.{all_map, is_path→IsPath}
use Rattle.book.proofs.EntryLaws.{length-entries, entries_snoc}
use Rattle.book.specs.Reading.{accepted, reading}
use Rattle.book.specs.Tables.{IsGraph, LoadedAs, entries, padded}
use Rattle.book.proofs.LoadedLaws.{loaded}
use Rattle.book.proofs.Padded.{padded-entry}
use Rattle.rules.specs.Area.{written, blocks, spelled, valid}
use Rattle.limits.specs.Limits.{area_size, longest}
use Rattle.rules.proofs.AreaLaws.{length-blocks}
use Rattle.rules.proofs.ValidLaws.{written-length, written-valid, written-spells}
use Rattle.routes.specs.Plan.{Searched}
use Rattle.trial_record.specs.declared.Record.{Record}
use Rattle.trial_rules.specs.Trials.{Report, passed, failed, State, ForbiddenSet, passed_in, stage_of, litres_of, length_of, step, said_tests}
use Rattle.trial_record.specs.Steps.{Found, passed_of, failed_of, replanned, Recordable}
use Rattle.trials.specs.Operations.{answering, rejected, reported_as, reporting_of, reporting}
use Rattle.judging.specs.Judging.{state_of, judge_tests, report_tests, judged_as}
use Rattle.trials.specs.OperationLaws.{TestsPassed, passed_tests}
use Rattle.trial_rules.proofs.Tests.{set-paths, set-once}
use Rattle.trial_rules.proofs.Invariant.{one_more}
use Rattle.trials.specs.Replanning.{Held, held, chosen-planner}

-- ---- the book that was read, and its graph
pub record InBook (s : List ℕ) (vertices : ℕ) (weights : List ℕ) : Type 0 where
  pub book : Book
  pub is : reading s ≡ accepted book
  pub graph-is : IsGraph book vertices weights

pub in_book : (s : List ℕ) (l : Loaded) → LoadedAs (reading s) (Ok l) → {vertices : ℕ} {weights : List ℕ} → vertices ≡ l.counts.vertices → weights ≡ l.weights
    → InBook s vertices weights
in_book s l read v w =
    let from = loaded s l read in
    record { book = from.book; is = from.is; graph-is = rw (v, w) from.tables.graph }

-- ---- what the judgement tells
judged_refused : (o : Option Refusal) (x : Refusal) → Err x ≡ judged_as o → o ≡ some x
judged_refused none x e = cc
judged_refused (some y) x e = cc

judged_standing : (o : Option Refusal) → Ok tt ≡ judged_as o → o ≡ none
judged_standing none e = refl
judged_standing (some y) e = cc

module _ {s : List ℕ} {vertices : ℕ} {weights : List ℕ} (h : InBook s vertices weights) (r : Record) (paths walk : List ℕ) where
  abbrev b : Book
  b = h.book

  abbrev σ : State
  σ = state_of r paths walk

  -- what the judgement answers
  abbrev Judged : Result Unit Refusal → Type 0
  Judged v = (c : Book) → IsGraph c vertices weights → v ≡ judged_as (refusal_by (judge_tests r paths walk c))

  -- the report is answered as its refusal says
  answered : (ρ : Report) (o : Option Refusal) → refusal_by (report_tests r paths walk ρ b) ≡ o
      → reported_as o (step (graph b) (chosen (graph b)) σ ρ) r paths walk ≡ reporting s r paths walk ρ
  answered ρ o e =
      ap (λ y. reported_as y (step (graph b) (chosen (graph b)) σ ρ) r paths walk) (sym e) ∙ sym (ap (λ x. reporting_of x r paths walk ρ) h.is)

  pub refused : {x : Refusal} → Judged (Err x) → (ρ : Report) → answering (Err (rejected x r)) paths walk ≡ reporting s r paths walk ρ
  refused {x} judged ρ =
      answered ρ (some x) (first-kept (judge_tests r paths walk b) (said_tests (graph b) σ ρ) x (judged_refused _ x (judged b h.graph-is)))

  module _ (stands : Judged (Ok tt)) where
    -- what the report says is left
    left_over : (ρ : Report) → refusal_by (report_tests r paths walk ρ b) ≡ refusal_by (said_tests (graph b) σ ρ)
    left_over ρ = first-of_append (judge_tests r paths walk b) (said_tests (graph b) σ ρ) (judged_standing _ (stands b h.graph-is))

    -- the standing walk lies within its area
    pub walk-fits : r.length ≤ length walk
    walk-fits = let a = (passed_tests b r paths walk passed (left_over passed)).accepts in omega (arith, a.valid.short, a.area-fits)

    pub has_passed : answering (Ok (passed_of r)) paths walk ≡ reporting s r paths walk passed
    has_passed =
        ap (λ l. answering (Ok (passed_of r)) l walk) (sym (passed_tests b r paths walk passed (left_over passed)).area-is)
        ∙ answered passed none (left_over passed)

    module _ (p : List ℕ) where
      -- what the judgement of the named path answers
      abbrev Heard : Result Unit Refusal → Type 0
      Heard v = (c : Book) → IsGraph c vertices weights → v ≡ judged_as (refusal_by (said_tests (graph c) (state_of r [] walk) (failed p)))

      pub refused_named : {x : Refusal} → Heard (Err x) → answering (Err (rejected x r)) paths walk ≡ reporting s r paths walk (failed p)
      refused_named {x} heard = answered (failed p) (some x) (left_over (failed p) ∙ judged_refused _ x (heard b h.graph-is))

      -- nothing is refused
      pub ready : Heard (Ok tt) → refusal_by (report_tests r paths walk (failed p) b) ≡ none
      ready heard = left_over (failed p) ∙ judged_standing _ (heard b h.graph-is)

-- ---- an accepted failed report
paste-front : (d rest s : List ℕ) (at n : ℕ) → at + n ≤ length d → paste (d ++ rest) at s n ≡ paste d at s n ++ rest
paste-front d rest s at n fits =
    ap₂ (λ x y. x ++ take n s ++ y) (take-append-le at d rest (omega arith)) (drop-append-le (at + n) d rest fits) ∙ simp append_assoc

module _ (b : Book) (w : WellFormed b) (r : Record) (paths walk p : List ℕ) (e : refusal_by (report_tests r paths walk (failed p) b) ≡ none) where
  abbrev h : TestsPassed b r paths walk (failed p)
  h = passed_tests b r paths walk (failed p) e

  abbrev F : List (List ℕ)
  F = spelled r.known paths

  abbrev F' : List (List ℕ)
  F' = F ++ (p ∷ [])

  is-path : IsPath b.count p
  is-path = is_path→IsPath b.count p (T→true _ (T_and (is_path b.count p) (occurs p (take r.length walk)) h.accepts.named).0)

  set' : ForbiddenSet b.count F'
  set' = one_more (graph b) (state_of r paths walk) p h.accepts

  pub few-known : r.known < 256
  few-known = ltb→lt r.known 256 h.accepts.room

  pub failed-few : r.failed ≤ r.known
  failed-few = omega (arith, h.accepts.valid.sum)

  pub path-short : length p ≤ 8
  path-short = is-path.eight

  pub entry-fits : r.known * 9 + 9 ≤ length paths
  entry-fits = omega (arith, h.paths-fit, few-known)

  known-length : length F ≡ r.known
  known-length = length-map (blocks r.known paths) _ ∙ length-blocks r.known paths

  next-length : length F' ≡ r.known + 1
  next-length = length-append F (p ∷ []) ∙ ap (λ n. n + 1) known-length

  -- the path is entered behind the others
  pub entered : paste (set paths (r.known * 9) (length p)) (r.known * 9 + 1) p (length p) ≡ written F' ++ drop area_size paths
  entered =
      let v = h.accepts.valid.set in
      let proper = set-paths b.count F v in
      let size : length (entries F) ≡ r.known * 9 = length-entries F (all_map (λ q i. i.eight) F proper) ∙ ap (λ n. n * 9) known-length in
      let full : length (written F) ≡ area_size = written-length b.count F v.few proper (set-once b.count F v) [] in
      let rest : List ℕ = drop area_size paths in
      ap (λ l. paste (set l (r.known * 9) (length p)) (r.known * 9 + 1) p (length p)) (sym h.area-is)
      ∙ ap (λ l. paste l (r.known * 9 + 1) p (length p)) (set-append_left (written F) rest (r.known * 9) (length p) (omega (arith, few-known)))
      ∙ paste-front (set (written F) (r.known * 9) (length p)) rest p (r.known * 9 + 1) (length p) (rw length-set (omega (arith, few-known, path-short)))
      ∙ ap (λ n. paste (set (written F) n (length p)) (n + 1) p (length p) ++ rest) (sym size)
      ∙ ap (λ l. l ++ rest) (padded-entry area_size (entries F) p path-short (omega (arith, few-known)) ∙ ap (padded area_size) (sym (entries_snoc F p)))

  pub start-below : r.start < b.count
  start-below = h.accepts.valid.start

  pub area-fits : longest ≤ length walk
  area-fits = h.accepts.area-fits

  module _ (paths' : List ℕ) (are : paths' ≡ written F' ++ drop area_size paths) where
    pub still-valid : valid b.count paths' (r.known + 1) ≡ true
    still-valid =
        ap₂ (valid b.count) are (sym next-length)
        ∙ written-valid b.count F' set'.few (set-paths b.count F' set') (set-once b.count F' set') (drop area_size paths)

    module _ (f : Found) (new : List ℕ) (found : Searched (graph b) (spelled (r.known + 1) paths') r.start r.end walk f new) where
      spelled' : spelled (r.known + 1) paths' ≡ F'
      spelled' =
          ap₂ spelled (sym next-length) are
          ∙ written-spells b.count F' set'.few (set-paths b.count F' set') (set-once b.count F' set') (drop area_size paths)

      holds : Held (graph b) (chosen (graph b) F' r.start r.end) f walk new
      holds =
          let v = h.accepts.valid in
          held (chosen-planner b w) set' v.start v.end f (subst (λ G. Searched (graph b) G r.start r.end walk f new) spelled' found)

      pub walk-short : Recordable f
      walk-short = holds.short

      pub has_failed : answering (Ok (replanned (failed_of r) f)) paths' new ≡ reporting_of (accepted b) r paths walk (failed p)
      has_failed =
          let q = chosen (graph b) F' r.start r.end in
          let counts : ℕ → ℕ → ℕ → Record =
          λ known failures passes.
          record {
            stage = stage_of q;
            start = r.start;
            end = r.end;
            known = known;
            first = r.first;
            failed = failures;
            passed = passes;
            litres = litres_of (graph b) q;
            length = length_of q;
          } in
          let one-more-failed : r.failed + 1 ≡ suc r.failed = omega arith in
          let none_passed : r.passed ≡ 0 = h.accepts.valid.passed ∙ ap passed_in h.accepts.stage in
          ap (λ (z : Record). answering (Ok z) paths' new)
          (holds.rec-is (failed_of r) ∙ ap (λ n. counts n (r.failed + 1) r.passed) (sym next-length) ∙ ap₂ (counts (length F')) one-more-failed none_passed)
          ∙ ap₂ (answering (Ok (step (graph b) (chosen (graph b)) (state_of r paths walk) (failed p)).rec)) are holds.area-is
          ∙ ap (λ y. reported_as y (step (graph b) (chosen (graph b)) (state_of r paths walk) (failed p)) r paths walk) (sym e)
