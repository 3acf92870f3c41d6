-- The trials (01, 'Trials'): what a report is, when it is refused, and the three rules.
use Rattle.std.specs.Prelude.{ℕ, suc, ◌+◌, ◌≤◌, ◌<◌, ◌≡◌, Bool, true, cond, ◌&&◌, ◌≢◌, T, eqb, leb, ltb, length, take, drop}
use mathlib.Core.List.{List, [], ◌∷◌, ◌++◌, Memᴰ}
use Rattle.std.proofs.Math.Option.{Option, none, some}
use Rattle.lists.specs.Distinct.{Distinct}
use Rattle.lists.specs.Test.{all}
use Rattle.walks.specs.Graph.{Graph}
use Rattle.walks.specs.Walk.{weight_of}
use Rattle.walks.specs.Avoid.{occurs}
use Rattle.walks.specs.Best.{Feasible}
use Rattle.walks.specs.Feasible.{is_feasible}
use Rattle.book.specs.declared.Refusal.{Refusal}
use Rattle.book.specs.Refusal.{Test, test, all_hold, refusal_by}
use Rattle.book.specs.Book.{path_length, are_vertices, is_path}
use Rattle.states.specs.Chosen.{Decided}
use Rattle.rules.specs.Binding.{once}
use Rattle.rules.specs.Area.{written}
use Rattle.rules.specs.declared.Batch.{Batch}
use Rattle.rules.specs.Operations.{date_test}
use Rattle.limits.specs.Limits.{most_paths, area_size, longest}
use Rattle.trial_record.specs.declared.Record.{Record}

-- ---- the state of the trials
-- A report of the oracle (01: of the lab): the standing walk passes, or fails and a forbidden path is named.
pub data Report : Type 0 where
  passed : Report
  failed : List ℕ → Report

-- What begin and each report leave: the record, the forbidden set (01: the known runs, in order), the bytes of the runs area after the
-- entries, and the line-up area.
pub record State : Type 0 where
  pub rec : Record
  pub forbidden : List (List ℕ)
  pub beyond : List ℕ
  pub area : List ℕ

-- Every byte of the runs area: the entries, unused bytes 0, and what stands after them.
abbrev pub path_area : State → List ℕ
path_area σ = written σ.forbidden ++ σ.beyond

-- The standing walk (01: the first grades of its area, as many as the record's length).
abbrev pub standing : State → List ℕ
standing σ = take σ.rec.length σ.area

-- 01: trials are failed plus passed.
abbrev pub trials : State → ℕ
trials σ = σ.rec.failed + σ.rec.passed

-- ---- refusal 9
-- What 9 asks of the forbidden set: not over 256 paths, none repeated, each one that the book's rules take.
pub record ForbiddenSet (count : ℕ) (F : List (List ℕ)) : Type 0 where
  pub few : length F ≤ most_paths
  pub distinct : Distinct F
  pub taken : (r : List ℕ) → Memᴰ r F → T (is_path count r)

-- 01: passed is 1 in stage 1 and 0 otherwise.
abbrev pub passed_in : ℕ → ℕ
passed_in stage = cond (eqb stage 1) 1 0

-- What 9 asks of a state.
pub record Valid (g : Graph) (σ : State) : Type 0 where
  -- the forbidden set is one, and the record counts it
  pub set : ForbiddenSet g.count σ.forbidden
  pub known : σ.rec.known ≡ length σ.forbidden
  -- stage at most 2; start and end below the count
  pub stage : σ.rec.stage ≤ 2
  pub start : σ.rec.start < g.count
  pub end : σ.rec.end < g.count
  -- count known is the start's plus failed; passed is 1 in stage 1 and 0 otherwise
  pub sum : σ.rec.known ≡ σ.rec.first + σ.rec.failed
  pub passed : σ.rec.passed ≡ passed_in σ.rec.stage
  -- length at most 1,600
  pub short : σ.rec.length ≤ longest
  -- in stages 0 and 1 a walk from start to end stands, clear of the forbidden set, with those litres
  pub walk : σ.rec.stage ≢ 2 → Feasible g σ.forbidden σ.rec.start σ.rec.end (standing σ)
  pub litres : σ.rec.stage ≢ 2 → σ.rec.litres ≡ weight_of g (standing σ)
  -- in stage 2 length and litres are 0
  pub no_walk : σ.rec.stage ≡ 2 → (σ.rec.length ≡ 0) × (σ.rec.litres ≡ 0)

-- The tests of both; proofs/Tests.antt proves that they decide them.
unfoldable pub is_forbidden_set : ℕ → List (List ℕ) → Bool
is_forbidden_set count F = leb (length F) most_paths && once F && all (is_path count) F

-- In stage 2 length and litres are 0; in stages 0 and 1 a walk stands, with those litres.
abbrev pub none_stands : State → Bool
none_stands σ = eqb σ.rec.length 0 && eqb σ.rec.litres 0

abbrev pub one_stands : Graph → State → Bool
one_stands g σ = is_feasible g σ.forbidden σ.rec.start σ.rec.end (standing σ) && eqb σ.rec.litres (weight_of g (standing σ))

-- The record of a state whose forbidden set is one: its numbers, and what stands.
abbrev pub number_tests : Graph → State → List Test
number_tests g σ =
    test 9 (leb σ.rec.stage 2)
    ∷ test 9 (ltb σ.rec.start g.count)
    ∷ test 9 (ltb σ.rec.end g.count)
    ∷ test 9 (eqb σ.rec.known (σ.rec.first + σ.rec.failed))
    ∷ test 9 (eqb σ.rec.passed (passed_in σ.rec.stage))
    ∷ test 9 (leb σ.rec.length longest)
    ∷ []

abbrev pub record_tests : Graph → State → List Test
record_tests g σ = number_tests g σ ++ (test 9 (cond (eqb σ.rec.stage 2) (none_stands σ) (one_stands g σ)) ∷ [])

unfoldable pub is_record : Graph → State → Bool
is_record g σ = all_hold (record_tests g σ)

unfoldable pub is_valid : Graph → State → Bool
is_valid g σ = is_forbidden_set g.count σ.forbidden && eqb σ.rec.known (length σ.forbidden) && is_record g σ

-- ---- the refusals of begin and of a report, under a book that reads well
-- 8: both areas are long enough.
abbrev pub area_tests : List ℕ → List ℕ → List Test
area_tests paths area = test 8 (leb area_size (length paths)) ∷ test 8 (leb longest (length area)) ∷ []

-- 16: the named path has 2 to 8 vertices.
abbrev pub has_length : Report → Bool
has_length passed = true
has_length (failed r) = path_length (length r)

-- 17: each is below the count.
abbrev pub has_vertices : Graph → Report → Bool
has_vertices g passed = true
has_vertices g (failed r) = are_vertices g.count r

-- 12: it stands in the standing walk.
abbrev pub is_standing : State → Report → Bool
is_standing σ passed = true
is_standing σ (failed r) = occurs r (standing σ)

-- In one, as 12 was before order 5 (proofs/Named.antt: `as-before`), and as an accepted report is spoken of: the named path is one that the book's rules take, and stands in the standing walk.
abbrev pub is_named : Graph → State → Report → Bool
is_named g σ passed = true
is_named g σ (failed r) = is_path g.count r && occurs r (standing σ)

-- 13: the named path is not a 257th.
abbrev pub has_room : State → Report → Bool
has_room σ passed = true
has_room σ (failed r) = ltb σ.rec.known most_paths

-- Begin: 8, 7, 15.
abbrev pub begin_tests : Batch → Graph → ℕ → ℕ → List ℕ → List ℕ → List Test
begin_tests batch g s t paths area = area_tests paths area ++ (test 7 (ltb s g.count) ∷ test 7 (ltb t g.count) ∷ date_test batch ∷ [])

abbrev pub begin_refusal : Batch → Graph → ℕ → ℕ → List ℕ → List ℕ → Option Refusal
begin_refusal batch g s t paths area = refusal_by (begin_tests batch g s t paths area)

-- What the path that a report names is refused for: 16, 17, 12.
abbrev pub named_tests : Graph → State → Report → List Test
named_tests g σ ρ = test 16 (has_length ρ) ∷ test 17 (has_vertices g ρ) ∷ test 12 (is_standing σ ρ) ∷ []

-- What a report is refused for by what it says: those, and 13.
abbrev pub said_tests : Graph → State → Report → List Test
said_tests g σ ρ = named_tests g σ ρ ++ (test 13 (has_room σ ρ) ∷ [])

-- The oracle's own tests: 11, 16, 17, 12, 13.
abbrev pub oracle_tests : Graph → State → Report → List Test
oracle_tests g σ ρ = test 11 (eqb σ.rec.stage 0) ∷ said_tests g σ ρ

-- A report: 8, 9, and the oracle's own.
abbrev pub state_tests : Graph → State → Report → List Test
state_tests g σ ρ = area_tests (path_area σ) σ.area ++ (test 9 (is_valid g σ) ∷ oracle_tests g σ ρ)

unfoldable pub refusal : Graph → State → Report → Option Refusal
refusal g σ ρ = refusal_by (state_tests g σ ρ)

-- ---- the three rules
-- A plan for each forbidden set, start and end; a planner of g answers rightly wherever planning is not refused.
abbrev pub Plan : Type 0
Plan = List (List ℕ) → ℕ → ℕ → Option (List ℕ)

pub record Planner (g : Graph) (plan : Plan) : Type 0 where
  pub plans : (F : List (List ℕ)) (s t : ℕ) → ForbiddenSet g.count F → s < g.count → t < g.count → Decided g F s t (plan F s t)

-- A plan as the record and the line-up area hold it: bytes after the plan are untouched, and on none all of them; in stage 2 length and
-- litres are 0.
abbrev pub stage_of : Option (List ℕ) → ℕ
stage_of none = 2
stage_of (some w) = 0

abbrev pub litres_of : Graph → Option (List ℕ) → ℕ
litres_of g none = 0
litres_of g (some w) = weight_of g w

abbrev pub length_of : Option (List ℕ) → ℕ
length_of none = 0
length_of (some w) = length w

abbrev pub overlaid : Option (List ℕ) → List ℕ → List ℕ
overlaid none area = area
overlaid (some w) area = w ++ drop (length w) area

-- a, or b where there is a refusal
abbrev pub unless : {A : Type 0} → Option Refusal → A → A → A
unless none a b = a
unless (some x) a b = b

-- The state with the plan p for F from s to t; `first` paths were known at the start, and `failures` reports have failed.
abbrev pub holding : Graph → Option (List ℕ) → List (List ℕ) → ℕ → ℕ → ℕ → ℕ → List ℕ → List ℕ → State
holding g p F s t first failures beyond area =
    record {
      rec =
          record {
            stage = stage_of p;
            start = s;
            end = t;
            known = length F;
            first = first;
            failed = failures;
            passed = 0;
            litres = litres_of g p;
            length = length_of p;
          };
      forbidden = F;
      beyond = beyond;
      area = overlaid p area;
    }

module _ (g : Graph) (plan : Plan) where
  -- Begin: bind (F is what binding gives), plan; failed and passed 0. Bytes of the runs area after the entries are untouched.
  abbrev pub begin : List (List ℕ) → ℕ → ℕ → List ℕ → List ℕ → State
  begin F s t paths area = holding g (plan F s t) F s t (length F) 0 (drop area_size paths) area

  -- Report passed: stage 1, passed becomes 1.
  -- Report failed with a path: it becomes the last known one, failed grows by 1, plan anew.
  abbrev pub step : State → Report → State
  step σ passed = record σ { rec = record σ.rec { stage = 1; passed = 1 } }
  step σ (failed r) =
      let F = σ.forbidden ++ (r ∷ []) in
      let p = plan F σ.rec.start σ.rec.end in
      holding g p F σ.rec.start σ.rec.end σ.rec.first (suc σ.rec.failed) σ.beyond σ.area

  -- A refused report is as if not made.
  abbrev pub after : State → Report → State
  after σ ρ = unless (refusal g σ ρ) (step σ ρ) σ

  -- The state after a list of reports.
  unfoldable pub run : State → List Report → State
  run σ [] = σ
  run σ (ρ ∷ ρs) = run (after σ ρ) ρs

  -- The reports of a list that are accepted, in order.
  unfoldable pub accepted : State → List Report → List Report
  accepted σ [] = []
  accepted σ (ρ ∷ ρs) = unless (refusal g σ ρ) (ρ ∷ accepted (after σ ρ) ρs) (accepted (after σ ρ) ρs)

  -- Each accepted report of a list has Q in the state in which it is made; the refused ones may be anything.
  unfoldable pub EachAccepted : (State → Report → Type 0) → State → List Report → Type 0
  EachAccepted Q σ [] = Unit
  EachAccepted Q σ (ρ ∷ ρs) = (refusal g σ ρ ≡ none → Q σ ρ) × EachAccepted Q (after σ ρ) ρs

-- The forbidden paths that the failed reports of a list name, in order.
unfoldable pub named : List Report → List (List ℕ)
named [] = []
named (passed ∷ ρs) = named ρs
named (failed r ∷ ρs) = r ∷ named ρs

-- How many reports of a list fail, and how many pass.
abbrev pub failures : List Report → ℕ
failures ρs = length (named ρs)

unfoldable pub passes : List Report → ℕ
passes [] = 0
passes (passed ∷ ρs) = suc (passes ρs)
passes (failed r ∷ ρs) = passes ρs

-- The line-up area after plans for F with each path of a list added in turn, from s to t: each plan is written over what stood there.
module _ (plan : Plan) (s t : ℕ) where
  unfoldable pub replanned : List (List ℕ) → List (List ℕ) → List ℕ → List ℕ
  replanned F [] area = area
  replanned F (r ∷ rs) area = replanned (F ++ (r ∷ [])) rs (overlaid (plan (F ++ (r ∷ [])) s t) area)

-- ---- an accepted begin, and a list of reports after it
-- The batch, the graph and a planner for it, the forbidden set that binding gives, start and end, both areas as lent; and that it is not refused.
pub record Begin : Type 0 where
  pub batch : Batch
  pub graph : Graph
  pub plan : Plan
  pub planner : Planner graph plan
  pub bound : List (List ℕ)
  pub bound-set : ForbiddenSet graph.count bound
  pub start : ℕ
  pub end : ℕ
  pub paths : List ℕ
  pub area : List ℕ
  pub not-refused : begin_refusal batch graph start end paths area ≡ none

abbrev pub begun : Begin → State
begun b = begin b.graph b.plan b.bound b.start b.end b.paths b.area

abbrev pub state_after : Begin → List Report → State
state_after b ρs = run b.graph b.plan (begun b) ρs

abbrev pub accepted_of : Begin → List Report → List Report
accepted_of b ρs = accepted b.graph b.plan (begun b) ρs
