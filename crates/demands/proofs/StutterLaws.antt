-- Runs that come back to a grade, proved. One that names a grade twice in succession occurs in no line-up, since no changeover leads from a grade to itself.
use Rattle.trials.specs.Operations.{rejected}
use Rattle.std.specs.Prelude.{ℕ, suc, ◌≤◌, ◌<◌, ◌≡◌, ◌&&◌, List, [], ◌∷◌, ◌++◌, ◌↔◌, T, eqb, length, get_or, take, Ok, Err}
use Rattle.std.proofs.Common.{sym, ap, subst, ◌∙◌, inl, inr, ⊎_elim, arith, eqb→eq}
use Rattle.std.proofs.Math.Facts.{or_yes}
use Rattle.limits.specs.Limits.{area_size, longest_path, most_sets, most_paths}
use Rattle.lists.specs.Distinct.{Distinct}
use Rattle.lists.specs.Test.{T_and}
use Rattle.walks.specs.Graph.{Graph, Arc}
use Rattle.walks.specs.Walk.{Walk}
use Rattle.walks.specs.Avoid.{Occurs}
use Rattle.walks.specs.Best.{Best, None}
use Rattle.walks.proofs.Best.{Best-same, None-same}
use Rattle.walks.specs.Stutter.{Stutters, Loopless, ButStutters}
use Rattle.walks.proofs.Stutter.{stutter_never_occurs, but_stutters}
use Rattle.book.specs.declared.Refusal.{Refusal}
use Rattle.book.specs.Refusal.{number_of}
use Rattle.book.specs.Book.{Book, RuleSet, All, IsArc, IsPath, all_paths, given, graph}
use Rattle.book.proofs.BookLaws.{reading-is-book, given_cons, all_map, all_left, all_right}
use Rattle.book.specs.Reading.{accepted, reading}
use Rattle.book_bytes.specs.Bytes.{ProperNeeds, Keeps, bytes_of}
use Rattle.book_bytes.proofs.RoundTrip.{every_book_read}
use Rattle.rules.specs.Binding.{known}
use Rattle.rules.specs.Area.{spelled, written}
use Rattle.rules.specs.ValidLaws.{Valid}
use Rattle.rules.proofs.ValidLaws.{valid→Valid, written-valid}
use Rattle.rules.specs.Operations.{bound_as, binding, area_after}
use Rattle.rules.proofs.Laws.{bind-accepted}
use Rattle.rules.specs.declared.Batch.{Batch}
use Rattle.planner.specs.RuleSets.{SameWalks}
use Rattle.trial_record.specs.declared.Record.{Record}
use Rattle.trial_rules.specs.Trials.{failed}
use Rattle.trial_rules.proofs.Tests.{forbidden-set, set-once}
use Rattle.trials.specs.Operations.{answering, reporting}
use Rattle.trials.specs.Replanning.{known-set}
use Rattle.demands.specs.Marks.{OfSheet}
use Rattle.demands.proofs.Marks.{known→sheet, sheet→known}
use Rattle.demands.specs.Calls.{HowMany}
use Rattle.demands.specs.Demands.{IsRun, Tried, ButStutteringRuns, SamePlans}
use Rattle.demands.proofs.ToldLaws.{tried, told}
use Rattle.demands.proofs.AnswerLaws.{dated, binds}
use Rattle.demands.proofs.PlanLaws.{count-is}
use Rattle.demands.proofs.SamePlans.{same-plans}

-- ---- any run is taken
are_paths : (count : ℕ) (F : List (List ℕ)) → All (IsRun count) F → All (IsPath count) F
are_paths count = all_map (λ r (two, eight, below). record { two = two; eight = eight; below = below })

pub in_sheets : (b : Book) → Keeps b → (sets : List RuleSet) → length sets ≤ most_sets → All (λ s. ProperNeeds s.needs) sets → length (all_paths sets) ≤ most_paths
    → All (IsRun b.count) (all_paths sets)
    → let c : Book = record { count = b.count; arcs = b.arcs; sets = sets } in reading (bytes_of c) ≡ accepted c
in_sheets b keeps sets few-sets proper few-paths runs =
    every_book_read (record { count = b.count; arcs = b.arcs; sets = sets })
    (record {
      some-vertex = keeps.some-vertex;
      few-vertices = keeps.few-vertices;
      arcs-proper = keeps.arcs-proper;
      pairs-once = keeps.pairs-once;
      few-sets = few-sets;
      needs-proper = proper;
      few-paths = few-paths;
      paths-proper = are_paths b.count (all_paths sets) runs;
    })

pub in_area : (count : ℕ) (F : List (List ℕ)) → length F ≤ most_paths → Distinct F → All (IsRun count) F → (beyond : List ℕ) → Valid count (written F ++ beyond) (length F)
in_area count F few distinct runs beyond =
    let paths = are_paths count F runs in
    valid→Valid count (written F ++ beyond) (length F) (written-valid count F few paths (set-once count F (forbidden-set count F few distinct paths)) beyond)

-- the vertices of a path that occurs in a walk are below the count
all-below : (n : ℕ) (w : List ℕ) → ((i : ℕ) → i < length w → get_or w i 0 < n) → All (λ v. v < n) w
all-below n [] h = tt
all-below n (v ∷ w) h = (h 0 (omega arith), all-below n w (λ i l. h (suc i) (omega arith)))

occurs-below : {g : Graph} {r w : List ℕ} → Walk g w → Occurs r w → All (λ v. v < g.count) r
occurs-below {g} {r} {w} walk o =
    all_left (λ v. v < g.count) r o.after
    (all_right (λ v. v < g.count) o.before (r ++ o.after) (subst (All (λ v. v < g.count)) o.split (all-below g.count w walk.below)))

pub from_lab : (s : List ℕ) (b : Book) → reading s ≡ accepted b → (q : Record) (paths walk : List ℕ) → Tried b q paths walk → q.known < most_paths
    → (r : List ℕ) → 2 ≤ length r → length r ≤ longest_path → Occurs r (take q.length walk)
    → (q' : Record) × ((reporting s q paths walk (failed r)).answer ≡ Ok q')
from_lab s b read q paths walk t room r two eight o = (told s b read q paths walk t r).taken.1 ((two, eight, occurs-below (tried t).walk o), o, room)

pub bound : (s : List ℕ) (b : Book) → reading s ≡ accepted b → (batch : Batch) (area : List ℕ) → area_size ≤ length area → (n : ℕ) → bound_as (binding s batch area) ≡ Ok n
    → (runs : HowMany (OfSheet b batch) n) × (runs.listed ≡ spelled n (area_after (binding s batch area) area))
bound s b read batch area fits n answer =
    let F = known batch b.sets in
    let n-is : n ≡ length F = count-is s b read batch area fits n answer in (
      record {
        listed = F;
        once = (known-set batch b (reading-is-book s b read).well_formed).distinct;
        each = λ r. (known→sheet b batch, sheet→known b batch);
        number = sym n-is;
      },
      sym (ap (λ k. spelled k (area_after (binding s batch area) area)) n-is ∙ (bind-accepted s batch area F (binds s b read batch area fits (dated s batch area n answer))).spells),
    )

-- ---- one that names a vertex twice in succession
-- no arc of a book leads from a vertex to itself
no_loop : (n v : ℕ) (arcs : List Arc) → All (IsArc n) arcs → T (given arcs v v) → ⊥
no_loop n v [] proper t = absurd t
no_loop n v (a ∷ arcs) (is, proper) t =
    ⊎_elim
    (λ here.
    let (tail, head) = T_and (eqb a.tail v) (eqb a.head v) here in
    is.different (eqb→eq a.tail v tail ∙ sym (eqb→eq a.head v head)))
    (no_loop n v arcs proper)
    (or_yes (eqb a.tail v && eqb a.head v) (given arcs v v) (subst T (given_cons a arcs v v) t))

module _ (s : List ℕ) (b : Book) (read : reading s ≡ accepted b) where
  loopless : Loopless (graph b)
  loopless v = no_loop b.count v b.arcs (reading-is-book s b read).well_formed.arcs-proper

  pub never-occurs : (r : List ℕ) → Stutters r → (w : List ℕ) → Walk (graph b) w → Occurs r w → ⊥
  never-occurs r d w walk o = stutter_never_occurs loopless d walk o

  module _ (F G : List (List ℕ)) (to : ButStutters F G) (from : ButStutters G F) (start end : ℕ) where
    pub best : (w : List ℕ) → Best (graph b) F start end w ↔ Best (graph b) G start end w
    best w = (Best-same (but_stutters loopless to) (but_stutters loopless from), Best-same (but_stutters loopless from) (but_stutters loopless to))

    pub none : None (graph b) F start end ↔ None (graph b) G start end
    none = (None-same (but_stutters loopless from), None-same (but_stutters loopless to))

  pub never-named : (q : Record) (paths walk : List ℕ) → Tried b q paths walk → (r : List ℕ) → IsRun b.count r → Stutters r
      → (x : Refusal) × (number_of x ≡ 12) × (reporting s q paths walk (failed r) ≡ answering (Err (rejected x q)) paths walk)
  never-named q paths walk t r run d = (told s b read q paths walk t r).elsewhere.1 (run, never-occurs r d _ (tried t).walk)

pub plans : (s t : List ℕ) (b c : Book) → reading s ≡ accepted b → reading t ≡ accepted c → ButStutteringRuns b c → SamePlans s t
plans s t b c read read' o = same-plans s t b c read read' walks
  where
    walks : SameWalks b c
    walks =
        record {
          same = o.same;
          to = λ batch. but_stutters (loopless s b read) (λ r m. ⊎_elim (λ k. inl (sheet→known b batch k)) inr (o.from batch r (known→sheet c batch m)));
          from = λ batch. but_stutters (loopless s b read) (λ r m. ⊎_elim (λ k. inl (sheet→known c batch k)) inr (o.to batch r (known→sheet b batch m)));
        }
