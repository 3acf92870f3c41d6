-- The sums of 02, order 2: runs that come back to a grade, on book A under marks 3, start 0, end 3. What the operations answer is from the bytes of a book,
-- on every date, and for all lent areas that are long enough.
use Rattle.std.specs.Prelude.{ℕ, ◌≤◌, ◌≡◌, refl, List, [], ◌∷◌, ◌++◌, length, drop, Ok}
use Rattle.std.proofs.Common.{sym, ap, inl, arith, length-append}
use mathlib.Core.List.Memᴰ
use Rattle.std.proofs.Math.Option.{none, some}
use Rattle.std.proofs.lemmas.List.{length-replicate}
use Rattle.walks.specs.Walk.{weight_of, hops}
use Rattle.walks.proofs.Avoid.{avoids→Avoids}
use Rattle.walks.specs.Best.{Feasible}
use Rattle.walks.proofs.Best.{Best-mono}
use Rattle.walks.specs.Feasible.{is_feasible}
use Rattle.walks.proofs.Feasible.{is_feasible→Feasible}
use Rattle.book.specs.declared.Refusal.TheVariants.{NoVertex}
use Rattle.book.specs.Book.{all_paths, is_path, are_vertices}
use Rattle.book.specs.Reading.{reading, read_as}
use Rattle.rules.specs.Binding.{covers, applied, once}
use Rattle.rules.specs.Area.{written}
use Rattle.rules.proofs.ValidLaws.{written-valid, written-spells}
use Rattle.rules.specs.Operations.{binding, bound_as}
use Rattle.limits.specs.Limits.{area_size, longest}
use Rattle.planner.specs.Planning.{Planning, walked, Answer as Outcome}
use Rattle.trial_rules.specs.Trials.{failed, ForbiddenSet, refusal, is_forbidden_set}
use Rattle.trial_rules.proofs.Tests.{is_forbidden_set→, set-paths, set-once}
use Rattle.series.specs.Reports.{reports_in}
use Rattle.text.specs.Text.{digits, followed}
use Rattle.examples.specs.GraphA.{forbidden_a, best_a}
use Rattle.examples.specs.Batches.{marks, ForDates, ForDateBytes}
use Rattle.examples.specs.Books.{bytes_a, book_a, book-A, bytes_stutter, book_stutter, book_stutter_lem}
use Rattle.examples.specs.Walks.{Plan, marks_3, named-121}
use Rattle.examples.specs.Plans.{Only, under, walk-given}
use Rattle.examples.specs.Sums.{ForLent, Plans, Stands, Leads, Replays, begun-3, after_one, binds, plans, graph_a, taken-one, run-one, replays}
use Rattle.examples.specs.Trials.{at-start}
use Rattle.examples.specs.Printed.{Prints, prints-found, listing}

-- Planning from 0 to 3 in book A, under a runs area with the runs F and any bytes after its entries, answers r and nothing else, with w in the front of
-- the line-up area and the bytes after it as lent.
abbrev pub PlansUnder : List (List ℕ) → Outcome → List ℕ → Type 0
PlansUnder F r w =
    (beyond walk : List ℕ) → longest ≤ length walk → Only (Planning bytes_a (written F ++ beyond) (length F) 0 3 walk) r (w ++ drop (length w) walk)

-- The runs of marks 3 and 1 2 1; and the state after 1 2 1 was named.
abbrev pub runs-121 : List (List ℕ)
runs-121 = (0 ∷ 1 ∷ 2 ∷ 3 ∷ []) ∷ (0 ∷ 2 ∷ 3 ∷ []) ∷ (1 ∷ 2 ∷ 1 ∷ []) ∷ []

abbrev pub after-121 : Stands
after-121 = after_one (1 ∷ 2 ∷ 1 ∷ [])

pub record Sums : Type 0 where
  -- From marks 3, named 1 2 1: then 0 1 3, 500; known 3, failed 1. By the single operation, and as a list of reports.
  pub named-121 : Leads begun-3 (failed (1 ∷ 2 ∷ 1 ∷ [])) after-121
  pub list_121 : ForDates (λ date. Replays (marks 3 date) (1 ∷ 3 ∷ 1 ∷ 2 ∷ 1 ∷ []) after-121)
  -- Planning under a runs area with these three: 0 1 3, 500, 2 changeovers. 0 2 1 2 3 avoids them too and loses 500, in 4 changeovers.
  pub under-121 : PlansUnder runs-121 (walked 500 2) (0 ∷ 1 ∷ 3 ∷ [])
  pub as_light : Feasible graph_a runs-121 0 3 (0 ∷ 2 ∷ 1 ∷ 2 ∷ 3 ∷ []) × (weight_of graph_a (0 ∷ 2 ∷ 1 ∷ 2 ∷ 3 ∷ []) ≡ 500) × (hops (0 ∷ 2 ∷ 1 ∷ 2 ∷ 3 ∷ []) ≡ 4)
  -- With one more sheet, which needs 0 and has the run 1 1: it is read, with a sheet and a run more than book A; three runs are known; the plan is as
  -- without it, 0 1 2 1 2 3, 450, 5 changeovers, and `plan` prints it.
  pub read-A : read_as (reading bytes_a) ≡ Ok (record { vertices = 4; arcs = 6; sets = 2; paths = 2 })
  pub read-11 : read_as (reading bytes_stutter) ≡ Ok (record { vertices = 4; arcs = 6; sets = 3; paths = 3 })
  pub bound-11 : ForDates (λ date. (paths : List ℕ) → area_size ≤ length paths → bound_as (binding bytes_stutter (marks 3 date) paths) ≡ Ok 3)
  pub plan-11 : ForDates (λ date. Plans bytes_stutter (marks 3 date) 0 3 (walked 450 5) (0 ∷ 1 ∷ 2 ∷ 1 ∷ 2 ∷ 3 ∷ []))
  pub printed_11 : ForDateBytes (λ date. Prints ((0 ∷ 3 ∷ 0 ∷ 3 ∷ []) ++ (date ++ bytes_stutter)) listing)
  -- Named at the start of marks 3, where 0 1 2 1 2 3 stands: 2 1 2 and 2 1 2 3 are taken; 3 4, whose 4 is no grade, is refused under 17.
  pub takes-212 : ForLent (λ paths walk. refusal graph_a (begun-3 paths walk) (failed (2 ∷ 1 ∷ 2 ∷ [])) ≡ none)
  pub takes-2123 : ForLent (λ paths walk. refusal graph_a (begun-3 paths walk) (failed (2 ∷ 1 ∷ 2 ∷ 3 ∷ [])) ≡ none)
  pub refuses-34 : ForLent (λ paths walk. refusal graph_a (begun-3 paths walk) (failed (3 ∷ 4 ∷ [])) ≡ some NoVertex)

plans-under : (F : List (List ℕ)) → ForbiddenSet 4 F → (w : List ℕ) (n k : ℕ) → Plan graph_a F 0 3 w n k → PlansUnder F (walked n k) w
plans-under F set w n k p beyond walk long =
    let paths = set-paths 4 F set in
    let different = set-once 4 F set in
    let fits : area_size ≤ length (written F ++ beyond) = simp (length-append, length-replicate) (omega arith) in
    under bytes_a book_a book-A 0 3 refl refl (written F ++ beyond) (length F) F fits (written-valid 4 F set.few paths different beyond)
    (written-spells 4 F set.few paths different beyond) walk long (walked n k) (w ++ drop (length w) walk)
    (record { walk = w; best = p.best; weight_is = sym p.weighs; hops-is = sym p.takes; area-is = refl })

-- the plan avoids 1 1 too
best-11 : Plan graph_a (forbidden_a ++ ((1 ∷ 1 ∷ []) ∷ [])) 0 3 best_a 450 5
best-11 =
    record { best = Best-mono (λ r m. Memᴰ.append_left _ m) marks_3.best (avoids→Avoids (forbidden_a ++ ((1 ∷ 1 ∷ []) ∷ [])) best_a tt); weighs = refl; takes = refl }

pub sums : Sums
unfolding is_forbidden_set once is_path are_vertices reports_in is_feasible all_paths covers applied digits followed
sums =
    record {
      named-121 = λ paths walk fits long. (taken-one paths walk fits long (1 ∷ 2 ∷ 1 ∷ []) tt refl named-121.best).left;
      list_121 = λ date valid paths walk fits long. replays paths walk fits long date valid (1 ∷ 3 ∷ 1 ∷ 2 ∷ 1 ∷ []) (after-121 paths walk) (run-one paths walk fits long (1 ∷ 2 ∷ 1 ∷ []) tt refl named-121.best date);
      under-121 = plans-under runs-121 (is_forbidden_set→ 4 runs-121 tt) (0 ∷ 1 ∷ 3 ∷ []) 500 2 named-121;
      as_light = (is_feasible→Feasible graph_a runs-121 0 3 (0 ∷ 2 ∷ 1 ∷ 2 ∷ 3 ∷ []) tt, refl, refl);
      read-A = ap read_as book-A;
      read-11 = ap read_as book_stutter_lem;
      bound-11 = λ date valid paths fits. ap bound_as (binds bytes_stutter book_stutter book_stutter_lem (marks 3 date) valid paths fits);
      plan-11 = λ date. plans bytes_stutter book_stutter book_stutter_lem (marks 3 date) 0 3 (walked 450 5) best_a (walk-given bytes_stutter book_stutter book_stutter_lem (marks 3 date) 0 3 refl refl best_a 450 5 best-11);
      printed_11 = λ day month high low valid. prints-found bytes_stutter book_stutter book_stutter_lem 0 3 0 3 refl refl day month high low valid listing (inl (best_a, best-11.best, refl));
      takes-212 = λ paths walk fits long. at-start paths walk fits long (2 ∷ 1 ∷ 2 ∷ []);
      takes-2123 = λ paths walk fits long. at-start paths walk fits long (2 ∷ 1 ∷ 2 ∷ 3 ∷ []);
      refuses-34 = λ paths walk fits long. at-start paths walk fits long (3 ∷ 4 ∷ []);
    }
