-- The invariant of the trials: what begin brings about and each accepted report keeps.
use Rattle.std.specs.Prelude.{ℕ, suc, ◌+◌, ◌≤◌, ◌<◌, ◌≡◌, ◌≢◌, T, length, take, drop}
use Rattle.std.proofs.Math.Path.{refl, sym}
use Rattle.std.proofs.Common.{ap, subst, subst₂, ◌∙◌, ⊎_elim, arith, ltb→lt, length-append, length-drop}
use mathlib.Core.List.Memᴰ
use mathlib.Core.List.{List, [], ◌∷◌, ◌++◌, append_assoc, append-nil}
use Rattle.std.proofs.Math.Option.{Option, none, some}
use Rattle.std.proofs.Math.Seq.{take-append_seam}
use Rattle.lists.specs.Test.{T_and}
use Rattle.walks.specs.Graph.{Graph}
use Rattle.walks.specs.Walk.{weight_of}
use Rattle.walks.specs.Avoid.{occurs}
use Rattle.walks.proofs.Avoid.{occurs→Occurs}
use Rattle.walks.specs.Best.{Best, None}
use Rattle.book.specs.declared.Refusal.{Refusal}
use Rattle.book.specs.Book.{is_path}
use Rattle.limits.specs.Limits.{most_paths, area_size, longest}
use Rattle.states.specs.Chosen.{Decided}
use Rattle.trial_rules.specs.Trials.{Report, passed, failed, State, standing, ForbiddenSet, Valid, Plan, Planner, refusal, overlaid, holding, step, unless, after, run, accepted, EachAccepted, named, failures, passes, replanned, Begin, begun}
use Rattle.trial_rules.proofs.Lacking.{distinct_snoc}
use Rattle.trial_rules.specs.Accepted.{Accepts}
use Rattle.trial_rules.proofs.Accepted.{begin-accepted, accepts}

-- ---- lists
pub named-failed : (ρs : List Report) (r : List ℕ) → named (ρs ++ (failed r ∷ [])) ≡ named ρs ++ (r ∷ [])
unfolding named
named-failed [] r = refl
named-failed (passed ∷ ρs) r = named-failed ρs r
named-failed (failed q ∷ ρs) r = ap (λ (l : List (List ℕ)). q ∷ l) (named-failed ρs r)

pub named-passed : (ρs : List Report) → named (ρs ++ (passed ∷ [])) ≡ named ρs
unfolding named
named-passed [] = refl
named-passed (passed ∷ ρs) = named-passed ρs
named-passed (failed q ∷ ρs) = ap (λ (l : List (List ℕ)). q ∷ l) (named-passed ρs)

passes-failed : (ρs : List Report) (r : List ℕ) → passes (ρs ++ (failed r ∷ [])) ≡ passes ρs
unfolding passes
passes-failed [] r = refl
passes-failed (passed ∷ ρs) r = ap suc (passes-failed ρs r)
passes-failed (failed q ∷ ρs) r = passes-failed ρs r

passes-passed : (ρs : List Report) → passes (ρs ++ (passed ∷ [])) ≡ suc (passes ρs)
unfolding passes
passes-passed [] = refl
passes-passed (passed ∷ ρs) = ap suc (passes-passed ρs)
passes-passed (failed q ∷ ρs) = passes-passed ρs

module _ (plan : Plan) (s t : ℕ) where
  replanned_snoc : (F rs : List (List ℕ)) (r : List ℕ) (area : List ℕ)
      → replanned plan s t F (rs ++ (r ∷ [])) area ≡ overlaid (plan ((F ++ rs) ++ (r ∷ [])) s t) (replanned plan s t F rs area)
  unfolding replanned
  replanned_snoc F [] r area = rw append-nil refl
  replanned_snoc F (q ∷ rs) r area =
      replanned_snoc (F ++ (q ∷ [])) rs r (overlaid (plan (F ++ (q ∷ [])) s t) area) ∙ rw (append_assoc F (q ∷ []) rs) refl

-- ---- induction over the reports
module _ (g : Graph) (plan : Plan) where
  -- What each accepted report keeps, and a refused one does not touch, holds after every list of reports.
  pub kept : (P : List Report → State → Type 0) (Q : State → Report → Type 0)
      → ((done : List Report) (σ : State) (ρ : Report) → P done σ → refusal g σ ρ ≡ none → Q σ ρ → P (done ++ (ρ ∷ [])) (step g plan σ ρ))
      → (ρs : List Report) (done : List Report) (σ : State) → EachAccepted g plan Q σ ρs → P done σ
      → P (done ++ accepted g plan σ ρs) (run g plan σ ρs)
  unfolding run accepted EachAccepted
  kept P Q keeps [] done σ each p = rw append-nil p
  kept P Q keeps (ρ ∷ ρs) done σ each p = go (refusal g σ ρ) refl (kept P Q keeps ρs) each.1
    where
      go : (o : Option Refusal) → refusal g σ ρ ≡ o
          → ((done' : List Report) (σ' : State) → EachAccepted g plan Q σ' ρs → P done' σ' → P (done' ++ accepted g plan σ' ρs) (run g plan σ' ρs))
          → EachAccepted g plan Q (unless o (step g plan σ ρ) σ) ρs
          → P (done ++ unless o (ρ ∷ accepted g plan (unless o (step g plan σ ρ) σ) ρs) (accepted g plan (unless o (step g plan σ ρ) σ) ρs))
          (run g plan (unless o (step g plan σ ρ) σ) ρs)
      go none e rec rest =
          rw (append_assoc done (ρ ∷ []) (accepted g plan (step g plan σ ρ) ρs))
          at (rec (done ++ (ρ ∷ [])) (step g plan σ ρ) rest (keeps done σ ρ p e (each.0 e)))
      go (some x) e rec rest = rec done σ rest p

  pub anything : (σ : State) (ρs : List Report) → EachAccepted g plan (λ σ' ρ. Unit) σ ρs
  unfolding EachAccepted
  anything σ [] = tt
  anything σ (ρ ∷ ρs) = (λ e. tt, anything (after g plan σ ρ) ρs)

-- ---- one plan
length-overlaid : (w area : List ℕ) → length w ≤ longest → longest ≤ length area → length (overlaid (some w) area) ≡ length area
length-overlaid w area short long = rw (length-append w (drop (length w) area), length-drop (length w) area) (omega arith)

-- What a plan for F brings about, in begin and in a failed report.
record Fresh (g : Graph) (F : List (List ℕ)) (s t : ℕ) (area : List ℕ) (σ : State) : Type 0 where
  valid : Valid g σ
  best : σ.rec.stage ≢ 2 → Best g F s t (standing σ)
  nothing : σ.rec.stage ≡ 2 → None g F s t
  area-length : length σ.area ≡ length area

module _
    {g : Graph} {plan : Plan} (planner : Planner g plan) (F : List (List ℕ)) (s t first failures : ℕ) (beyond area : List ℕ)
    (set : ForbiddenSet g.count F)
    (start : s < g.count)
    (end' : t < g.count)
    (sum : length F ≡ first + failures)
    (long : longest ≤ length area)
  where
    planned : (p : Option (List ℕ)) → Decided g F s t p → Fresh g F s t area (holding g p F s t first failures beyond area)
    planned none n =
        record {
          valid =
              record {
                set = set;
                known = refl;
                stage = omega arith;
                start = start;
                end = end';
                sum = sum;
                passed = refl;
                short = omega arith;
                walk = λ ne. absurd (ne refl);
                litres = λ ne. absurd (ne refl);
                no_walk = λ e. (refl, refl);
              };
          best = λ ne. absurd (ne refl);
          nothing = λ e. n;
          area-length = refl;
        }
    planned (some w) (b, l) =
        let stands : take (length w) (w ++ drop (length w) area) ≡ w = take-append_seam w (drop (length w) area) in
        record {
          valid =
              record {
                set = set;
                known = refl;
                stage = omega arith;
                start = start;
                end = end';
                sum = sum;
                passed = refl;
                short = l;
                walk = λ ne. rw stands b.feasible;
                litres = λ ne. ap (weight_of g) (sym stands);
                no_walk = λ e. absurd (omega arith);
              };
          best = λ ne. rw stands b;
          nothing = λ e. absurd (omega arith);
          area-length = length-overlaid w area l long;
        }

    fresh : Fresh g F s t area (holding g (plan F s t) F s t first failures beyond area)
    fresh = planned (plan F s t) (planner.plans F s t set start end')

-- A named path that stands in the walk is not known already: the set with it is one that 9 takes.
pub one_more : (g : Graph) (σ : State) (r : List ℕ) → Accepts g σ (failed r) → ForbiddenSet g.count (σ.forbidden ++ (r ∷ []))
one_more g σ r a =
    let v = a.valid in
    let open-stage : σ.rec.stage ≢ 2 = λ e. omega (arith, a.stage) in
    let n = T_and (is_path g.count r) (occurs r (standing σ)) a.named in
    let stands = occurs→Occurs r (standing σ) n.1 in
    let room = ltb→lt σ.rec.known most_paths a.room in
    record {
      few = rw length-append (omega (arith, v.known));
      distinct = distinct_snoc σ.forbidden r v.set.distinct (λ m. (v.walk open-stage).clear r m stands);
      taken =
          λ q m.
          ⊎_elim (v.set.taken q) (λ k. subst (λ (x : List ℕ). T (is_path g.count x)) (sym (Memᴰ.eq_of_singleton k)) n.0)
          (Memᴰ.append_cases σ.forbidden m);
    }

-- ---- the invariant
module _ (b : Begin) where
  open b use {graph as g, plan, planner, bound as F₀, bound-set as bound, start as s, end as t, paths, area}

  -- What the claim follows from: begin brings it about, and each accepted report keeps it.
  pub record Invariant (done : List Report) (σ : State) : Type 0 where
    pub start : σ.rec.start ≡ s
    pub end : σ.rec.end ≡ t
    pub first : σ.rec.first ≡ length F₀
    pub failed-count : σ.rec.failed ≡ failures done
    pub passed-count : σ.rec.passed ≡ passes done
    pub forbidden : σ.forbidden ≡ F₀ ++ named done
    pub beyond : σ.beyond ≡ drop area_size paths
    pub area-bytes : σ.area ≡ replanned plan s t F₀ (named done) (overlaid (plan F₀ s t) area)
    pub area-length : length σ.area ≡ length area
    pub valid : Valid g σ
    pub best : σ.rec.stage ≢ 2 → Best g σ.forbidden s t (standing σ)
    pub nothing : σ.rec.stage ≡ 2 → None g σ.forbidden s t

  pub invariant_begin : Invariant [] (begun b)
  unfolding named passes replanned
  invariant_begin =
      let a = begin-accepted b in
      let f = fresh planner F₀ s t (length F₀) 0 (drop area_size paths) area bound a.start a.end (omega arith) a.area-fits in
      record {
        start = refl;
        end = refl;
        first = refl;
        failed-count = refl;
        passed-count = refl;
        forbidden = sym (append-nil F₀);
        beyond = refl;
        area-bytes = refl;
        area-length = f.area-length;
        valid = f.valid;
        best = f.best;
        nothing = f.nothing;
      }

  invariant_passed : (done : List Report) (σ : State) → Invariant done σ → Accepts g σ passed → Invariant (done ++ (passed ∷ [])) (step g plan σ passed)
  invariant_passed done σ c a =
      let v = c.valid in
      let none_yet : passes done ≡ 0 = sym c.passed-count ∙ v.passed ∙ rw a.stage refl in
      let open-stage : σ.rec.stage ≢ 2 = λ e. omega (arith, a.stage) in
      record {
        start = c.start;
        end = c.end;
        first = c.first;
        failed-count = rw named-passed c.failed-count;
        passed-count = rw (passes-passed done, none_yet) refl;
        forbidden = rw named-passed c.forbidden;
        beyond = c.beyond;
        area-bytes = rw named-passed c.area-bytes;
        area-length = c.area-length;
        valid =
            record {
              set = v.set;
              known = v.known;
              stage = omega arith;
              start = v.start;
              end = v.end;
              sum = v.sum;
              passed = refl;
              short = v.short;
              walk = λ ne. v.walk open-stage;
              litres = λ ne. v.litres open-stage;
              no_walk = λ e. absurd (omega arith);
            };
        best = λ ne. c.best open-stage;
        nothing = λ e. absurd (omega arith);
      }

  invariant_failed : (done : List Report) (σ : State) (r : List ℕ) → Invariant done σ → Accepts g σ (failed r)
      → Invariant (done ++ (failed r ∷ [])) (step g plan σ (failed r))
  invariant_failed done σ r c a =
      let v = c.valid in
      let F = σ.forbidden ++ (r ∷ []) in
      let set = one_more g σ r a in
      let count : length F ≡ σ.rec.first + suc σ.rec.failed = rw length-append (omega (arith, v.known, v.sum)) in
      let r' = σ.rec in
      let f = fresh planner F r'.start r'.end r'.first (suc r'.failed) σ.beyond σ.area set v.start v.end count a.area-fits in
      record {
        start = c.start;
        end = c.end;
        first = c.first;
        failed-count = rw (named-failed done r, length-append (named done) (r ∷ [])) (omega (arith, c.failed-count));
        passed-count = rw passes-failed (sym (sym c.passed-count ∙ v.passed ∙ rw a.stage refl));
        forbidden = rw (named-failed done r, c.forbidden) (append_assoc F₀ (named done) (r ∷ []));
        beyond = c.beyond;
        area-bytes =
            rw (named-failed done r, replanned_snoc plan s t F₀ (named done) r (overlaid (plan F₀ s t) area), ← c.forbidden, ← c.area-bytes, c.start, c.end) refl;
        area-length = f.area-length ∙ c.area-length;
        valid = f.valid;
        best = λ ne. subst₂ (λ (x y : ℕ). Best g F x y (standing (step g plan σ (failed r)))) c.start c.end (f.best ne);
        nothing = λ e. subst₂ (λ (x y : ℕ). None g F x y) c.start c.end (f.nothing e);
      }

  pub invariant_step : (done : List Report) (σ : State) (ρ : Report) → Invariant done σ → refusal g σ ρ ≡ none → Invariant (done ++ (ρ ∷ [])) (step g plan σ ρ)
  invariant_step done σ passed c e = invariant_passed done σ c (accepts g σ passed e)
  invariant_step done σ (failed r) c e = invariant_failed done σ r c (accepts g σ (failed r) e)
