-- The laws of what specs/Claim.antt defines.
use Rattle.std.specs.Prelude.{ℕ, ◌+◌, ◌≡◌, Bool, true, false, cond, eqb, length}
use Rattle.std.proofs.Math.Path.{refl, ap}
use Rattle.std.proofs.Common.{sym, ◌∙◌, arith, eqb-true, eq-eqb, length-append, length-drop}
use mathlib.Core.List.{List, [], ◌∷◌, Memᴰ}
use Rattle.std.proofs.Math.Logic.{by_cases}
use Rattle.std.proofs.Math.Option.{Option, none, some}
use Rattle.std.proofs.Math.Decide.{ℕ_discrete}
use Rattle.lists.specs.Test.{T→true, true→T, and-true}
use Rattle.walks.specs.Graph.{Graph}
use Rattle.walks.specs.Avoid.{occurs}
use Rattle.walks.proofs.Avoid.{occurs→Occurs}
use Rattle.walks.proofs.Best.{Best-not-None}
use Rattle.book.specs.declared.Refusal.{Refusal}
use Rattle.book.specs.Refusal.{numbered}
use Rattle.book.specs.RefusalLaws.{Fails, here, later}
use Rattle.book.proofs.RefusalLaws.{first-fails}
use Rattle.book.specs.Book.{path_length, are_vertices, is_path}
use Rattle.rules.specs.Area.{written}
use Rattle.limits.specs.Limits.{area_size}
use Rattle.rules.proofs.Sets.{refuted}
use Rattle.rules.proofs.ValidLaws.{written-length}
use Rattle.trial_rules.specs.Trials.{Report, passed, failed, State, standing, oracle_tests, passed_in, Plan, refusal, step, unless, run, accepted, named, failures, passes, Begin, begun, state_after, accepted_of}
use Rattle.trial_rules.proofs.Tests.{set-paths, set-once}
use Rattle.trial_rules.proofs.Accepted.{begin-accepted, only-oracle}
use Rattle.trial_rules.proofs.Invariant.{Invariant, invariant_begin, invariant_step, kept, anything}
use Rattle.trial_rules.specs.Claim.{Claim}

-- ---- proof
count-all : (ρs : List Report) → failures ρs + passes ρs ≡ length ρs
unfolding named passes
count-all [] = refl
count-all (passed ∷ ρs) = omega (arith, count-all ρs)
count-all (failed r ∷ ρs) = omega (arith, count-all ρs)

one_just_in_stage_1 : (n : ℕ) → passed_in n ≡ 1 → n ≡ 1
one_just_in_stage_1 n e = go (eqb n 1) refl e
  where
    go : (b : Bool) → eqb n 1 ≡ b → ◌≡◌ {A = ℕ} (cond b 1 0) 1 → n ≡ 1
    go true p q = eqb-true n 1 p
    go false p q = absurd (omega arith)

pub claimed : (b : Begin) (done : List Report) (σ : State) → Invariant b done σ → Claim b done σ
claimed b done σ c =
    let v = c.valid in
    let g = b.graph in
    let a = begin-accepted b in
    let F = σ.forbidden in
    let full = written-length g.count F v.set.few (set-paths g.count F v.set) (set-once g.count F v.set) [] in
    record {
      start = c.start;
      end = c.end;
      first = c.first;
      known = omega (arith, v.sum, c.first, c.failed-count);
      failed-count = c.failed-count;
      passed-count = c.passed-count;
      trials-count = omega (arith, c.failed-count, c.passed-count, count-all done);
      forbidden = c.forbidden;
      path_bytes = rw (c.forbidden, c.beyond) refl;
      path-length = length-append (written F) σ.beyond ∙ omega (arith, full, ap length c.beyond ∙ length-drop area_size b.paths, a.paths-fit);
      area-bytes = c.area-bytes;
      area-length = c.area-length;
      valid = v;
      best = c.best;
      nothing = (
        c.nothing,
        λ n. by_cases (ℕ_discrete σ.rec.stage 2) (λ e. e) (λ (ne : ¬ (σ.rec.stage ≡ 2)). absurd (Best-not-None (c.best ne) n)),
      );
      passed-stage =
          (λ e. sym c.passed-count ∙ v.passed ∙ rw e refl, λ e. one_just_in_stage_1 σ.rec.stage (sym v.passed ∙ c.passed-count ∙ e));
      refusals = λ ρ. only-oracle g σ ρ (omega (arith, c.area-length, a.area-fits)) v;
    }

-- The claim about the list: for every accepted begin and every list of reports after it, refused ones included.
pub claim : (b : Begin) (ρs : List Report) → Claim b (accepted_of b ρs) (state_after b ρs)
claim b ρs =
    claimed b (accepted_of b ρs) (state_after b ρs)
    (kept b.graph b.plan (Invariant b) (λ σ ρ. Unit) (λ done σ ρ c e u. invariant_step b done σ ρ c e) ρs [] (begun b)
    (anything b.graph b.plan (begun b) ρs) (invariant_begin b))

module _ (g : Graph) (plan : Plan) where
  -- A refused report is as if not made: the accepted reports alone lead to the same state.
  pub refused_as_if_not_made : (σ : State) (ρs : List Report) → run g plan σ (accepted g plan σ ρs) ≡ run g plan σ ρs
  unfolding run accepted
  refused_as_if_not_made σ [] = refl
  refused_as_if_not_made σ (ρ ∷ ρs) = go (refusal g σ ρ) refl (λ σ'. refused_as_if_not_made σ' ρs)
    where
      go : (o : Option Refusal) → refusal g σ ρ ≡ o → ((σ' : State) → run g plan σ' (accepted g plan σ' ρs) ≡ run g plan σ' ρs)
          → run g plan σ (unless o (ρ ∷ accepted g plan (unless o (step g plan σ ρ) σ) ρs) (accepted g plan (unless o (step g plan σ ρ) σ) ρs))
          ≡ run g plan (unless o (step g plan σ ρ) σ) ρs
      go none e rec =
          ap (λ (o : Option Refusal). run g plan (unless o (step g plan σ ρ) σ) (accepted g plan (step g plan σ ρ) ρs)) e
          ∙ rec (step g plan σ ρ)
      go (some x) e rec = rec σ

-- A path that is known already does not stand in the walk: naming it is refused under 12.
pub known-refused : (b : Begin) (done : List Report) (σ : State) → Claim b done σ → σ.rec.stage ≡ 0 → (r : List ℕ) → Memᴰ r σ.forbidden
    → refusal b.graph σ (failed r) ≡ some (numbered 12 0)
unfolding is_path
known-refused b done σ c e r m =
    let (sized, vertices) = proper in
    let fails : Fails (oracle_tests b.graph σ (failed r)) (numbered 12 0) =
    later (eq-eqb _ _ e) (later sized (later vertices (here (refuted (occurs r (standing σ)) absent)))) in
    c.refusals (failed r) ∙ first-fails fails
  where
    absent : occurs r (standing σ) ≡ true → ⊥
    absent t = (c.valid.walk (λ f. omega arith)).clear r m (occurs→Occurs r (standing σ) (true→T _ t))

    proper : (path_length (length r) ≡ true) × (are_vertices b.graph.count r ≡ true)
    proper = and-true (path_length (length r)) (are_vertices b.graph.count r) (T→true _ (c.valid.set.taken r m))
