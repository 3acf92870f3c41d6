-- The claim about the list (01, 'Trials'): after every list of reports the record and every byte of both areas are those that the three
-- rules give, and failed and passed count the accepted reports of their kind.
use Rattle.std.specs.Prelude.{◌+◌, ◌≡◌, ◌≢◌, ◌↔◌, length, drop}
use mathlib.Core.List.{List, ◌++◌}
use Rattle.walks.specs.Best.{Best, None}
use Rattle.book.specs.Refusal.{refusal_by}
use Rattle.rules.specs.Area.{written}
use Rattle.limits.specs.Limits.{area_size}
use Rattle.trial_rules.specs.Trials.{Report, passed, failed, State, path_area, standing, trials, oracle_tests, Valid, refusal, overlaid, named, failures, passes, replanned, Begin}

module _ (b : Begin) where
  open b use {graph as g, plan, bound as F₀, start as s, end as t, paths, area}

  -- What holds of the state σ that the begin and then the accepted reports `done` led to.
  pub record Claim (done : List Report) (σ : State) : Type 0 where
    -- the record: failed and passed count the accepted reports of their kind, and trials all of them
    pub start : σ.rec.start ≡ s
    pub end : σ.rec.end ≡ t
    pub first : σ.rec.first ≡ length F₀
    pub known : σ.rec.known ≡ length F₀ + failures done
    pub failed-count : σ.rec.failed ≡ failures done
    pub passed-count : σ.rec.passed ≡ passes done
    pub trials-count : trials σ ≡ length done
    -- the known paths: the binding ones, then those named, in order
    pub forbidden : σ.forbidden ≡ F₀ ++ named done
    -- every byte of both areas
    pub path_bytes : path_area σ ≡ written (F₀ ++ named done) ++ drop area_size paths
    pub path-length : length (path_area σ) ≡ length paths
    pub area-bytes : σ.area ≡ replanned plan s t F₀ (named done) (overlaid (plan F₀ s t) area)
    pub area-length : length σ.area ≡ length area
    -- 9 never holds: among others the known paths are all different, and length and litres are those of the standing walk, or 0 in stage 2
    pub valid : Valid g σ
    -- in stages 0 and 1 the best walk stands; in stage 2, and just there, there is none; stage 1 comes with the accepted passed report
    pub best : σ.rec.stage ≢ 2 → Best g σ.forbidden s t (standing σ)
    pub nothing : (σ.rec.stage ≡ 2) ↔ None g σ.forbidden s t
    pub passed-stage : (σ.rec.stage ≡ 1) ↔ (passes done ≡ 1)
    -- a report is refused only for what its oracle does: 11, 16, 17, 12, 13
    pub refusals : (ρ : Report) → refusal g σ ρ ≡ refusal_by (oracle_tests g σ ρ)
