-- What a planner answers: the best walk where there is one, and none where there is none.
use Rattle.std.specs.Prelude.{ℕ, ◌<◌, ◌≡◌, refl, List}
use Rattle.std.proofs.Common.{ap}
use Rattle.std.proofs.Math.Option.{Option, none, some}
use Rattle.walks.specs.Graph.{Graph}
use Rattle.walks.specs.Best.{Best, None}
use Rattle.walks.proofs.Best.{Best-unique, Best-not-None}
use Rattle.states.specs.Chosen.{Decided}
use Rattle.trial_rules.specs.Trials.{ForbiddenSet, Plan, Planner}

module _
    {g : Graph} {plan : Plan} (planner : Planner g plan) {F : List (List ℕ)} {s t : ℕ}
    (set : ForbiddenSet g.count F) (start : s < g.count) (end : t < g.count)
  where
    pub plan-best : {w : List ℕ} → Best g F s t w → plan F s t ≡ some w
    plan-best {w} b = go (plan F s t) (planner.plans F s t set start end)
      where
        go : (p : Option (List ℕ)) → Decided g F s t p → p ≡ some w
        go none n = absurd (Best-not-None b n)
        go (some v) (c, short) = ap some (Best-unique c b)

    pub plan-none : None g F s t → plan F s t ≡ none
    plan-none n = go (plan F s t) (planner.plans F s t set start end)
      where
        go : (p : Option (List ℕ)) → Decided g F s t p → p ≡ none
        go none _ = refl
        go (some v) (c, short) = absurd (Best-not-None c n)
