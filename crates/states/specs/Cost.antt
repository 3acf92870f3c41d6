-- What a walk costs: weight, then hops.
use Rattle.std.specs.Prelude.{List, ℕ, suc, ◌+◌, ◌≤◌, length}
use Rattle.walks.specs.Graph.{Graph}
use Rattle.walks.specs.Walk.{weight_from}
use Rattle.walks.specs.Order.{Tiebreak}
use Rattle.states.specs.States.{latest}

pub record Cost : Type 0 where
  pub weight : ℕ
  pub hops : ℕ

infix 20 ◌≤ᶜ◌
abbrev pub ◌≤ᶜ◌ : Cost → Cost → Type 0
x ≤ᶜ y = Tiebreak x.weight y.weight (x.hops ≤ y.hops)

-- The cost of an arc of weight a and then of what costs x.
abbrev pub via : ℕ → Cost → Cost
via a x = record { weight = a + x.weight; hops = suc x.hops }

-- The cost of walking c from state q.
abbrev pub cost_of : Graph → List ℕ → List ℕ → Cost
cost_of g q c = record { weight = weight_from g (latest q) c; hops = length c }
