-- When begin and a report are accepted: each test of theirs holds.
use Rattle.std.specs.Prelude.{◌≤◌, ◌<◌, ◌≡◌, T, length}
use Rattle.walks.specs.Graph.{Graph}
use Rattle.limits.specs.Limits.{area_size, longest}
use Rattle.trial_rules.specs.Trials.{Report, State, is_named, has_room, Valid, Begin}

-- What an accepted begin has passed.
pub record Accepted (b : Begin) : Type 0 where
  pub paths-fit : area_size ≤ length b.paths
  pub area-fits : longest ≤ length b.area
  pub start : b.start < b.graph.count
  pub end : b.end < b.graph.count

-- An accepted report: what holds of the state and of the report.
pub record Accepts (g : Graph) (σ : State) (ρ : Report) : Type 0 where
  pub area-fits : longest ≤ length σ.area
  pub valid : Valid g σ
  pub stage : σ.rec.stage ≡ 0
  pub named : T (is_named g σ ρ)
  pub room : T (has_room σ ρ)
