-- After so many turns the passes to the first vertices are counted.
use Rattle.std.proofs.Common.{◌≡◌, ℕ, ◌<◌, length, get_or}
use Rattle.limits.specs.Limits.{most_vertices}
use Rattle.walks.specs.Graph.{Graph}
use Rattle.walks.specs.Weights.{Weights}
use Rattle.measuring.specs.Counted.{Counted}
use Rattle.pass_cases.proofs.passes_to_each.Given as goal

abbrev pub invariant-loop-end : goal.invariant-loop-end
invariant-loop-end l = record {
  sized : length l.passes ≡ most_vertices;
  counted : (g : Graph) → g.count ≡ l.arcs.vertices → Weights g l.arcs.weights.now → (v : ℕ) → v < l.end → Counted g v (get_or l.passes v 0);
}
