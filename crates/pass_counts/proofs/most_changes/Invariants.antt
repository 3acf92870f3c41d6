-- After so many turns the plans from the first starts are counted.
use Rattle.std.proofs.Common.{◌≡◌}
use Rattle.pass_counts.specs.Most.{most_from}
use Rattle.pass_counts.proofs.most_changes.Given as goal

abbrev pub invariant-loop-start : goal.invariant-loop-start
invariant-loop-start l = l.most ≡ most_from l.bytes l.vertices l.start
