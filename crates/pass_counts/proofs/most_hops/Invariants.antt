-- After v turns the first v entries are counted.
use Rattle.std.proofs.Common.{◌≡◌}
use Rattle.pass_counts.specs.Most.{most_hops}
use Rattle.pass_counts.proofs.most_hops.Given as goal

abbrev pub invariant-loop-v : goal.invariant-loop-v
invariant-loop-v l = l.greatest ≡ most_hops l.table l.v l.most
