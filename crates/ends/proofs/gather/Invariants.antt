-- The entries are the least over the states before the turn's.
use Rattle.ends.specs.Least.{Gathered}
use Rattle.ends.proofs.gather.Given as goal

abbrev pub invariant-loop-q : goal.invariant-loop-q
invariant-loop-q l = Gathered l.latest l.table l.q l.least
