-- After i items the table is that of a book, from which the others go on.
use Rattle.listed.specs.StandingLaws.{Going}
use Rattle.listed.proofs.load.Given as goal

abbrev pub invariant-loop-i : goal.invariant-loop-i
invariant-loop-i l = Going l.vertices l.arcs l.i l.weights
