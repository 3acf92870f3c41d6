-- After v turns the first v steps are there.
use Rattle.automaton.specs.Rows.{Filled}
use Rattle.automaton.proofs.single_row.Given as goal

abbrev pub invariant-loop-v : goal.invariant-loop-v
invariant-loop-v l = Filled l.initial.steps l.steps l.from l.v
