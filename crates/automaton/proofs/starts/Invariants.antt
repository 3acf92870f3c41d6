-- After i turns the first i paths stand at their first vertex.
use Rattle.automaton.specs.Rows.{Starts}
use Rattle.automaton.proofs.starts.Given as goal

abbrev pub invariant-loop-i : goal.invariant-loop-i
invariant-loop-i l = Starts l.paths.bytes.now l.i l.current
