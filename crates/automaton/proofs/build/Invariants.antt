-- At each level the states of fewer vertices are done.
use Rattle.std.proofs.Common.{List, ℕ}
use Rattle.automaton.specs.Area.{Spells, Bounded}
use Rattle.automaton.specs.Lent.{Kept}
use Rattle.automaton.specs.Progress.{Progress}
use Rattle.automaton.proofs.build.Given as goal

abbrev pub invariant-loop-level : goal.invariant-loop-level
invariant-loop-level l = record {
  done : (F : List (List ℕ)) → Spells l.paths.bytes.now l.paths.count F → Bounded l.vertices F → Progress F l.vertices l.level 0 l.first l.first l.first l.tables.steps.now l.tables.blocked.now l.tables.latest.now l.tables.fail.now l.current;
  kept : Kept l.initial.tables l.tables;
}
