-- After i turns the first i paths have been taken at this level.
use Rattle.std.proofs.Common.{List, ℕ}
use Rattle.automaton.specs.Area.{Spells}
use Rattle.automaton.specs.Lent.{Kept}
use Rattle.automaton.specs.Progress.{Progress}
use Rattle.automaton.proofs.Tables.children.Given as goal

abbrev pub invariant-loop-i : goal.invariant-loop-i
invariant-loop-i l = record {
  taken : (F : List (List ℕ)) (n : ℕ) → Spells l.paths.bytes.now l.paths.count F → Progress F n l.level 0 l.first l.first l.first l.initial.self.steps.now l.initial.self.blocked.now l.initial.self.latest.now l.initial.self.fail.now l.initial.current
      → Progress F n l.level l.i l.first l.first l.states l.self.steps.now l.self.blocked.now l.self.latest.now l.self.fail.now l.current;
  kept : Kept l.initial.self l.self;
}
