-- After q turns the first q vertices are there.
use Rattle.automaton.specs.Lent.{Kept}
use Rattle.automaton.specs.Rows.{Singles}
use Rattle.automaton.proofs.Tables.singles.Given as goal

abbrev pub invariant-loop-q : goal.invariant-loop-q
invariant-loop-q l = record {
  there : Singles l.vertices l.q l.self.steps.now l.self.blocked.now l.self.latest.now;
  kept : Kept l.initial.self l.self;
}
