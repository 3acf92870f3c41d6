-- After each turn one state more has its row. The link of each state that waits is to a state that has its row.
use Rattle.std.proofs.Common.{List, ◌≡◌, ℕ, ◌*◌, ◌<◌, ◌≤◌, length, get_or}
use Rattle.states.specs.Count.{most_states}
use Rattle.automaton.specs.Lent.{Kept}
use Rattle.automaton.specs.Progress.{Progress}
use Rattle.automaton.proofs.Tables.rows.Given as goal

abbrev pub invariant-loop-q : goal.invariant-loop-q
invariant-loop-q l = record {
  room : (l.q ≤ l.states) × (l.vertices ≤ 64) × (l.states ≤ most_states) × (l.states * 64 ≤ length l.self.steps.now) × (l.states ≤ length l.self.blocked.now) × (l.states ≤ length l.self.fail.now);
  low : (k : ℕ) → l.first ≤ k → k < l.states → get_or l.self.fail.now k 0 < l.first;
  filled : (F : List (List ℕ)) (level i : ℕ) (latest current : List ℕ) → length F ≤ i → Progress F l.vertices level i l.first l.first l.states l.initial.self.steps.now l.initial.self.blocked.now latest l.initial.self.fail.now current
      → Progress F l.vertices level i l.first l.q l.states l.self.steps.now l.self.blocked.now latest l.self.fail.now current;
  same_latest : l.self.latest.now ≡ l.initial.self.latest.now;
  same_fail : l.self.fail.now ≡ l.initial.self.fail.now;
  kept : Kept l.initial.self l.self;
}
