-- A turn gives the next state its row.
use Rattle.std.proofs.Common.{◌≡◌, refl, ℕ, ◌+◌, ◌-◌, List, length, arith, rules}
use Rattle.std.specs.List.{CopiedTo, SameBelow}
use Rattle.std.proofs.Math.ListN.{length-set}
use Rattle.automaton.specs.Rows.{Copied}
use Rattle.automaton.proofs.Levels.{row_copied}
use Rattle.automaton.proofs.Whole.{waiting_room}
use Rattle.automaton.proofs.Tables.rows.Goals as goal

-- what the library's `copy_within` does to a table
copied_by : {old new : List ℕ} {from to n : ℕ} → length new ≡ length old → CopiedTo old new from to (from + n - from) → SameBelow old new to → Copied old new from to n
copied_by size there before = record { size = size; there = λ v h. grind (arith, there); before = λ x h. before x 0 h }

pub loop-q-init : goal.loop-q-init
loop-q-init c =
    let room = waiting_room c.requires in
    record { room = omega arith; low = room.5; filled = λ F level i latest current taken p. p; same_latest = refl; same_fail = refl; kept = search rules }

pub loop-q-preserved : goal.loop-q-preserved
loop-q-preserved c =
    let l = c.loop-q.invariant in
    let copied = c.copy_within.ensures in
    record {
      room = omega (arith, length-set {A = ℕ});
      low = l.low;
      filled = λ F level i latest current taken p. row_copied (l.filled F level i latest current taken p) taken c.loop-q-test.true (copied_by copied.len copied.by_index.0 copied.by_index.1);
      same_latest = l.same_latest;
      same_fail = l.same_fail;
      kept = search rules;
    }
