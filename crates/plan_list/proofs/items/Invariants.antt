-- The items so far stand in the array.
use Rattle.std.proofs.Common.{◌≡◌, length, take}
use Rattle.plan_list.specs.Items.{first_items, most_items}
use Rattle.plan_list.proofs.items.Given as goal

abbrev pub invariant-loop-i : goal.invariant-loop-i
invariant-loop-i l = (length l.arcs ≡ most_items) × (take l.i l.arcs ≡ first_items l.i l.bytes)
