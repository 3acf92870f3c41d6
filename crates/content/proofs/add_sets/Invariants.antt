-- The items so far are in the tables; those that are left come to what all of them come to.
use Rattle.std.specs.Prelude.{suc, ◌+◌, ◌-◌, ◌≤◌, length, drop}
use Rattle.book.specs.Book.{Book}
use Rattle.content.specs.Content.{set_items, with_items}
use Rattle.content.specs.Loading.{Begun, Onward}
use Rattle.content.proofs.add_sets.Given as goal

abbrev pub invariant-loop-more : goal.invariant-loop-more
invariant-loop-more l = record {
  within : l.at ≤ length l.s;
  counted : l.i + (length l.s - l.at) ≤ l.first + length l.s;
  going : (b : Book) → Begun b l.initial.book → Onward (with_items l.first (set_items (suc (length l.s)) 0 l.s) b) l.i l.book l.more (drop l.at l.s);
}

abbrev pub decreases-loop-more : goal.decreases-loop-more
decreases-loop-more l = length l.s - l.at
