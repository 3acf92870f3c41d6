use Rattle.std.proofs.Common.{◌≤◌}
use Rattle.book.specs.Book.{Book}
use Rattle.book.specs.Tables.{IsSets}
use Rattle.rules.proofs.Gathered.{Gathered}
use Rattle.rules.proofs.binding.gather.Given as goal

abbrev pub invariant-loop-j : goal.invariant-loop-j
invariant-loop-j l =
    (l.n ≤ l.j) × ((b : Book) → IsSets b l.book.counts.paths l.book.needs l.book.owners l.book.entries → Gathered l.batch b l.area l.n l.j)
