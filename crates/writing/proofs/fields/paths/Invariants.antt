-- The paths from here on are still to be written.
use Rattle.std.specs.Prelude.{◌-◌}
use Rattle.book.specs.Book.{Book}
use Rattle.writing.specs.Kept.{PathsFrom}
use Rattle.writing.proofs.PathsLaws.{PathsTo}
use Rattle.writing.proofs.fields.paths.Given as goal

abbrev pub invariant-loop-j : goal.invariant-loop-j
invariant-loop-j l = (b : Book) → PathsFrom b l.book l.k l.from → PathsTo b l.k l.from l.initial.out.items l.j l.out.items

abbrev pub decreases-loop-j : goal.decreases-loop-j
decreases-loop-j l = l.book.counts.paths - l.j
