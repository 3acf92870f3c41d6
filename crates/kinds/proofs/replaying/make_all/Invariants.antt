-- What is left leads where the whole list leads.
use Rattle.std.proofs.Common.{◌≡◌, ◌-◌, length, drop}
use Rattle.trials.specs.Operations.{answering}
use Rattle.series.specs.Reports.{reports_of}
use Rattle.series.specs.Whole.{reports_on}
use Rattle.kinds.proofs.replaying.make_all.Given as goal

abbrev pub invariant-loop-made : goal.invariant-loop-made
invariant-loop-made g l =
    reports_on l.bytes (answering l.rec l.paths l.walk) (reports_of (drop l.at l.reports))
    ≡ reports_on l.bytes (answering l.fn.first l.fn.paths l.fn.walk) (reports_of l.reports)

abbrev pub decreases-loop-made : goal.decreases-loop-made
decreases-loop-made g l = length l.reports - l.at
