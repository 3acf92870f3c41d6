-- After i turns the first i numbers are given.
use Rattle.std.proofs.Common.{◌≡◌}
use Rattle.table_cases.specs.Given.{given}
use Rattle.table_cases.proofs.numbers.Given as goal

abbrev pub invariant-loop-i : goal.invariant-loop-i
invariant-loop-i l = l.table ≡ given l.s l.from l.i l.initial.table
