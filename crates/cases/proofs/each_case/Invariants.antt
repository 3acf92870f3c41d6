-- Whatever is served from here on was served from the beginning on.
use Rattle.cases.specs.Each.{Served}
use Rattle.cases.proofs.each_case.Given as goal

abbrev pub invariant-loop : goal.invariant-loop
invariant-loop g l =
    goal.F-IsAlwaysCallable g l.answer
    × (Served g.F.FnMut l.answer (g.R.Read.remaining l.input) → Served g.F.FnMut l.fn.answer (g.R.Read.remaining l.fn.input))
