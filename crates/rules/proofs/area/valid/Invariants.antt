use Rattle.rules.proofs.Validity.{ValidTo}
use Rattle.rules.proofs.area.valid.Given as goal

abbrev pub invariant-loop-k : goal.invariant-loop-k
invariant-loop-k l = ValidTo l.vertices l.paths.bytes.now l.paths.count l.clean l.k
