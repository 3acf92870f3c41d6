-- A byte has at most three digits.
use Rattle.std.proofs.Common.{◌<◌, arith, rules}
use Rattle.text.proofs.TextLaws.{decimal-byte, adds-byte}
use Rattle.text.proofs.vertex.Goals as goal

pub decimal-requires : goal.decimal-requires
decimal-requires g c =
    let byte : c.from.result < 256 = omega arith in
    (search rules, omega (arith, decimal-byte c.from.result byte))

pub returns-clause-short : goal.returns-clause-short
returns-clause-short g c =
    let byte : c.from.result < 256 = omega arith in
    omega (arith, adds-byte c.from.result c.push.new.self.items c.decimal.new.out.items byte c.decimal.ensures.written)
