-- A number has at most twenty digits.
use Rattle.std.proofs.Common.{arith, rules}
use Rattle.text.proofs.TextLaws.{decimal-word, adds-word}
use Rattle.text.proofs.Writing.{wrote-length}
use Rattle.text.proofs.named.Goals as goal

pub decimal-requires : goal.decimal-requires
decimal-requires g c =
    (search rules, omega (arith, decimal-word c.args.n (omega arith), wrote-length c.args.s.now c.args.out.now.items c.word.ensures.written))

pub returns-clause-short : goal.returns-clause-short
returns-clause-short g c =
    omega (
      arith,
      wrote-length c.args.s.now c.args.out.now.items c.word.ensures.written,
      adds-word c.args.n c.word.new.out.items c.decimal.new.out.items (omega arith) c.decimal.ensures.written,
    )
