-- There is room for the number, or as many stand as are kept.
use Rattle.std.proofs.Common.{[], ◌∷◌, arith}
use Rattle.write_cases.proofs.KeptLaws.{adds_one, adds_no_more}
use Rattle.write_cases.proofs.input.add.Goals as goal

pub returns-then-len-lt-MOST_NUMBERS : goal.returns-then-len-lt-MOST_NUMBERS
returns-then-len-lt-MOST_NUMBERS c = adds_one c.args.x c.args.out.now.items c.push.new.self.items (omega arith) c.push.ensures.items

pub returns-else-len-lt-MOST_NUMBERS : goal.returns-else-len-lt-MOST_NUMBERS
returns-else-len-lt-MOST_NUMBERS c = adds_no_more (c.args.x ∷ []) c.args.out.now.items (omega arith)
