-- A turn writes the next number.
use Rattle.std.proofs.Common.{sym, ap₂, ◌∙◌, slice_set, arith}
use Rattle.table_cases.specs.Given.{given-none, given-next}
use Rattle.table_cases.proofs.numbers.Goals as goal

pub loop-i-init : goal.loop-i-init
loop-i-init c = sym (given-none _ _ _)

pub loop-i-preserved : goal.loop-i-preserved
loop-i-preserved c =
    ap₂ (λ t x. slice_set t c.loop-i.i x) c.loop-i.invariant c.four.ensures
    ∙ given-next c.args.s.now c.args.from c.loop-i.i c.args.table.now (omega arith)
