-- The parts of the input, bound and checked.
use Rattle.std.specs.Prelude.{◌≡◌, Ok, Err}
use Rattle.std.proofs.Common.{sym, ◌∙◌, arith, rules}
use Rattle.book.specs.Reading.{u16_at}
use Rattle.kinds.specs.Inputs.{check_input}
use Rattle.kinds.proofs.Parts.{check-is}
use Rattle.kinds.proofs.checking.check.Goals as goal

pub returns-in_err-count : goal.returns-in_err-count
returns-in_err-count c =
    let s = c.args.input.now in
    let n-is : c.from.result ≡ u16_at s 6 = omega (arith, c.from.ensures, c.from_be_bytes-length.ensures) in
    let e : Err c.in_err-count.field-0.0 ≡ check_input s =
    check-is s c.from.result c.in-Some.walk.now c.in-Some.bytes.now c.from_bytes-batch.result (Err c.in_err-count.field-0.0) c.bind.new.area c.in-len8-up.len_at_least
    c.in-Some.ensures.cases n-is c.from_bytes-batch.ensures (sym c.in_err-count.was ∙ c.bind.ensures.answered) c.bind.ensures.filled in
    search (rules, e)

pub returns : goal.returns
returns c =
    let s = c.args.input.now in
    let n-is : c.from.result ≡ u16_at s 6 = omega (arith, c.from.ensures, c.from_be_bytes-length.ensures) in
    c.check.ensures
    ∙ check-is s c.from.result c.in-Some.walk.now c.in-Some.bytes.now c.from_bytes-batch.result (Ok c.in_ok-count.count) c.bind.new.area c.in-len8-up.len_at_least
    c.in-Some.ensures.cases n-is c.from_bytes-batch.ensures (sym c.in_ok-count.was ∙ c.bind.ensures.answered) c.bind.ensures.filled
