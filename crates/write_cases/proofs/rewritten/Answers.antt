-- A book that was loaded is written.
use Rattle.std.proofs.Common.{arith}
use Rattle.writing.proofs.KeptLaws.{loaded-kept}
use Rattle.write_cases.proofs.rewritten.Goals as goal

pub bytes-requires : goal.bytes-requires
bytes-requires c =
    let (b, kept, _) = loaded-kept c.args.bytes.now (λ i. omega (arith, c.type_inv.bytes i)) c.in_ok-book.book c.in_ok-book.ensures in
    (b, kept)

pub returns : goal.returns
returns c =
    let (b, kept, is) = loaded-kept c.args.bytes.now (λ i. omega (arith, c.type_inv.bytes i)) c.in_ok-book.book c.in_ok-book.ensures in
    rw is (c.bytes.ensures b kept)
