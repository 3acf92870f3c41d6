-- A book that was loaded is written.
use Rattle.std.proofs.Common.{sym, ap, ◌∙◌, arith}
use Rattle.writing.proofs.KeptLaws.{loaded-kept}
use Rattle.rewriting.specs.Rewriting.{rewritten_as}
use Rattle.rewriting.proofs.rewrite.Goals as goal

pub bytes-requires : goal.bytes-requires
bytes-requires c =
    let (b, kept, _) = loaded-kept c.args.bytes.now (λ i. omega (arith, c.type_inv.bytes i)) c.in-Ok.book c.in-Ok.ensures in
    (b, kept)

pub returns-in-Ok : goal.returns-in-Ok
returns-in-Ok c =
    let (b, kept, is) = loaded-kept c.args.bytes.now (λ i. omega (arith, c.type_inv.bytes i)) c.in-Ok.book c.in-Ok.ensures in
    c.bytes.ensures b kept ∙ sym (ap rewritten_as is)
