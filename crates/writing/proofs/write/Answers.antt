-- What is written is the book that the content comes to.
use Rattle.std.proofs.Common.{ap, ap₂, ◌∙◌, drop, ◌++◌, Ok, arith}
use Rattle.writing.proofs.WritingLaws.{book-kept, not-written, written}
use Rattle.writing.proofs.write.Goals as goal

pub bytes-bytes-requires : goal.bytes-bytes-requires
bytes-bytes-requires c =
    let (b, kept, _) = book-kept c.args.vertices c.args.arcs.now c.args.sets.now c.in_ok-book.book c.in_ok-book.ensures in
    (b, kept)

pub returns-then-area-n : goal.returns-then-area-n
returns-then-area-n c =
    let a = c.args in
    not-written a.vertices a.arcs.now a.sets.now c.in_ok-book.book c.in_ok-book.ensures a.area.now c.bytes-bytes.ensures (omega (arith, c.if-area-n.true, c.len-n.ensures.value))

pub returns : goal.returns
returns c =
    let a = c.args in
    let (answer, area) = written a.vertices a.arcs.now a.sets.now c.in_ok-book.book c.in_ok-book.ensures a.area.now c.bytes-bytes.ensures (omega (arith, c.if-area-n.false, c.len-n.ensures.value)) in (
      ap Ok c.len-n.ensures.value ∙ answer,
      ap₂ (λ s n. s ++ drop n a.area.now) (c.copy_from_slice.ensures.after ∙ c.deref.ensures.0) c.len-n.ensures.value ∙ area,
    )
