-- The numbers that are looked at come to what all of them come to, and as many bytes as are said are lent.
use Rattle.std.proofs.Common.{◌≡◌, ap₂, subst, take, length, min, arith}
use Rattle.content.specs.Content.{content}
use Rattle.writing.specs.Writing.{WritingOf}
use Rattle.write_cases.specs.Inputs.{said}
use Rattle.write_cases.proofs.WrittenLaws.{kept-written}
use Rattle.write_cases.proofs.written.Goals as goal

pub returns : goal.returns
returns c =
    let old = c.args.area.now in
    let kept = c.in_ok-content.content in
    let k = c.min.result in
    let lends : k ≡ min kept.room (length old) = omega (arith, c.min.ensures, c.told-area) in
    let numbers : content kept.vertices c.deref.result.now c.deref-2.result.now ≡ content kept.vertices kept.arcs.items kept.sets.items =
    ap₂ (content kept.vertices) c.deref.ensures.0 c.deref-2.ensures.0 in
    kept-written kept.room k old c.write.new.area lends c.write.auto.area kept.vertices kept.arcs.items kept.sets.items c.write.result
    (subst (λ x. WritingOf x (take k old) c.write.result c.write.new.area) numbers c.write.ensures) (said c.args.input.now) c.in_ok-content.ensures
