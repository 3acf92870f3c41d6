-- From each arc to the next, and the end of the numbers.
use Rattle.std.specs.Prelude.{◌*◌, ◌+◌, ◌/◌, ◌≡◌, length}
use Rattle.std.proofs.Common.{ap, ◌∙◌, arith}
use Rattle.std.proofs.lemmas.Result.{err_from_is_err_and}
use Rattle.book.specs.Book.{Book}
use Rattle.content.specs.Content.{arc_in, arc_items}
use Rattle.content.proofs.LoadingLaws.{going_first, going_end, going_cut, as_items, arcs-none, arcs-cut, lent-is, arc_off, arc_on}
use Rattle.content.proofs.add_arcs.Goals as goal

pub loop-k-init : goal.loop-k-init
loop-k-init c b h none =
    let (g, is) = going_first 1 (arc_items c.args.s.now) b c.args.book.now h in
    (g, omega (arith, ap (λ (x : Book). length x.arcs) is, ap length none))

pub returns-in_err-add_arc : goal.returns-in_err-add_arc
returns-in_err-add_arc c b h none =
    let s = c.args.s.now in
    let k = c.loop-k.k in
    let p = err_from_is_err_and c.from_residual.result c.from_residual.ensures.1 in
    let (g, _) = c.loop-k.invariant b h none in
    rw (p.1, p.2)
    (arc_off _ k s c.loop-k.book g (omega (arith, c.loop-k-test.true)) _ (c.arc.ensures ∙ ap arc_in (lent-is (k * 3) s)) _ c.add_arc.new.self
    c.in_err-add_arc.ensures.leaves)

pub loop-k-preserved : goal.loop-k-preserved
loop-k-preserved c b h none =
    let s = c.args.s.now in
    let k = c.loop-k.k in
    let (g, few) = c.loop-k.invariant b h none in
    let (g', more) =
    arc_on _ k s c.loop-k.book g (omega (arith, c.loop-k-test.true)) _ (c.arc.ensures ∙ ap arc_in (lent-is (k * 3) s)) c.add_arc.new.self c.in_ok-add_arc.ensures.leaves in
    (g', omega (arith, few, more))

pub returns-then-s-ne0 : goal.returns-then-s-ne0
returns-then-s-ne0 c b h none =
    let s = c.args.s.now in
    let k = c.loop-k.k in
    let last : k ≡ length s / 3 = omega (arith, c.loop-k-test.false, c.loop-k.auto.k-end) in
    let (g, _) = c.loop-k.invariant b h none in
    let (g', _) = as_items (arcs-cut k s (omega (arith, last, c.if-s-ne0.true)) (omega (arith, last))) g in
    rw last at (going_cut _ (1 + k) _ c.loop-k.book g')

pub returns : goal.returns
returns c b h none =
    let s = c.args.s.now in
    let (g, _) = c.loop-k.invariant b h none in
    let (g', _) = as_items (arcs-none c.loop-k.k s (omega (arith, c.loop-k-test.false, c.loop-k.auto.k-end, c.if-s-ne0.false))) g in
    going_end _ (1 + c.loop-k.k) c.loop-k.book g'
