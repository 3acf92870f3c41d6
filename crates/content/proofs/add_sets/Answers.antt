-- From each item to the next, and the end of the numbers.
use Rattle.std.specs.Prelude.{◌+◌, ◌-◌, ◌≡◌, drop, Ok}
use Rattle.std.proofs.Common.{sym, ap, subst, ◌∙◌, arith, length-drop, drop-drop}
use Rattle.std.proofs.lemmas.Result.{err_from_is_err_and}
use Rattle.book.specs.Tables.{LoadedAs}
use Rattle.content.specs.Content.{item_size, next_item, to_come, with_item}
use Rattle.content.proofs.LoadingLaws.{lent-is, size-some, set_first, set_cut, set_off, set_on, set_same, set_last}
use Rattle.content.proofs.add_sets.Goals.{then-more-ne0, else-more-ne0+then-at-s}
use Rattle.content.proofs.add_sets.Goals as goal

pub loop-more-init : goal.loop-more-init
loop-more-init c =
    record {
      within = omega arith;
      counted = omega arith;
      going = λ b h. set_first c.args.first c.args.s.now b c.args.book.now h;
    }

pub returns-then-rest-size : goal.returns-then-rest-size
returns-then-rest-size c b h =
    let s = c.args.s.now in
    let at = c.loop-more.at in
    let size : c.item_size-size.result ≡ item_size c.loop-more.more (drop at s) = c.item_size-size.ensures ∙ ap (item_size c.loop-more.more) (lent-is at s) in
    set_cut _ c.loop-more.i c.loop-more.more (drop at s) c.loop-more.book (c.loop-more.invariant.going b h)
    (λ e. elim c.if-more-ne0.branch [ then-more-ne0 w ↦ absurd (w.if-more-ne0.true e) | else-more-ne0+then-at-s w ↦ omega (arith, w.if-at-s.true, length-drop at s) ])
    (omega (arith, c.if-rest-size.true, length-drop at s, size))

pub returns-in_err-more : goal.returns-in_err-more
returns-in_err-more c b h =
    let s = c.args.s.now in
    let at = c.loop-more.at in
    let size : c.item_size-size.result ≡ item_size c.loop-more.more (drop at s) = c.item_size-size.ensures ∙ ap (item_size c.loop-more.more) (lent-is at s) in
    let p = err_from_is_err_and c.from_residual.result c.from_residual.ensures.1 in
    rw (p.1, p.2)
    (set_off _ c.loop-more.i c.loop-more.more (drop at s) c.loop-more.book (c.loop-more.invariant.going b h)
    (λ e. elim c.if-more-ne0.branch [ then-more-ne0 w ↦ absurd (w.if-more-ne0.true e) | else-more-ne0+then-at-s w ↦ omega (arith, w.if-at-s.true, length-drop at s) ])
    (omega (arith, c.if-rest-size.false, length-drop at s, size)) _ c.add_item.new.book
    (λ d begun some-set. ap (λ r. with_item d c.loop-more.i (next_item c.loop-more.more r)) (sym (lent-is at s)) ∙ c.in_err-more.ensures d begun some-set))

pub loop-more-preserved : goal.loop-more-preserved
loop-more-preserved c =
    let s = c.args.s.now in
    let at = c.loop-more.at in
    let size : c.item_size-size.result ≡ item_size c.loop-more.more (drop at s) = c.item_size-size.ensures ∙ ap (item_size c.loop-more.more) (lent-is at s) in
    record {
      within = omega (arith, c.if-rest-size.false, length-drop at s, c.loop-more.invariant.within);
      counted = omega (arith, c.if-rest-size.false, length-drop at s, c.loop-more.invariant.within, c.loop-more.invariant.counted, size, size-some c.loop-more.more (drop at s));
      going = λ b h.
          let o = c.loop-more.invariant.going b h in
          let come : c.in_ok-more.more ≡ to_come c.loop-more.more (drop at s) =
          (c.in_ok-more.ensures o.2.so_far o.2.begun o.3).0 ∙ ap (to_come c.loop-more.more) (lent-is at s) in
          let rest : drop (at + c.item_size-size.result) s ≡ drop (item_size c.loop-more.more (drop at s)) (drop at s) =
          sym (drop-drop c.item_size-size.result at s) ∙ ap (λ n. drop n (drop at s)) size in
          set_same come rest
          (set_on _ c.loop-more.i c.loop-more.more (drop at s) c.loop-more.book o
          (λ e. elim c.if-more-ne0.branch [ then-more-ne0 w ↦ absurd (w.if-more-ne0.true e) | else-more-ne0+then-at-s w ↦ omega (arith, w.if-at-s.true, length-drop at s) ])
          (omega (arith, c.if-rest-size.false, length-drop at s, size)) c.add_item.new.book
          (λ d begun some-set. subst (λ r. LoadedAs (with_item d c.loop-more.i (next_item c.loop-more.more r)) (Ok c.add_item.new.book)) (lent-is at s) (c.in_ok-more.ensures d begun some-set).1));
    }

pub returns : goal.returns
returns c b h =
    let s = c.args.s.now in
    let at = c.loop-more.at in
    set_last _ c.loop-more.i c.loop-more.more (drop at s) c.loop-more.book (c.loop-more.invariant.going b h) c.if-more-ne0.false (omega (arith, c.if-at-s.false, length-drop at s))
