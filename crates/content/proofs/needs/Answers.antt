-- A number that is no byte is no day's.
use Rattle.std.proofs.Common.{ne_eqb, arith}
use Rattle.std.specs.Prelude.{◌≡◌, refl, get_or, Some}
use Rattle.content.specs.Content.{needs_in, window_in}
use Rattle.content.proofs.LoadingLaws.{window-refused}
use Rattle.content.proofs.needs.Goals.{then-s-gt255-via-then-s-gt255, then-s-gt255-via-else-s-gt255+then-s-gt255-2, then-s-gt255-via-else-s-gt255+else-s-gt255-2+then-s-gt255-3, then-s-gt255-via-else-s-gt255+else-s-gt255-2+else-s-gt255-3+then-s-gt255-4}
use Rattle.content.proofs.needs.Goals as goal

pub returns-then-s-gt255 : goal.returns-then-s-gt255
returns-then-s-gt255 c b =
    let s = c.args.s.now in
    let is : window_in s ≡ Some (record { first = record { day = get_or s 2 0; month = get_or s 3 0 }; last = record { day = get_or s 4 0; month = get_or s 5 0 } }) =
    rw (ne_eqb (get_or s 1 0) 0 c.if-s-eq0.false) refl in
    window-refused b c.args.i (needs_in s) _ (omega (arith, c.if-s-gt65535.false)) is
    (λ d m d' m'.
    elim c.then-s-gt255.branch [
      | then-s-gt255-via-then-s-gt255 w ↦ absurd (omega (arith, w.if-s-gt255.true, d))
      | then-s-gt255-via-else-s-gt255+then-s-gt255-2 w ↦ absurd (omega (arith, w.if-s-gt255-2.true, m))
      | then-s-gt255-via-else-s-gt255+else-s-gt255-2+then-s-gt255-3 w ↦ absurd (omega (arith, w.if-s-gt255-3.true, d'))
      | then-s-gt255-via-else-s-gt255+else-s-gt255-2+else-s-gt255-3+then-s-gt255-4 w ↦ absurd (omega (arith, w.if-s-gt255-4.true, m'))
    ])
