-- A path more; and an input that ends before a path's length, or within the last path.
use Rattle.std.proofs.Common.{◌+◌, ◌-◌, ◌≡◌, drop, get_or, add-zero, sym, ap, ◌∙◌, arith}
use Rattle.std.proofs.lemmas.List.{get_or-drop}
use Rattle.write_cases.specs.Inputs.{held, path_size, paths_size}
use Rattle.write_cases.proofs.InputLaws.{is_held, not_held, paths_on, paths-last, paths-some}
use Rattle.write_cases.proofs.input.paths_size.Goals as goal

pub returns-in_err-get : goal.returns-in_err-get
returns-in_err-get c =
    let s = c.args.input.now in
    let left = paths-some (c.args.n - c.loop.counter) (drop c.loop.at s) in
    c.from_residual.ensures ∙ sym (not_held (paths_size c.args.n s) s (omega (arith, c.in_err-get.ensures.lookup, c.loop-test.true, c.loop.invariant.sum, left)))

pub loop-preserved : goal.loop-preserved
loop-preserved c =
    let at = c.loop.at in
    let s = c.args.input.now in
    let first = get_or-drop at s 0 0 ∙ ap (λ i. get_or s i 0) (add-zero at) in
    let path : 1 + c.from.result ≡ path_size (drop at s) =
    ap (λ x. 1 + x) (c.from.ensures ∙ c.in_ok-get.ensures.lookup.3.1 0 ∙ sym first) in
    record {
      sum = paths_on c.args.n c.loop.counter at (1 + c.from.result) s (omega (arith, c.loop-test.true)) _ path c.loop.invariant.sum;
      few = omega (arith, c.loop.invariant.few);
    }

pub returns-then-input-at : goal.returns-then-input-at
returns-then-input-at c =
    let s = c.args.input.now in
    let last = paths-last c.args.n c.loop.counter (drop c.loop.at s) (omega (arith, c.loop-test.false)) in
    sym (not_held (paths_size c.args.n s) s (omega (arith, last, c.loop.invariant.sum, c.if-input-at.true)))

pub returns : goal.returns
returns c =
    let s = c.args.input.now in
    let last = paths-last c.args.n c.loop.counter (drop c.loop.at s) (omega (arith, c.loop-test.false)) in
    let all : c.loop.at ≡ paths_size c.args.n s = omega (arith, last, c.loop.invariant.sum) in
    sym (ap (λ k. held k s) (sym all) ∙ is_held c.loop.at s (omega (arith, c.if-input-at.false)))
