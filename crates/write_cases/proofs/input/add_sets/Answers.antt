-- A rule set more is added, or the input ends before it.
use Rattle.std.proofs.Common.{[], ◌++◌, ◌≡◌, drop, sym, ap, subst, ◌∙◌, arith, length-drop, None, Some}
use Rattle.std.proofs.lemmas.List.{take_rest}
use Rattle.write_cases.specs.Inputs.{held, set_size, sets_size, set_numbers}
use Rattle.write_cases.proofs.InputLaws.{is_held, not_held, held-some, held-none, sets-first, numbers-first, sets_on, numbers_on, set-left, sets-last, numbers-last}
use Rattle.write_cases.proofs.KeptLaws.{adds_none, adds_then, adds_as}
use Rattle.write_cases.proofs.input.add_sets.Goals as goal

pub loop-init : goal.loop-init
loop-init c =
    let s = c.args.input.now in
    record { within = omega arith; sum = sets-first c.args.n s; added = ([], numbers-first c.args.n s, adds_none c.args.out.now.items) }

pub returns-in_err-at : goal.returns-in_err-at
returns-in_err-at c =
    let s = c.args.input.now in
    let at = c.loop.at in
    let short = held-none (set_size (drop at s)) (drop at s) (subst (λ rest. None ≡ held (set_size rest) rest) (take_rest s at) c.in_err-at.ensures.size) in
    let left = set-left c.args.n c.loop.counter (drop at s) (omega (arith, c.loop-test.true)) in
    let cut = c.from_residual.ensures in
    record {
      size = cut ∙ sym (not_held (sets_size c.args.n s) s (omega (arith, short, left, c.loop.invariant.sum, c.loop.invariant.within, length-drop at s)));
      numbers = rw cut tt;
    }

pub loop-preserved : goal.loop-preserved
loop-preserved c =
    let s = c.args.input.now in
    let at = c.loop.at in
    let k = c.in_ok-at.field-0 in
    let (fits, is) = held-some (set_size (drop at s)) k (drop at s) (subst (λ rest. Some k ≡ held (set_size rest) rest) (take_rest s at) c.in_ok-at.ensures.size) in
    let (xs, all, added) = c.loop.invariant.added in
    record {
      within = omega (arith, fits, is, c.loop.invariant.within, length-drop at s);
      sum = sets_on c.args.n c.loop.counter at k s (omega (arith, c.loop-test.true)) _ is c.loop.invariant.sum;
      added = (
        xs ++ set_numbers (drop at s),
        numbers_on c.args.n c.loop.counter at k s (omega (arith, c.loop-test.true)) _ xs is all,
        adds_then xs _ added (adds_as (ap set_numbers (take_rest s at)) c.in_ok-at.ensures.numbers),
      );
    }

pub returns : goal.returns
returns c =
    let s = c.args.input.now in
    let at = c.loop.at in
    let (xs, all, added) = c.loop.invariant.added in
    let none = sets-last c.args.n c.loop.counter (drop at s) (omega (arith, c.loop-test.false)) in
    let size : at ≡ sets_size c.args.n s = omega (arith, none, c.loop.invariant.sum) in
    record {
      size = sym (ap (λ k. held k s) (sym size) ∙ is_held at s c.loop.invariant.within);
      numbers = adds_as (numbers-last c.args.n c.loop.counter (drop at s) _ xs (omega (arith, c.loop-test.false)) all) added;
    }
