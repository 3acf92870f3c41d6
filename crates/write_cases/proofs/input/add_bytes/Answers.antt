-- A byte more is added.
use Rattle.std.proofs.Common.{[], ◌∷◌, add-one, sym, ap, take, get_or, arith}
use Rattle.std.proofs.Math.Seq.{take-suc, take_all}
use Rattle.write_cases.proofs.KeptLaws.{adds_none, adds_then, adds_as}
use Rattle.write_cases.proofs.input.add_bytes.Goals as goal

pub loop-byte-init : goal.loop-byte-init
loop-byte-init c = adds_none c.args.out.now.items

pub loop-byte-preserved : goal.loop-byte-preserved
loop-byte-preserved c =
    let s = c.args.bytes.now in
    let i = c.loop-byte.byte-index in
    rw add-one
    (adds_as (sym (take-suc s i 0 c.loop-byte-test.true))
    (adds_then (take i s) (get_or s i 0 ∷ []) c.loop-byte.invariant (adds_as (ap (λ x. x ∷ []) c.from.ensures) c.add.ensures)))

pub returns : goal.returns
returns c = adds_as (take_all c.loop-byte.byte-index c.args.bytes.now (omega (arith, c.loop-byte-test.false))) c.loop-byte.invariant
