-- A vertex has at most three digits, and stands for four bytes.
use Rattle.std.proofs.Common.{◌≡◌, ◌<◌, ◌-◌, List, ℕ, length, take, drop, ap, ◌∙◌, arith, rules, length-drop}
use Rattle.std.proofs.Math.Seq.{take_all}
use Rattle.text.proofs.TextLaws.{decimal-byte, adds-byte}
use Rattle.text.proofs.vertices.Goals as goal

after_first : (w : List ℕ) → length (take (length w - 1) (drop 1 w)) ≡ length w - 1
after_first w = ap length (take_all (length w - 1) (drop 1 w) (omega (arith, length-drop 1 w))) ∙ length-drop 1 w

pub decimal-requires : goal.decimal-requires
decimal-requires g c =
    let byte : c.from.result < 256 = omega (arith, c.type_inv.walk 0) in
    (search rules, omega (arith, decimal-byte c.from.result byte))

pub followed-requires : goal.followed-requires
followed-requires g c =
    let byte : c.from.result < 256 = omega (arith, c.type_inv.walk 0) in
    (search rules, omega (arith, after_first c.args.walk.now, adds-byte c.from.result c.args.out.now.items c.decimal.new.out.items byte c.decimal.ensures.written))

pub returns-clause-short : goal.returns-clause-short
returns-clause-short g c =
    let byte : c.from.result < 256 = omega (arith, c.type_inv.walk 0) in
    omega (arith, after_first c.args.walk.now, adds-byte c.from.result c.args.out.now.items c.decimal.new.out.items byte c.decimal.ensures.written)
