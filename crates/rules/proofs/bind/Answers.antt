use Rattle.std.proofs.Common.{sym, ap, ◌∙◌, length-take-le, ◌++◌, drop}
use Rattle.rules.proofs.Binds.{the-sets, bind-known}
use Rattle.rules.proofs.bind.Goals as goal

pub gather-n-requires-clause-sets : goal.gather-n-requires-clause-sets
gather-n-requires-clause-sets c = the-sets c.args.bytes.now c.args.batch c.args.area.now c.read.new.self c.in_ok-read.ensures

pub copy_from_slice-requires : goal.copy_from_slice-requires
copy_from_slice-requires c = length-take-le 2304 c.args.area.now c.if-area-lt-AREA.false ∙ sym c.gather-n.auto.area

pub returns-clause-answered : goal.returns-clause-answered
returns-clause-answered c =
    (bind-known c.args.bytes.now c.args.batch c.args.area.now c.read.new.self c.in_ok-read.ensures c.if-area-lt-AREA.false (sym c.is_valid.ensures ∙ c.if-not-is_valid.false) c.gather-n.result c.gather-n.new.area c.gather-n.ensures).0

pub returns-clause-filled : goal.returns-clause-filled
returns-clause-filled c =
    ap (λ t. t ++ drop 2304 c.args.area.now) c.copy_from_slice.ensures.after
    ∙ (bind-known c.args.bytes.now c.args.batch c.args.area.now c.read.new.self c.in_ok-read.ensures c.if-area-lt-AREA.false (sym c.is_valid.ensures ∙ c.if-not-is_valid.false) c.gather-n.result c.gather-n.new.area c.gather-n.ensures).1
