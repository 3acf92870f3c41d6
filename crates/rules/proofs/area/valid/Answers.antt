use Rattle.std.proofs.Common.{sym, ◌∙◌, arith}
use Rattle.rules.proofs.Validity.{started, finished, not_taken, copied, repeated, valid-next}
use Rattle.rules.proofs.area.valid.Goals as goal

pub loop-k-init : goal.loop-k-init
loop-k-init c = started c.args.vertices c.args.paths.bytes.now c.args.paths.count c.if-paths-gt-MOST_PATHS.false c.requires

pub returns-then-not-is_entry : goal.returns-then-not-is_entry
returns-then-not-is_entry c =
    sym (not_taken c.loop-k.invariant c.loop-k-test.true c.entry-given.ensures.bytes (sym c.is_entry.ensures ∙ c.if-not-is_entry.true))

pub returns-then-found : goal.returns-then-found
returns-then-found c =
    let taken = sym c.is_entry.ensures ∙ c.if-not-is_entry.false in
    let entered = copied c.loop-k.invariant c.loop-k-test.true c.entry-given.ensures.bytes taken (omega (arith, c.from-n.ensures)) c.copy_from_slice.ensures.after in
    sym (repeated c.loop-k.invariant c.loop-k-test.true c.entry-given.ensures.bytes taken entered c.entry.ensures.bytes (sym c.found.ensures ∙ c.if-found.true))

pub loop-k-preserved : goal.loop-k-preserved
loop-k-preserved c =
    let taken = sym c.is_entry.ensures ∙ c.if-not-is_entry.false in
    let entered = copied c.loop-k.invariant c.loop-k-test.true c.entry-given.ensures.bytes taken (omega (arith, c.from-n.ensures)) c.copy_from_slice.ensures.after in
    valid-next c.loop-k.invariant c.loop-k-test.true c.entry-given.ensures.bytes taken entered c.entry.ensures.bytes (sym c.found.ensures ∙ c.if-found.false)

pub returns : goal.returns
returns c = c.eq.ensures ∙ finished c.loop-k.invariant c.loop-k-test.false
