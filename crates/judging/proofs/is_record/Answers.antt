use Rattle.std.proofs.Common.{◌&&◌, true, false, eqb, sym, ap, ◌∙◌}
use borrow.Author.Tests.{eq-eqb, ne_eqb}
use Rattle.judging.proofs.Recorded.{misfit, by_stage}
use Rattle.judging.proofs.is_record.Goals as goal

pub returns-then-not-numbers_fit : goal.returns-then-not-numbers_fit
returns-then-not-numbers_fit c b g = misfit b c.args.rec c.args.paths.now c.args.walk.now g.vertices_are c.numbers_fit.ensures.tested c.if-not-numbers_fit.true

pub returns-then-rec-eq0 : goal.returns-then-rec-eq0
returns-then-rec-eq0 c b g =
    let r = c.args.rec in
    sym (ap (λ x. x && eqb r.litres 0) (eq-eqb r.length 0 c.if-rec-eq0.true))
    ∙ by_stage b r c.args.paths.now c.args.walk.now g.vertices_are c.numbers_fit.ensures.tested c.if-not-numbers_fit.false true (eq-eqb r.stage 2 c.if-rec-eq2.true)

pub returns-else-rec-eq0 : goal.returns-else-rec-eq0
returns-else-rec-eq0 c b g =
    let r = c.args.rec in
    let some = ne_eqb r.length 0 c.if-rec-eq0.false in
    some
    ∙ sym (ap (λ x. x && eqb r.litres 0) some)
    ∙ by_stage b r c.args.paths.now c.args.walk.now g.vertices_are c.numbers_fit.ensures.tested c.if-not-numbers_fit.false true (eq-eqb r.stage 2 c.if-rec-eq2.true)

pub returns : goal.returns
returns c b g =
    let r = c.args.rec in
    c.stands.ensures b g
    ∙ by_stage b r c.args.paths.now c.args.walk.now g.vertices_are c.numbers_fit.ensures.tested c.if-not-numbers_fit.false false (ne_eqb r.stage 2 c.if-rec-eq2.false)
