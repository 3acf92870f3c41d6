-- The text stands alone in its buffer.
use Rattle.std.proofs.Common.{sym, subst}
use Rattle.answer.specs.Answer.{Answered}
use Rattle.text.proofs.Writing.{wrote-front}
use Rattle.answer.proofs.answer.Goals as goal

pub returns-in-Err : goal.returns-in-Err
returns-in-Err c =
    let text = (wrote-front _ c.in-Err.ensures.written.0 c.refusal_text.ensures.written).1 in
    record { answered = subst (Answered c.args.input.now) (sym text) c.in-Err.ensures.written.1; within = c.refusal_text.ensures.within }
