-- The text stands alone in its buffer.
use Rattle.std.proofs.Common.{sym}
use Rattle.text.proofs.Writing.{wrote_as}
use Rattle.board_text.proofs.BoardLaws.{wrote_printed}
use Rattle.board_text.proofs.board.Goals as goal

pub returns-in-Err : goal.returns-in-Err
returns-in-Err c =
    wrote_printed c.args.input.now c.in-Err.ensures.written.0 (wrote_as _ (sym c.in-Err.ensures.written.1) c.refusal_text.ensures.written) c.refusal_text.ensures.within
