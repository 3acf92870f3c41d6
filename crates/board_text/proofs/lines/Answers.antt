use Rattle.std.proofs.Common.{append-nil, append_assoc, arith}
use Rattle.board_text.proofs.LinesLaws.{table_none, table-next}
use Rattle.board_text.proofs.lines.Goals as goal

pub loop-v-init : goal.loop-v-init
loop-v-init c = record { written = rw (table_none, append-nil); short = omega arith }

pub loop-v-preserved : goal.loop-v-preserved
loop-v-preserved c = record { written = rw (table-next, ← append_assoc) cc; short = omega arith }
