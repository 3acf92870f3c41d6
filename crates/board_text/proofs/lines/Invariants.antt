use Rattle.std.proofs.Common.{◌≡◌, ◌++◌, ◌+◌, ◌*◌, ◌≤◌}
use Rattle.arrayvec.specs.ArrayVec.{array_vec_len}
use Rattle.board_text.specs.Lines.{table_lines}
use Rattle.board_text.proofs.lines.Given as goal

abbrev pub invariant-loop-v : goal.invariant-loop-v
invariant-loop-v l = record {
  written : l.out.items ≡ l.initial.out.items ++ table_lines l.table l.v;
  short : array_vec_len l.out ≤ array_vec_len l.initial.out + l.v * 78;
}
