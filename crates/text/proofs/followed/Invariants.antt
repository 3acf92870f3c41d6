use Rattle.std.proofs.Common.{◌≡◌, ◌++◌, ◌+◌, ◌*◌, ◌≤◌, take}
use Rattle.arrayvec.specs.ArrayVec.{array_vec_len}
use Rattle.text.specs.Text.{followed as Text-followed}
use Rattle.text.proofs.followed.Given as goal

abbrev pub invariant-loop-v : goal.invariant-loop-v
invariant-loop-v g l = record {
  written : l.out.items ≡ l.initial.out.items ++ Text-followed (take l.v-index l.walk);
  short : array_vec_len l.out ≤ array_vec_len l.initial.out + l.v-index * 4;
}
