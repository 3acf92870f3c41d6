-- The first j are copied.
use Rattle.std.proofs.Common.{◌≡◌, length, take}
use Rattle.content.proofs.path_bytes.Given as goal

abbrev pub invariant-loop-j : goal.invariant-loop-j
invariant-loop-j l = record {
  copied : take l.j l.bytes ≡ take l.j l.path;
  size : length l.bytes ≡ 8;
}
