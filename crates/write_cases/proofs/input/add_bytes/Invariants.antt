-- The bytes so far are added.
use Rattle.std.proofs.Common.{take}
use Rattle.write_cases.specs.Kept.{Adds}
use Rattle.write_cases.proofs.input.add_bytes.Given as goal

abbrev pub invariant-loop-byte : goal.invariant-loop-byte
invariant-loop-byte l = Adds (take l.byte-index l.bytes) l.initial.out.items l.out.items
