-- One more is copied.
use Rattle.std.proofs.Common.{arith, length-set}
use Rattle.content.proofs.LoadingLaws.{one-copied}
use Rattle.content.proofs.path_bytes.Goals as goal

pub loop-j-preserved : goal.loop-j-preserved
loop-j-preserved c =
    record {
      copied = one-copied c.args.path.now c.loop-j.bytes c.loop-j.j c.loop-j-test.true (omega (arith, c.loop-j-test.true, c.requires, c.loop-j.invariant.size)) c.loop-j.invariant.copied;
      size = rw length-set c.loop-j.invariant.size;
    }
