-- The rest of an area of one value.
use Rattle.std.proofs.Common.{◌++◌, length, ap₂}
use Rattle.std.proofs.lemmas.List.{drop-replicate}
use Rattle.record_bytes.proofs.area.Goals as goal

pub returns : goal.returns
returns c = ap₂ (λ x y. x ++ y) c.copy_from_slice.ensures.after (drop-replicate (length c.args.given.now) 4096 c.args.more)
