use Rattle.rules.proofs.Flags.{held-covers}
use Rattle.rules.proofs.binding.covers.Goals as goal

pub returns : goal.returns
returns c = held-covers 16 c.args.needed c.args.held c.ranges.needed.fits
