-- The base table has no entry above inf.
use Rattle.std.proofs.Common.{⊎_elim, length, arith}
use Rattle.product.specs.Base.{is_towards, vertex_of, base-is}
use Rattle.sweeps.proofs.distances.Goals as goal

pub passes-requires-clause-capped : goal.passes-requires-clause-capped
passes-requires-clause-capped c q =
    rw c.base.ensures (⊎_elim (λ e. omega arith) (λ e. omega arith) (base-is (is_towards c.args.goal) c.args.product.latest.now (vertex_of c.args.goal) (length c.args.table.now) q))
