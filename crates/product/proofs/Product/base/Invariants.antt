-- The entries of the states below q are written.
use Rattle.std.proofs.Common.{◌≡◌, ◌++◌, drop}
use Rattle.product.specs.Base.{is_towards, vertex_of, base}
use Rattle.product.proofs.Product.base.Given as goal

abbrev pub invariant-loop-q : goal.invariant-loop-q
invariant-loop-q l =
    l.table ≡ base (is_towards l.goal) l.self.latest.now (vertex_of l.goal) l.q ++ drop l.q l.fn.table
