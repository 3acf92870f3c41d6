-- The edges of a state lower its own entry alone.
use Rattle.std.proofs.Common.{ap, sym, ◌∙◌, set}
use Rattle.distances.proofs.Rows.{relaxes-row}
use Rattle.product.specs.View.{edges_of}
use Rattle.product.proofs.Edges.{edges-tail}
use Rattle.sweeps.proofs.Sweep.relax.Goals as goal

pub returns-in-To : goal.returns-in-To
returns-in-To c =
    let p = c.args.self.product in
    rw c.in-To.is (ap (set c.args.new.now c.args.q) c.pull.ensures
    ∙ sym (relaxes-row c.args.old.now (edges_of p c.args.q) c.args.new.now c.args.q (edges-tail p.arcs.weights.now p.steps.now p.blocked.now p.latest.now c.args.q p.arcs.vertices)))
