-- The vertices with an arc, without the blocked ones.
use Rattle.std.proofs.Common.{get_or}
use Rattle.product.proofs.Word.{word-without}
use Rattle.sweeps.specs.Outgoing.{is_arc}
use Rattle.sweeps.proofs.Sweep.open.Goals as goal

pub returns : goal.returns
returns c =
    let s = c.args.self in
    let (m, below, ready) = c.requires.ready in
    let u = get_or s.product.latest.now c.args.q 0 in
    rw (ready.outgoing u ((ready.fits.rows c.args.q below).latest-below)) (word-without (is_arc s.product.arcs.weights.now u) s.product.arcs.vertices (get_or s.product.blocked.now c.args.q 0))
