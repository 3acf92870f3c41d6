-- A turn writes the two numbers of vertex v, near or far.
use Rattle.std.proofs.Common.{◌≡◌, refl, [], ◌∷◌, take, ap, ◌∙◌, arith, lt-ltb, le-ltb, get_or-take}
use Rattle.distances.specs.Table.{at, inf}
use Rattle.ends.specs.Least.{told}
use Rattle.ends.proofs.Telling.{telling_next}
use Rattle.ends.proofs.tell.Goals as goal
use Rattle.ends.proofs.tell.Goals.{then-d-lt-INF, else-d-lt-INF}

pub loop-v-preserved : goal.loop-v-preserved
loop-v-preserved c =
    let d = at (take c.args.n c.args.least.now) c.loop-v.v in
    let pair = c.if-d-lt-INF.weight in
    let told_is : pair.0 ∷ pair.1 ∷ [] ≡ told d = elim c.if-d-lt-INF.branch [
      | then-d-lt-INF w ↦ rw (w.weight-is, lt-ltb d inf w.if-d-lt-INF.true) refl
      | else-d-lt-INF w ↦ rw (w.weight-is, le-ltb d inf w.if-d-lt-INF.false) refl
    ] in
    rw c.loop-v.invariant (telling_next (at c.args.least.now) c.args.ends.now c.loop-v.v pair.0 pair.1
    (told_is ∙ ap told (get_or-take c.args.n c.args.least.now c.loop-v.v 0 (omega arith))) (omega arith))
