-- What was measured guides, has room for its walk, and leads to the best one.
use Rattle.std.proofs.Common.{arith}
use Rattle.routes.proofs.Guiding.{entry-near}
use Rattle.routes.proofs.Planned.{measured_guiding, measured_start, start-short, searched-none, searched-walk}
use Rattle.routes.proofs.least_walk.Goals as goal

pub returns-then-here-eq-INF : goal.returns-then-here-eq-INF
returns-then-here-eq-INF c g F t m clear = searched-none m c.args.start c.requires.start_below clear c.args.area.now (omega arith)

pub walk-count-requires : goal.walk-count-requires
walk-count-requires c =
    let (g, F, t, m) = c.requires.measured in
    let near = entry-near (measured_guiding m) c.args.start c.if-here-eq-INF.false in
    record {
      guiding = measured_guiding m;
      start_below = c.requires.start_below;
      start_within = measured_start m c.args.start c.requires.start_below;
      start_near = near;
      area_room = omega (arith, start-short m c.args.start c.requires.start_below near);
    }

pub returns : goal.returns
returns c g F t m clear =
    let near = entry-near (measured_guiding m) c.args.start c.if-here-eq-INF.false in
    searched-walk m c.args.start c.requires.start_below clear c.args.area.now near c.walk-count.result _ c.walk-count.ensures.counted c.walk-count.ensures.area_after
