-- The path is entered, and the plan is that of the set with it.
use Rattle.std.proofs.Common.{◌∙◌}
use Rattle.trials.proofs.Reporting.{few-known, failed-few, path-short, entry-fits, entered, start-below, area-fits, still-valid, walk-short, has_failed}
use Rattle.trials.proofs.report.replan.Goals as goal

pub enter-requires-clause-path_short : goal.enter-requires-clause-path_short
enter-requires-clause-path_short c =
    let a = c.args in
    let (b, of, e) = c.requires in
    path-short b of.well a.rec a.paths.now a.walk.now a.named.now e

pub enter-requires-clause-entry_fits : goal.enter-requires-clause-entry_fits
enter-requires-clause-entry_fits c =
    let a = c.args in
    let (b, of, e) = c.requires in
    entry-fits b of.well a.rec a.paths.now a.walk.now a.named.now e

pub failed-next-requires : goal.failed-next-requires
failed-next-requires c =
    let a = c.args in
    let (b, of, e) = c.requires in
    (few-known b of.well a.rec a.paths.now a.walk.now a.named.now e, failed-few b of.well a.rec a.paths.now a.walk.now a.named.now e)

pub find-found-requires-clause-valid_paths : goal.find-found-requires-clause-valid_paths
find-found-requires-clause-valid_paths c =
    let a = c.args in
    let (b, of, e) = c.requires in
    rw (c.failed-next.ensures, of.vertices_are)
    (still-valid b of.well a.rec a.paths.now a.walk.now a.named.now e _ (c.enter.ensures ∙ entered b of.well a.rec a.paths.now a.walk.now a.named.now e))

pub find-found-requires-clause-start_and_room : goal.find-found-requires-clause-start_and_room
find-found-requires-clause-start_and_room c =
    let a = c.args in
    let (b, of, e) = c.requires in
    rw (c.failed-next.ensures, of.vertices_are)
    (start-below b of.well a.rec a.paths.now a.walk.now a.named.now e, area-fits b of.well a.rec a.paths.now a.walk.now a.named.now e)

pub replanned-requires : goal.replanned-requires
replanned-requires c =
    let a = c.args in
    let (b, of, e) = c.requires in
    walk-short b of.well a.rec a.paths.now a.walk.now a.named.now e _ (c.enter.ensures ∙ entered b of.well a.rec a.paths.now a.walk.now a.named.now e) _ _
    (rw c.failed-next.ensures at (c.find-found.ensures b of))

pub returns : goal.returns
returns c b of e =
    let a = c.args in
    rw (c.replanned.ensures, c.failed-next.ensures)
    (has_failed b of.well a.rec a.paths.now a.walk.now a.named.now e _ (c.enter.ensures ∙ entered b of.well a.rec a.paths.now a.walk.now a.named.now e) _ _
    (rw c.failed-next.ensures at (c.find-found.ensures b of)))
