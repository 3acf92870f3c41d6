use Rattle.std.proofs.Common.{◌≡◌, sym, ap, ◌∙◌, Ok}
use Rattle.book.specs.Book.{graph}
use Rattle.rules.proofs.ValidLaws.{valid-fits}
use Rattle.walk_check.specs.Checking.{checkable}
use Rattle.walk_check.proofs.Checks.{from, check-invalid, check-no-walk, check-done}
use Rattle.walk_check.proofs.check.Goals as goal
use Rattle.walk_check.proofs.check.Goals.{After-is_walk}

-- what the test of the walk says
walked : (c : After-is_walk) → c.is_walk.result ≡ checkable (graph (from c.args.bytes.now c.args.area.now c.args.count c.args.walk.now c.read.new.self c.in_ok-read.ensures).book) c.args.walk.now
walked c =
    let loaded = from c.args.bytes.now c.args.area.now c.args.count c.args.walk.now c.read.new.self c.in_ok-read.ensures in
    c.is_walk.ensures loaded.book (rw (c.arcs.ensures.vertices, c.arcs.ensures.weights) loaded.tables.graph)

pub returns-then-not-valid : goal.returns-then-not-valid
returns-then-not-valid c =
    check-invalid c.args.bytes.now c.args.area.now c.args.count c.args.walk.now c.read.new.self c.in_ok-read.ensures c.if-area-lt-AREA.false _ (sym c.valid.ensures) c.if-not-valid.true

pub returns-then-not-is_walk : goal.returns-then-not-is_walk
returns-then-not-is_walk c =
    check-no-walk c.args.bytes.now c.args.area.now c.args.count c.args.walk.now c.read.new.self c.in_ok-read.ensures c.if-area-lt-AREA.false _ (sym c.valid.ensures) c.if-not-valid.false
    (sym (walked (goal.at.returns-then-not-is_walk c).After-is_walk) ∙ c.if-not-is_walk.true)

pub first_occurrence-requires-clause-short : goal.first_occurrence-requires-clause-short
first_occurrence-requires-clause-short c = (valid-fits c.read.new.self.counts.vertices c.args.area.now c.args.count (sym c.valid.ensures ∙ c.if-not-valid.false)).1

pub returns : goal.returns
returns c =
    ap Ok c.first_occurrence.ensures
    ∙ check-done c.args.bytes.now c.args.area.now c.args.count c.args.walk.now c.read.new.self c.in_ok-read.ensures c.if-area-lt-AREA.false _ (sym c.valid.ensures) c.if-not-valid.false
    (sym (walked (goal.at.returns c).After-is_walk) ∙ c.if-not-is_walk.false)
