-- The owner of a path says whether it is one of the rule set's.
use Rattle.std.proofs.Common.{sym, ◌∙◌, arith}
use Rattle.book_bytes.specs.Bytes.{longest_book}
use Rattle.writing.proofs.PathsLaws.{paths_done, entry_room, body_room, path_next}
use Rattle.writing.proofs.fields.paths.Goals as goal

pub slice_bounds-field-end : goal.slice_bounds-field-end
slice_bounds-field-end c =
    let (b, p, _) = c.requires.room in
    entry_room p (c.loop-j.invariant b p) c.loop-j-test.true (sym c.from.ensures ∙ c.if-from-k.true) c.from-in-loop-j.ensures

pub field-requires-clause-room : goal.field-requires-clause-room
field-requires-clause-room c =
    let (b, p, room) = c.requires.room in
    body_room p (c.loop-j.invariant b p) c.loop-j-test.true (sym c.from.ensures ∙ c.if-from-k.true) c.from-in-loop-j.ensures longest_book room

pub loop-j-preserved : goal.loop-j-preserved
loop-j-preserved c b p =
    path_next p (c.loop-j.invariant b p) c.loop-j-test.true (sym c.from.ensures ∙ c.if-from-k.true) c.from-in-loop-j.ensures c.field.ensures

pub returns-else-from-k : goal.returns-else-from-k
returns-else-from-k c b p = paths_done p (c.loop-j.invariant b p) (λ _ e. c.if-from-k.false (c.from.ensures ∙ e))

pub returns-after-loop-j : goal.returns-after-loop-j
returns-after-loop-j c b p = paths_done p (c.loop-j.invariant b p) (λ more. absurd (omega (arith, c.loop-j-test.false)))
