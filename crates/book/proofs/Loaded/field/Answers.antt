-- A frame that is refused is the field's refusal, and one that is whole leaves the field to its kind.
use Rattle.std.proofs.lemmas.Result.{err_from_is_err_and}
use Rattle.book.proofs.Fields.{field-refused, field-taken}
use Rattle.book.proofs.Loaded.field.Goals as goal

pub returns-in_err-frame-clause-leaves : goal.returns-in_err-frame-clause-leaves
returns-in_err-frame-clause-leaves c b h =
    let a = c.args in
    let p = err_from_is_err_and c.from_residual.result c.from_residual.ensures.1 in
    rw (p.1, p.2) (field-refused a.bytes.now a.at b a.self.now h _ c.in_err-frame.ensures)

pub returns-in-VertexCount-clause-leaves : goal.returns-in-VertexCount-clause-leaves
returns-in-VertexCount-clause-leaves c b h =
    let a = c.args in
    field-taken a.bytes.now a.at b a.self.now h _ _ _ (rw c.in-VertexCount.is at c.in_ok-frame.ensures) (c.vertex_count.ensures.leaves b h)

pub returns-in-Arc-clause-leaves : goal.returns-in-Arc-clause-leaves
returns-in-Arc-clause-leaves c b h =
    let a = c.args in
    field-taken a.bytes.now a.at b a.self.now h _ _ _ (rw c.in-Arc.is at c.in_ok-frame.ensures) (c.arc.ensures.leaves b h)

pub returns-in-RuleSet-clause-leaves : goal.returns-in-RuleSet-clause-leaves
returns-in-RuleSet-clause-leaves c b h =
    let a = c.args in
    field-taken a.bytes.now a.at b a.self.now h _ _ _ (rw c.in-RuleSet.is at c.in_ok-frame.ensures) (c.rule_set.ensures.leaves b h)

pub returns-in-Path-clause-leaves : goal.returns-in-Path-clause-leaves
returns-in-Path-clause-leaves c b h =
    let a = c.args in
    field-taken a.bytes.now a.at b a.self.now h _ _ _ (rw c.in-Path.is at c.in_ok-frame.ensures) (c.path.ensures.leaves b h)
