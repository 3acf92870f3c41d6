-- State by state the edges of all are relaxed, which comes to a pass.
use Rattle.std.proofs.Common.{◌≡◌, not, refl, sym, ap, ◌∙◌, List, ℕ, length, arith}
use Rattle.distances.specs.Table.{relaxes, pass}
use Rattle.distances.proofs.PassLaws.{relaxes_le, length-relaxes}
use Rattle.std.proofs.lemmas.Slice.Eq.{slice_eq-Decides}
use Rattle.std.proofs.lemmas.Bool.Decides.{Decides-eqb}
use Rattle.distances.proofs.Made.{pass-decides}
use Rattle.distances.proofs.Rows.{relaxes-append}
use Rattle.product.specs.Base.{is_towards, directed}
use Rattle.product.specs.View.{edges_of}
use Rattle.product.proofs.Edges.{states-none, states-next}
use Rattle.sweeps.specs.Sweep.{edges_in, Before}
use Rattle.sweeps.specs.declared.Sweep.{Sweep}
use Rattle.sweeps.proofs.Sweep.pass.Goals as goal

-- After the last state.
swept : (s : Sweep) {old new written : List ℕ} {q : ℕ} → Before (edges_in s (length old)) old new → written ≡ relaxes old (edges_in s q) new → q ≡ length old → written ≡ pass (edges_in s (length old)) old
swept s before is end = rw end at is ∙ before.as_copied

pub loop-q-init : goal.loop-q-init
loop-q-init c =
    let p = c.args.self.product in
    rw (sym (states-none p.arcs.weights.now p.steps.now p.blocked.now p.latest.now (is_towards c.args.self.goal) p.arcs.vertices)) refl

pub relax-requires-clause-same_length : goal.relax-requires-clause-same_length
relax-requires-clause-same_length c =
    omega (arith, ap length c.loop-q.invariant, length-relaxes c.args.old.now (edges_in c.args.self c.loop-q.q) c.args.new.now, c.requires.before.same_length)

pub relax-requires-clause-capped : goal.relax-requires-clause-capped
relax-requires-clause-capped c = c.requires.before.capped

pub relax-requires-clause-new_capped : goal.relax-requires-clause-new_capped
relax-requires-clause-new_capped c q =
    rw c.loop-q.invariant (omega (arith, relaxes_le c.args.old.now (edges_in c.args.self c.loop-q.q) c.args.new.now q, c.requires.before.new_capped q))

pub loop-q-preserved : goal.loop-q-preserved
loop-q-preserved c =
    let p = c.args.self.product in
    let es = edges_in c.args.self c.loop-q.q in
    let row = directed (is_towards c.args.self.goal) (edges_of p c.loop-q.q) in
    c.relax.ensures ∙ ap (relaxes c.args.old.now row) c.loop-q.invariant ∙ sym (relaxes-append c.args.old.now es row c.args.new.now)
    ∙ ap (λ l. relaxes c.args.old.now l c.args.new.now) (sym (states-next p.arcs.weights.now p.steps.now p.blocked.now p.latest.now (is_towards c.args.self.goal) p.arcs.vertices c.loop-q.q))

pub returns-clause-after : goal.returns-clause-after
returns-clause-after c = swept c.args.self c.requires.before c.loop-q.invariant (omega arith)

pub returns-clause-changed : goal.returns-clause-changed
returns-clause-changed c =
    let es = edges_in c.args.self (length c.args.old.now) in
    let after = swept c.args.self c.requires.before c.loop-q.invariant (omega arith) in
    c.ne.ensures ∙ ap not (pass-decides es c.args.old.now after _ (slice_eq-Decides Decides-eqb c.args.old.now c.loop-q.new _ refl))
