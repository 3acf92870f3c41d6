use Rattle.std.proofs.Common.{◌≡◌, ◌-◌, Bool, ◌&&◌, is_some, eqb, length, get_or, inl, inr, sym, ap, ◌∙◌}
use Rattle.walks.specs.Walk.{is_walk, weight_of}
use Rattle.walks.specs.Avoid.{avoids}
use Rattle.walks.specs.Feasible.{is_feasible}
use Rattle.book.specs.Book.{Book, graph}
use Rattle.book.specs.Tables.{IsGraph}
use Rattle.rules.specs.Area.{spelled}
use Rattle.rules.proofs.ValidLaws.{valid-fits}
use Rattle.judging.proofs.Standing.{both, only-walk, last-place, clear-is, feasible→walk, eqb-sym}
use Rattle.judging.proofs.stands.Goals as goal
use Rattle.judging.proofs.stands.Goals.{Joined-walk-rec-2, then-is_walk, else-is_walk, then-walk-rec, else-walk-rec, then-walk-rec-2, else-walk-rec-2}

pub first_occurrence-requires-clause-short : goal.first_occurrence-requires-clause-short
first_occurrence-requires-clause-short c = (valid-fits c.args.arcs.vertices c.args.paths.bytes.now c.args.paths.count c.requires.area.1).1

-- the tests up to that of the forbidden paths
feasible : (c : Joined-walk-rec-2) (b : Book) → IsGraph b c.args.arcs.vertices c.args.arcs.weights.now
    → c.if-walk-rec-2.value ≡ is_feasible (graph b) (spelled c.args.paths.count c.args.paths.bytes.now) c.args.rec.start c.args.rec.end c.args.walk.now
unfolding is_feasible
feasible c b g =
    let w = c.args.walk.now in
    let starts : Bool = eqb (get_or w 0 0) c.args.rec.start in
    let ends : Bool = eqb (get_or w (length w - 1) 0) c.args.rec.end in
    let clear : Bool = avoids (spelled c.args.paths.count c.args.paths.bytes.now) w in
    let first : c.if-is_walk.value ≡ c.is_walk.result && starts =
    both (elim c.if-is_walk.branch [ then-is_walk h ↦ inl (h.if-is_walk.true, h.value-is) | else-is_walk h ↦ inr (h.if-is_walk.false, h.value-is) ]) in
    let second : c.if-walk-rec.value ≡ c.if-is_walk.value && ends =
    both (elim c.if-walk-rec.branch [ then-walk-rec h ↦ inl (h.if-walk-rec.true, h.value-is) | else-walk-rec h ↦ inr (h.if-walk-rec.false, h.value-is) ]) in
    let third : c.if-walk-rec-2.value ≡ c.if-walk-rec.value && clear =
    both (elim c.if-walk-rec-2.branch [ then-walk-rec-2 h ↦ inl (h.if-walk-rec-2.true, h.value-is ∙ clear-is c.args.arcs.vertices c.args.paths.bytes.now c.args.paths.count w c.requires.area.1 (sym (ap is_some h.first_occurrence.ensures) ∙ h.is_none.ensures)) | else-walk-rec-2 h ↦ inr (h.if-walk-rec-2.false, h.value-is) ]) in
    third
    ∙ ap (λ x. x && clear) (second ∙ ap (λ x. x && ends) (first ∙ ap (λ x. x && starts) (c.is_walk.ensures b g ∙ only-walk (graph b) w c.requires.short)))
    ∙ ap (λ n. is_walk (graph b) w && starts && eqb (get_or w n 0) c.args.rec.end && clear) (last-place w)

pub returns-else-is_none : goal.returns-else-is_none
returns-else-is_none c b g =
    let is = feasible (goal.at.returns-else-is_none c).Joined-walk-rec-2 b g in
    c.if-is_none.false ∙ ap (λ x. x && eqb c.args.rec.litres (weight_of (graph b) c.args.walk.now)) (sym c.if-is_none.false ∙ is)

pub returns-then-is_none : goal.returns-then-is_none
returns-then-is_none c b g =
    let r = c.args.rec in
    let w = c.args.walk.now in
    let F = spelled c.args.paths.count c.args.paths.bytes.now in
    let is = sym (feasible (goal.at.returns-then-is_none c).Joined-walk-rec-2 b g) ∙ c.if-is_none.true in
    eqb-sym c.weigh.result r.litres
    ∙ ap (eqb r.litres) (c.weigh.ensures b g (feasible→walk (graph b) F r.start r.end w is))
    ∙ sym (ap (λ x. x && eqb r.litres (weight_of (graph b) w)) is)
