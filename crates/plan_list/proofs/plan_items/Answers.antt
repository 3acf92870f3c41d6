-- The items that are lent come to what the whole list comes to.
use Rattle.std.proofs.Common.{ap, subst, ◌≡◌, ◌∙◌, length, take}
use Rattle.planner.specs.Planning.{PlanningOf}
use Rattle.listed.specs.Listing.{listing}
use Rattle.plan_list.specs.Items.{first_items, items_in}
use Rattle.plan_list.specs.ItemsLaws.{enough-items}
use Rattle.plan_list.proofs.plan_items.Goals as goal

pub returns : goal.returns
returns c =
    let a = c.args.case in
    let bytes = a.list.now in
    let lent : take c.items_in-n.result c.items-arcs.result ≡ first_items (items_in (length bytes)) bytes =
    c.items-arcs.ensures ∙ ap (λ k. first_items k bytes) c.items_in-n.ensures in
    subst (λ x. PlanningOf x a.paths.now a.count a.start a.end c.args.walk.now c.plan_arcs.result c.plan_arcs.new.walk)
    (ap (listing a.vertices) lent ∙ enough-items a.vertices bytes) c.plan_arcs.ensures
