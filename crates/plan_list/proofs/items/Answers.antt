-- A turn enters the next item.
use Rattle.std.proofs.Common.{ℕ, List, refl, sym, ap, ◌≡◌, ◌+◌, ◌-◌, ◌*◌, ◌∙◌, length, length-drop, length-set, take, drop, slice_set, arith}
use Rattle.std.proofs.Math.Seq.{take-length}
use Rattle.plan_list.specs.Items.{first_items, item_of}
use Rattle.plan_list.specs.ItemsLaws.{entered}
use Rattle.plan_list.proofs.items.Goals as goal

rest : (at : ℕ) (s : List ℕ) → take (length s - at) (drop at s) ≡ drop at s
rest at s = ap (λ k. take k (drop at s)) (sym (length-drop at s)) ∙ take-length (drop at s)

pub loop-i-init : goal.loop-i-init
unfolding first_items
loop-i-init c = (refl, refl)

pub loop-i-preserved : goal.loop-i-preserved
loop-i-preserved c =
    let turn = c.loop-i in
    let s = c.args.bytes.now in (
      length-set turn.arcs turn.i c.item.result ∙ turn.invariant.0,
      ap (λ x. take (turn.i + 1) (slice_set turn.arcs turn.i x)) (c.item.ensures ∙ ap item_of (rest (turn.i * 6) s))
          ∙ entered turn.i s turn.arcs (omega arith) turn.invariant.1,
    )
