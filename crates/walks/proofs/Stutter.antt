-- The laws of what specs/Stutter.antt defines.
use mathlib.Core.List.{List, ◌++◌}
use Rattle.std.specs.Prelude.{◌⊎◌, ◌≡◌, ℕ, suc, ◌+◌, ◌<◌, T, length, get_or}
use Rattle.std.proofs.Common.{⊎_elim, sym, ap, subst₂, ◌∙◌, arith, length-append, get_or-append-add}
use Rattle.std.proofs.Math.ListN.{get_or-append}
use Rattle.walks.specs.Graph.{Graph, is_arc}
use Rattle.walks.specs.Walk.{Walk}
use Rattle.walks.specs.Avoid.{Occurs}
use Rattle.walks.specs.Best.{NoStricter}
use Rattle.walks.specs.Stutter.{Stutters, Loopless, ButStutters}

-- what stands at a place of a path stands in the walk in which the path occurs
at_place : {r w : List ℕ} (o : Occurs r w) (i : ℕ) → i < length r → get_or w (length o.before + i) 0 ≡ get_or r i 0
at_place {r} o i h = rw o.split (get_or-append-add o.before (r ++ o.after) i 0 ∙ get_or-append r o.after 0 i h)

pub stutter_never_occurs : {g : Graph} {r w : List ℕ} → Loopless g → Stutters r → Walk g w → Occurs r w → ⊥
stutter_never_occurs {g} {r} {w} loopless d walk o =
    let i = length o.before + d.first in
    let after : length o.before + d.second ≡ suc i = omega (arith, d.next) in
    let inside : length w ≡ length o.before + (length r + length o.after) = ap length o.split ∙ simp length-append in
    let here : get_or w i 0 ≡ get_or r d.first 0 = at_place o d.first (omega (arith, d.next, d.within)) in
    let there : get_or w (suc i) 0 ≡ get_or r d.first 0 = ap (λ k. get_or w k 0) (sym after) ∙ at_place o d.second d.within ∙ d.again in
    loopless (get_or r d.first 0) (subst₂ (λ u v. T (is_arc g u v)) here there (walk.arcs i (omega (arith, inside, d.within, after))))

pub but_stutters : {g : Graph} {F G : List (List ℕ)} → Loopless g → ButStutters F G → NoStricter g F G
but_stutters loopless more w walk clear r m o = ⊎_elim (λ k. clear r k o) (λ d. stutter_never_occurs loopless d walk o) (more r m)
