-- A turn enters the passes to the next vertex.
use Rattle.std.proofs.Common.{ℕ, ◌+◌, ◌<◌, List, length, get_or, subst, sym, refl, arith}
use Rattle.std.proofs.Math.Decide.{ℕ_discrete}
use Rattle.std.proofs.Math.Logic.{by_cases}
use Rattle.std.proofs.Math.ListN.{set, length-set}
use Rattle.std.proofs.lemmas.List.{get_or-set_other}
use Rattle.std.proofs.lemmas.Grind.{get_or-set_at}
use Rattle.measuring.specs.Counted.{Counted}
use Rattle.pass_cases.proofs.passes_to_each.Goals as goal

-- One entry more has what its place asks.
entered : (P : ℕ → ℕ → Type 0) (xs : List ℕ) (n x : ℕ) → n < length xs → P n x → ((v : ℕ) → v < n → P v (get_or xs v 0)) → (v : ℕ) → v < n + 1 → P v (get_or (set xs n x) v 0)
entered P xs n x room new old v h =
    by_cases (ℕ_discrete v n)
    (λ e. subst (λ w. P w (get_or (set xs n x) w 0)) (sym e) (rw (get_or-set_at xs n n x 0 refl room) new))
    (λ e. rw (get_or-set_other xs n v x 0 e) (old v (omega arith)))

pub loop-end-preserved : goal.loop-end-preserved
loop-end-preserved c = record {
  sized = rw length-set c.loop-end.invariant.sized;
  counted = λ g count-is weighed.
      entered (Counted g) c.loop-end.passes c.loop-end.end c.passes_to.result (omega (arith, count-is, weighed.few)) (c.passes_to.ensures g count-is weighed) (c.loop-end.invariant.counted g count-is weighed);
}
