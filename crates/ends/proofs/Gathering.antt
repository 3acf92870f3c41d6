-- What `gather` has done when it has taken the states below q, and what one turn of its loop does.
use mathlib.Core.Bool.{cond}
use mathlib.Core.List.{List}
use mathlib.Core.Logic.{◌≢◌, by_cases}
use mathlib.Core.Path.{◌≡◌, refl, sym, ap, ◌∙◌}
use Prim.Native.Nat.{ℕ, ◌+◌, ◌<◌, ◌≤◌, min}
use native.Mathlib.Numerals.{add-one}
use native.Mathlib.Omega.{arith}
use native.Mathlib.Decide.{ℕ_discrete}
use borrow.Author.Tests.{eq-eqb, ne_eqb}
use lib.ListN.{set}
use lib.Seq.{get_or-set_other}
use Rattle.limits.specs.Limits.{most_vertices}
use Rattle.distances.specs.Table.{at, inf}
use Rattle.distances.proofs.PassLaws.{at_set}
use Rattle.distances.specs.Ends.{least_over}
use Rattle.ends.specs.Least.{least_at, Gathered}

module _ (latests d : List ℕ) where
  pub gathered_none : (least : List ℕ) → ((v : ℕ) → v < most_vertices → at least v ≡ inf) → Gathered latests d 0 least
  unfolding least_over
  gathered_none least all = record { entry = all }

  module _ (q : ℕ) where
    at_own : least_at latests d (q + 1) (at latests q) ≡ min (least_at latests d q (at latests q)) (at d q)
    unfolding least_over
    at_own = rw add-one (ap (λ b. cond b (min (least_at latests d q (at latests q)) (at d q)) (least_at latests d q (at latests q))) (eq-eqb (at latests q) (at latests q) refl))

    at_other : (v : ℕ) → v ≢ at latests q → least_at latests d (q + 1) v ≡ least_at latests d q v
    unfolding least_over
    at_other v other = rw add-one (ap (λ b. cond b (min (least_at latests d q v) (at d q)) (least_at latests d q v)) (ne_eqb (at latests q) v (λ e. other (sym e))))

    module _ {least : List ℕ} (g : Gathered latests d q least) (below : at latests q < most_vertices) where
      pub gathered_lower : at d q < at least (at latests q) → Gathered latests d (q + 1) (set least (at latests q) (at d q))
      gathered_lower less = record {
        entry = λ v h. by_cases (ℕ_discrete v (at latests q))
            (λ same. rw same (omega (arith, at_set least (at latests q) (at d q) (omega arith), at_own, g.entry (at latests q) below)))
            (λ other. get_or-set_other least (at latests q) v (at d q) 0 other ∙ g.entry v h ∙ sym (at_other v other));
      }

      pub gathered_keep : at least (at latests q) ≤ at d q → Gathered latests d (q + 1) least
      gathered_keep more = record {
        entry = λ v h. by_cases (ℕ_discrete v (at latests q))
            (λ same. rw same (omega (arith, at_own, g.entry (at latests q) below)))
            (λ other. g.entry v h ∙ sym (at_other v other));
      }
