-- The three tests of a named path together are what 12 was before order 5; so what a report says is as it should be exactly if it is named, with room.
use Rattle.std.specs.Prelude.{◌≡◌, refl, Bool, true, false, ◌&&◌, T, length}
use Rattle.std.proofs.Common.{sym, ◌∙◌}
use Rattle.lists.specs.Test.{T→true, true→T}
use Rattle.walks.specs.Graph.{Graph}
use Rattle.walks.specs.Avoid.{occurs}
use Rattle.book.specs.Refusal.{all_hold}
use Rattle.book.specs.RefusalLaws.{Hold}
use Rattle.book.proofs.RefusalLaws.{hold→all, all→hold}
use Rattle.book.specs.Book.{path_length, are_vertices, is_path}
use Rattle.trial_rules.specs.Trials.{Report, passed, failed, State, standing, is_named, has_room, named_tests, said_tests}

regrouped : (x y z : Bool) → x && (y && (z && true)) ≡ (x && y) && z
regrouped false y z = refl
regrouped true false z = refl
regrouped true true true = refl
regrouped true true false = refl

module _ (g : Graph) (σ : State) where
  pub as-before : (ρ : Report) → all_hold (named_tests g σ ρ) ≡ is_named g σ ρ
  unfolding is_path
  as-before passed = refl
  as-before (failed r) = regrouped (path_length (length r)) (are_vertices g.count r) (occurs r (standing σ))

  pub said→ : (ρ : Report) → Hold (said_tests g σ ρ) → T (is_named g σ ρ) × T (has_room σ ρ)
  said→ ρ (sized, (below, (stands, (room, _)))) = (
    true→T _ (sym (as-before ρ) ∙ hold→all (named_tests g σ ρ) (sized, (below, (stands, tt)))),
    true→T _ room,
  )

  pub →said : (ρ : Report) → T (is_named g σ ρ) → T (has_room σ ρ) → Hold (said_tests g σ ρ)
  →said ρ named room =
      let (sized, (below, (stands, _))) = all→hold (named_tests g σ ρ) (as-before ρ ∙ T→true _ named) in
      (sized, (below, (stands, (T→true _ room, tt))))
