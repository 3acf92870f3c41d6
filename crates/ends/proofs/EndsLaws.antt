-- What the table of ends says: two numbers for each vertex, those of the best walk to it, and none where there is no walk.
use mathlib.Core.List.{List, [], ◌∷◌, Memᴰ}
use Rattle.std.proofs.Math.Logic.{by_cases}
use Rattle.std.proofs.Math.Option
use Rattle.std.proofs.Math.Option.{Option, none, some}
use Rattle.std.specs.Prelude.{◌≡◌, length, get_or}
use Rattle.std.proofs.Math.Path.{refl}
use Rattle.std.proofs.Common.{ap, ◌∙◌, add-zero, arith, get_or-append-add}
use Prim.Native.Nat.{ℕ, zero, suc, ◌+◌, ◌*◌, ◌<◌, ◌≤◌}
use Rattle.std.proofs.Math.Decide.{ℕ_discrete}
use Rattle.std.proofs.Math.ListN.{length-append, get_or-append}
use Rattle.limits.specs.Limits.{most_vertices, most_paths, heaviest, longest, longest_path}
use Rattle.walks.specs.Graph.{Graph, arc_weight}
use Rattle.walks.specs.Walk.{weight_of, hops}
use Rattle.walks.proofs.Walk.{hops-length}
use Rattle.walks.specs.Avoid.{Long}
use Rattle.walks.specs.Weights.{Weights}
use Rattle.walks.specs.Best.{Best, None}
use Rattle.walks.proofs.Best.{Best-unique, Best-not-None, Best-stay}
use Rattle.states.proofs.Short.{best-bound, best-weight}
use Rattle.states.specs.Chosen.{chosen, Decided}
use Rattle.states.proofs.Chosen.{chosen_is}
use Rattle.ends.specs.Ends.{no_end, entry_of, ends}

pub length-entry : (g : Graph) (o : Option (List ℕ)) → length (entry_of g o) ≡ 2
length-entry g none = refl
length-entry g (some w) = refl

arc-light : {g : Graph} {weights : List ℕ} → Weights g weights → (u v : ℕ) → arc_weight g u v ≤ heaviest
arc-light {g} table u v = go (g.weight u v) refl
  where
    go : (o : Option ℕ) → g.weight u v ≡ o → Option.get_or o 0 ≤ heaviest
    go none e = omega arith
    go (some x) e = table.light u v x e

module _ (g : Graph) (F : List (List ℕ)) (s : ℕ) where
  pub length-ends : (n : ℕ) → length (ends g F s n) ≡ 2 * n
  unfolding ends
  length-ends zero = refl
  length-ends (suc n) = rw length-append (omega (arith, length-ends n, length-entry g (chosen g F s n)))

  -- The numbers of v stand at 2 * v and after it.
  ends_at : (n v i : ℕ) → v < n → i < 2 → get_or (ends g F s n) (2 * v + i) 0 ≡ get_or (entry_of g (chosen g F s v)) i 0
  unfolding ends
  ends_at zero v i h b = absurd (omega arith)
  ends_at (suc n) v i h b =
      by_cases (ℕ_discrete v n)
      (λ e. rw (e, ← length-ends n) (get_or-append-add (ends g F s n) (entry_of g (chosen g F s n)) i 0))
      (λ d. get_or-append (ends g F s n) (entry_of g (chosen g F s n)) 0 (2 * v + i) (omega (arith, length-ends n)) ∙ ends_at n v i (omega arith) b)

  pub ends-weight : (n v : ℕ) → v < n → get_or (ends g F s n) (2 * v) 0 ≡ get_or (entry_of g (chosen g F s v)) 0 0
  ends-weight n v h = rw add-zero at (ends_at n v 0 h (omega arith))

  pub ends-hops : (n v : ℕ) → v < n → get_or (ends g F s n) (2 * v + 1) 0 ≡ get_or (entry_of g (chosen g F s v)) 1 0
  ends-hops n v h = ends_at n v 1 h (omega arith)

module _ (g : Graph) (F : List (List ℕ)) (s t : ℕ) (vertices : g.count ≤ most_vertices) (paths : length F ≤ most_paths) (size : (r : List ℕ) → Memᴰ r F → length r ≤ longest_path) where
  -- An entry has weight and hops of the best walk.
  pub entry-best : {w : List ℕ} → Best g F s t w → entry_of g (chosen g F s t) ≡ weight_of g w ∷ hops w ∷ []
  entry-best {w} best = of (chosen g F s t) (chosen_is g F s t vertices paths size)
    where
      of : (o : Option (List ℕ)) → Decided g F s t o → entry_of g o ≡ weight_of g w ∷ hops w ∷ []
      of none h = absurd (Best-not-None best h)
      of (some v) h = ap (λ x. weight_of g x ∷ hops x ∷ []) (Best-unique h.0 best)

  pub entry-none : None g F s t → entry_of g (chosen g F s t) ≡ no_end ∷ no_end ∷ []
  entry-none no_Walk = of (chosen g F s t) (chosen_is g F s t vertices paths size)
    where
      of : (o : Option (List ℕ)) → Decided g F s t o → entry_of g o ≡ no_end ∷ no_end ∷ []
      of none h = refl
      of (some v) h = absurd (Best-not-None h.0 no_Walk)

  -- These are far below the mark of none, so that the mark says that there is no walk.
  module _ {weights : List ℕ} (table : Weights g weights) where
    pub best-numbers : {w : List ℕ} → Best g F s t w → (weight_of g w ≤ 1599000000) × (hops w < longest)
    best-numbers {w} best =
        (best-weight g F t best vertices paths size (arc-light table), omega (arith, hops-length w best.feasible.walk, best-bound g F t best vertices paths size))

    pub none-entry : (i : ℕ) → get_or (entry_of g (chosen g F s t)) i 0 ≡ no_end → None g F s t
    none-entry i e = of (chosen g F s t) (chosen_is g F s t vertices paths size) i e
      where
        of : (o : Option (List ℕ)) → Decided g F s t o → (i : ℕ) → get_or (entry_of g o) i 0 ≡ no_end → None g F s t
        of none h i e = h
        of (some w) h zero e = absurd (omega (arith, best-numbers h.0))
        of (some w) h (suc zero) e = absurd (omega (arith, best-numbers h.0))
        of (some w) h (suc (suc i)) e = absurd (omega arith)

-- The start has 0 and 0.
pub entry-start : (g : Graph) (F : List (List ℕ)) (s : ℕ) → g.count ≤ most_vertices → length F ≤ most_paths → ((r : List ℕ) → Memᴰ r F → length r ≤ longest_path)
    → Long F → s < g.count → entry_of g (chosen g F s s) ≡ 0 ∷ 0 ∷ []
entry-start g F s vertices paths size long below = entry-best g F s s vertices paths size (Best-stay long below)
