-- The weight of a walk, a pair a turn, with the table of a book's weights.
use Prim.Native.Nat.{ℕ, ◌+◌, ◌*◌, ◌≤◌, ◌<◌}
use mathlib.Core.Bool.{true, ◌&&◌, true≢false}
use mathlib.Core.List.{List, [], ◌∷◌}
use mathlib.Core.Option
use mathlib.Core.Option.{Option, none, some}
use mathlib.Core.Path.{◌≡◌, refl, sym, ap, ◌∙◌}
use native.Mathlib.Omega.{arith}
use borrow.Author.Tests.{ltb-true}
use lib.Dec.{ltb}
use lib.ListN.{length, get_or, drop, length-drop}
use Rattle.lists.specs.Test.{and-true}
use Rattle.walks.specs.Graph.{Graph, is_some, is_arc, arc_weight}
use Rattle.walks.specs.Walk.{is_walk, is_walk_from, weight_of}
use Rattle.limits.specs.Limits.{no_arc}
use Rattle.walks.specs.Weights.{Weights}

-- What is left of w after some pairs is a walk: their weight and its own are the weight of w, and they weigh little.
pub record Weighed (g : Graph) (w : List ℕ) (sum : ℕ) (rest : List ℕ) : Type 0 where
  pub walk : is_walk g rest ≡ true
  pub weight_is : sum + weight_of g rest ≡ weight_of g w
  pub light : sum + length rest * 1000000 ≤ length w * 1000000

-- The first two vertices of a walk are an arc, and what follows the first is a walk.
record Pair (g : Graph) (rest : List ℕ) (u v : ℕ) : Type 0 where
  low : u < g.count
  high : v < g.count
  arc : is_arc g u v ≡ true
  later : is_walk g (drop 1 rest) ≡ true
  weighs : weight_of g rest ≡ arc_weight g u v + weight_of g (drop 1 rest)

pair : (g : Graph) (l : List ℕ) → is_walk g l ≡ true → 2 ≤ length l → Pair g l (get_or l 0 0) (get_or l 1 0)
pair g [] e two = absurd (omega arith)
pair g (u ∷ []) e two = absurd (omega arith)
pair g (u ∷ v ∷ l) e two =
    let (low, on) = and-true (ltb u g.count) (is_walk_from g u (v ∷ l)) e in
    let (arc, next) = and-true (is_arc g u v) (ltb v g.count && is_walk_from g v l) on in
    record { low = ltb-true _ _ low; high = ltb-true _ _ (and-true (ltb v g.count) (is_walk_from g v l) next).0; arc = arc; later = next; weighs = refl }

module _ {g : Graph} {w rest weights : List ℕ} {sum u v : ℕ} (h : Weighed g w sum rest) (table : Weights g weights) (two : 2 ≤ length rest) (first : u ≡ get_or rest 0 0) (second : v ≡ get_or rest 1 0) where
  here : Pair g rest u v
  here = rw (first, second) (pair g rest h.walk two)

  entry-is : (get_or weights (u * 64 + v) 0 ≡ arc_weight g u v) × (arc_weight g u v ≤ 1000000)
  entry-is = go (g.weight u v) refl here.arc
    where
      go : (o : Option ℕ) → g.weight u v ≡ o → is_some o ≡ true → (get_or weights (u * 64 + v) 0 ≡ arc_weight g u v) × (arc_weight g u v ≤ 1000000)
      go none e is = absurd (true≢false (sym is))
      go (some x) e is = (
        table.entry u v here.low here.high ∙ ap (λ o. Option.get_or o no_arc) e ∙ sym (ap (λ o. Option.get_or o 0) e),
        omega (arith, table.light u v x e, ap (λ o. Option.get_or o 0) e),
      )

  pub next-weighed : Weighed g w (sum + get_or weights (u * 64 + v) 0) (drop 1 rest)
  next-weighed =
      record {
        walk = here.later;
        weight_is = omega (arith, entry-is.0, here.weighs, h.weight_is);
        light = omega (arith, entry-is.0, entry-is.1, length-drop 1 rest, h.light);
      }
