-- Laws of a book's arcs and of its table of weights.
use Prim.Native.Nat.{ℕ}
use Rattle.std.specs.Prelude.{◌≡◌}
use Rattle.walks.specs.Graph.{Arc}

-- What holds of each arc holds of the arc that a pair's weight comes from.
pub record Found (P : Arc → Type 0) (u v x : ℕ) : Type 0 where
  pub arc : Arc
  pub holds : P arc
  pub tail-is : arc.tail ≡ u
  pub head-is : arc.head ≡ v
  pub weight_is : arc.weight ≡ x
