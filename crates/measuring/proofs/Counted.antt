-- The laws of what specs/Counted.antt defines: what was measured without forbidden paths is counted.
use Rattle.std.specs.Prelude.{ℕ, ◌≤◌, ◌≡◌, true, List, [], length}
use Rattle.std.proofs.Common.{sym, subst, arith}
use mathlib.Core.List.Memᴰ
use Rattle.limits.specs.Limits.{most_vertices}
use Rattle.walks.specs.Graph.{Graph}
use Rattle.distances.specs.Table.{made}
use Rattle.automaton.specs.Area.{Bounded}
use Rattle.product.specs.Product.{state_edges}
use Rattle.product.specs.Base.{base, directed}
use Rattle.routes.specs.Plan.{Prepared, Measured}
use Rattle.measuring.specs.Counted.{Counted}

pub measured-counted : {g : Graph} {n m t r : ℕ} {weights steps blockeds latests d : List ℕ} → Measured true g [] n t weights steps blockeds latests d → length d ≡ m
    → r ≡ made (directed true (state_edges weights steps blockeds latests n m)) m (base true latests t m)
    → Counted g t r
measured-counted {g} {m = m} {weights = weights} {steps = steps} {blockeds = blockeds} {latests = latests} measured size count =
    let n-is = sym measured.prepared.count-is in
    record {
      m = m;
      weights = weights;
      steps = steps;
      blockeds = blockeds;
      latests = latests;
      prepared = subst (λ n. Prepared g [] n m weights steps blockeds latests) n-is (rw size at measured.prepared);
      passes-are = rw n-is at count;
    }

-- No forbidden paths are within the bounds.
pub bounded-nil : (n : ℕ) → n ≤ most_vertices → Bounded n []
bounded-nil n few = record {
  few-vertices = few;
  few = omega arith;
  long = λ r m. absurd (Memᴰ.not-nil m);
  short = λ r m. absurd (Memᴰ.not-nil m);
  below = λ r m. absurd (Memᴰ.not-nil m);
}
