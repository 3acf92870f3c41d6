-- Two books whose rule sets leave the same walks have equal plans, for every batch, start and end; so do two that differ in the order of their rule sets.
use Rattle.std.specs.Prelude.{◌≡◌}
use mathlib.Core.List.{Permᴰ}
use Rattle.walks.proofs.Avoid.{Avoids-mono}
use Rattle.walks.specs.Best.{NoStricter}
use Rattle.book.specs.Book.{Book, graph}
use Rattle.rules.specs.Binding.{known}
use Rattle.rules.proofs.Laws.{same_set}
use Rattle.rules.specs.declared.Batch.{Batch}

pub record SameGraph (b c : Book) : Type 0 where
  pub counts : c.count ≡ b.count
  pub arcs : c.arcs ≡ b.arcs

-- The same count and arcs, and the same rule sets in another order.
pub record Reordered (b c : Book) : Type 0 where
  pub same : SameGraph b c
  pub sets : Permᴰ b.sets c.sets

-- The same count and arcs, and known paths that leave the same walks, for every batch.
pub record SameWalks (b c : Book) : Type 0 where
  pub same : SameGraph b c
  pub to : (batch : Batch) → NoStricter (graph b) (known batch b.sets) (known batch c.sets)
  pub from : (batch : Batch) → NoStricter (graph b) (known batch c.sets) (known batch b.sets)

pub reordered_walks : (b c : Book) → Reordered b c → SameWalks b c
reordered_walks b c o =
    record {
      same = o.same;
      to = λ batch w _. Avoids-mono (same_set batch b c o.sets).1;
      from = λ batch w _. Avoids-mono (same_set batch b c o.sets).0;
    }
