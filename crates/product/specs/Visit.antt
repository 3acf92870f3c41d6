-- A loop over the vertices of a word, lowest first.
use Rattle.std.specs.Prelude.{Bool, ◌&&◌, ◌≡◌, ℕ, ◌≤◌, leb}
use Rattle.product.specs.Word.{word}

-- Of the vertices below n that pass p, those from `next` on are left.
pub record Ahead (p : ℕ → Bool) (n next left : ℕ) : Type 0 where
  pub next_le : next ≤ n
  pub left-is : left ≡ word (λ u. p u && leb next u) n
