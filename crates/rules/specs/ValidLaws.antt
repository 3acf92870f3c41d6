-- Laws of valid areas: what one holds, and that an area written with paths by the book's rules is one.
use Rattle.std.specs.Prelude.{ℕ, ◌≤◌, List, ◌≡◌}
use Rattle.std.proofs.Math.Bool.{true}
use Rattle.std.proofs.Math.ListN.{take}
use Rattle.book.specs.Book.{All, IsPath}
use Rattle.rules.specs.Binding.{once}
use Rattle.rules.specs.Area.{written, spelled}
use Rattle.limits.specs.Limits.{area_size, most_paths}

-- What a valid area holds: at most 256 different paths by the book's rules, and nothing else.
pub record Valid (vertices : ℕ) (area : List ℕ) (count : ℕ) : Type 0 where
  pub few : count ≤ most_paths
  pub paths : All (IsPath vertices) (spelled count area)
  pub different : once (spelled count area) ≡ true
  pub bytes : take area_size area ≡ written (spelled count area)
