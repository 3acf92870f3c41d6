-- An entry of a valid area holds a path.
use Rattle.std.specs.Prelude.{ℕ, ◌-◌, List, ◌≡◌, leb, get_or}
use Rattle.std.proofs.Math.Bool.{true}
use Rattle.lists.specs.Test.{and-true}
use Rattle.book.specs.Book.{IsPath, is_path}
use Rattle.book.proofs.BookLaws.{is_path→IsPath}
use Rattle.rules.specs.Area.{path_of, is_entry}
use Rattle.limits.specs.Limits.{longest_path}

pub entry-path : (v : ℕ) (e : List ℕ) → is_entry v e ≡ true → IsPath v (path_of e)
entry-path v e h = is_path→IsPath v (path_of e) (and-true (leb (get_or e 0 0) longest_path) _ h).1
