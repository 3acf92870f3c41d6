-- The empty book is refused.
use Rattle.std.proofs.Common.{◌≡◌, length, refl, rules}
use Rattle.book.proofs.Loop.{nothing}
use Rattle.book.proofs.Loaded.read.Goals as goal

pub returns-then-is_empty : goal.returns-then-is_empty
returns-then-is_empty c =
    let none : length c.args.bytes.now ≡ 0 = search rules in
    rw (nothing c.args.bytes.now none) refl
