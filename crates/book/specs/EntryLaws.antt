-- Laws of padded lists and of the entries of forbidden paths.
use Rattle.std.specs.Prelude.{ℕ, ◌≤◌, List, length}
use Rattle.limits.specs.Limits.{longest_path}

-- A path that an entry has room for.
abbrev pub Short : List ℕ → Type 0
Short p = length p ≤ longest_path
