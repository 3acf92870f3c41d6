-- The arcs so far are added, and those that are left come after them.
use Rattle.std.proofs.Common.{ℕ, List, ◌++◌, ◌-◌, ◌*◌, ◌≡◌, drop}
use Rattle.write_cases.specs.Inputs.{arcs_numbers}
use Rattle.write_cases.specs.Kept.{Adds}
use Rattle.write_cases.proofs.input.add_arcs.Given as goal

abbrev pub invariant-loop-k : goal.invariant-loop-k
invariant-loop-k l =
    (xs : List ℕ) × (arcs_numbers l.n l.input ≡ xs ++ arcs_numbers (l.n - l.k) (drop (l.k * 6) l.input)) × Adds xs l.initial.out.items l.out.items
