-- The rule sets so far are added, and those that are left come after them.
use Rattle.std.proofs.Common.{ℕ, List, ◌++◌, ◌+◌, ◌-◌, ◌≤◌, ◌≡◌, length, drop}
use Rattle.write_cases.specs.Inputs.{sets_size, sets_numbers}
use Rattle.write_cases.specs.Kept.{Adds}
use Rattle.write_cases.proofs.input.add_sets.Given as goal

abbrev pub invariant-loop : goal.invariant-loop
invariant-loop l = record {
  within : l.at ≤ length l.input;
  sum : sets_size l.n l.input ≡ l.at + sets_size (l.n - l.counter) (drop l.at l.input);
  added : (xs : List ℕ) × (sets_numbers l.n l.input ≡ xs ++ sets_numbers (l.n - l.counter) (drop l.at l.input)) × Adds xs l.initial.out.items l.out.items;
}
