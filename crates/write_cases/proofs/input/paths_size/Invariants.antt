-- The paths so far and those that are left have the bytes of all.
use Rattle.std.proofs.Common.{◌+◌, ◌*◌, ◌-◌, ◌≤◌, ◌≡◌, drop}
use Rattle.write_cases.specs.Inputs.{paths_size}
use Rattle.write_cases.proofs.input.paths_size.Given as goal

abbrev pub invariant-loop : goal.invariant-loop
invariant-loop l = record {
  sum : paths_size l.n l.input ≡ l.at + paths_size (l.n - l.counter) (drop l.at l.input);
  few : l.at ≤ l.counter * 256;
}
