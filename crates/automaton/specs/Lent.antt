-- The tables that `build` is lent, as its steps hand them on.
use Rattle.std.specs.Prelude.{◌≡◌, length}
use Rattle.automaton.specs.declared.Tables.{Tables}

-- The same tables are lent, each as long as before.
pub record Kept (old new : Tables) : Type 0 where
  pub same_steps : new.steps.ghost_name ≡ old.steps.ghost_name
  pub same_blockeds : new.blocked.ghost_name ≡ old.blocked.ghost_name
  pub same_latests : new.latest.ghost_name ≡ old.latest.ghost_name
  pub same_fails : new.fail.ghost_name ≡ old.fail.ghost_name
  pub of_steps : length new.steps.now ≡ length old.steps.now
  pub of_blockeds : length new.blocked.now ≡ length old.blocked.now
  pub of_latests : length new.latest.now ≡ length old.latest.now
  pub of_fails : length new.fail.now ≡ length old.fail.now
