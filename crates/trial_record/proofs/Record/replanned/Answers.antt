-- The walk that was found stands.
use Rattle.trial_record.proofs.Record.replanned.Goals as goal

pub returns-in-Some : goal.returns-in-Some
returns-in-Some c = rw c.in-Some.is c.standing.ensures
