-- The steps of the record.
use Rattle.std.specs.Prelude.{ℕ, ◌+◌, ◌<◌, ◌≡◌, Option, Some, None}
use Rattle.std.proofs.Common.{subst}
use Rattle.routes.specs.declared.Plan.{Plan}
use Rattle.limits.specs.Limits.{longest}
use Rattle.trial_record.specs.declared.Record.{Record}

-- Trials begin with that many forbidden paths known; there is no plan yet.
abbrev pub fresh : ℕ → ℕ → ℕ → Record
fresh start end known =
    record { stage = 2; start = start; end = end; known = known; first = known; failed = 0; passed = 0; litres = 0; length = 0 }

-- A plan, or none (01: in stage 2 length and litres are 0).
abbrev pub with_plan : Record → ℕ → ℕ → ℕ → Record
with_plan r stage litres length = record r { stage = stage; litres = litres; length = length }

-- What is found: a plan, or that there is none.
abbrev pub Found : Type 0
Found = Option Plan

abbrev pub replanned : Record → Found → Record
replanned r (Some p) = with_plan r 0 p.weight (p.hops + 1)
replanned r None = with_plan r 2 0 0

-- A walk that was found has a length that the record holds.
abbrev pub Recordable : Found → Type 0
Recordable (Some p) = p.hops < longest
Recordable None = Unit

-- Passed: stage 1, passed becomes 1.
abbrev pub passed_of : Record → Record
passed_of r = record r { stage = 1; passed = 1 }

-- Failed: one more forbidden path is known, failed grows by 1.
abbrev pub failed_of : Record → Record
failed_of r = record r { known = r.known + 1; failed = r.failed + 1 }

pub short-walk : (f : Found) (p : Plan) → f ≡ Some p → Recordable f → p.hops < longest
short-walk f p e h = subst Recordable e h
