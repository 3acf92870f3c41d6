-- What a single call leaves in the areas that it is lent.
use Rattle.std.specs.Prelude.{ℕ, ◌≡◌, List, Option, Result}
use Rattle.book.specs.declared.Refusal.{Refusal}
use Rattle.rules.specs.declared.Batch.{Batch}
use Rattle.rules.specs.Operations.{binding, area_after}
use Rattle.planner.specs.Planning.{Planning}
use Rattle.routes.specs.declared.Plan.{Plan as Found}
use Rattle.trial_record.specs.declared.Record.{Record}
use Rattle.trial_rules.specs.Trials.{failed}
use Rattle.trials.specs.Operations.{beginning, reporting}
use Rattle.any_cases.specs.declared.Call.{Call}
use Rattle.any_cases.specs.declared.Call.TheVariants.{Bind, Check, Plan, Begin, Passed, Failed}

-- The book s and the batch; the record, of which planning and the check take the count of known paths, and planning and begin start and end; the
-- list is the walk to check, or the named path. The runs area and the walk's area, before and after.
abbrev pub Made : Call → Record → Batch → List ℕ → List ℕ → List ℕ → List ℕ → List ℕ → List ℕ → Type 0
Made Bind r batch list s paths walk paths' walk' = (paths' ≡ area_after (binding s batch paths) paths) × (walk' ≡ walk)
Made Check r batch list s paths walk paths' walk' = (paths' ≡ paths) × (walk' ≡ walk)
Made Plan r batch list s paths walk paths' walk' = (paths' ≡ paths) × ((o : Result (Option Found) Refusal) × Planning s paths r.known r.start r.end walk o walk')
Made Begin r batch list s paths walk paths' walk' =
    (paths' ≡ (beginning s batch r.start r.end paths walk).paths) × (walk' ≡ (beginning s batch r.start r.end paths walk).walk)
Made Passed r batch list s paths walk paths' walk' = (paths' ≡ paths) × (walk' ≡ walk)
Made Failed r batch list s paths walk paths' walk' =
    (paths' ≡ (reporting s r paths walk (failed list)).paths) × (walk' ≡ (reporting s r paths walk (failed list)).walk)
