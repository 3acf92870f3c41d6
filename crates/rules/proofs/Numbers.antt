-- The laws of what specs/Numbers.antt defines.
use Rattle.std.specs.Prelude.{List, [], ◌∷◌}
use Rattle.std.proofs.Common.{subst, inl, inr}
use denote.Enum.Declared.{Choice}
use denote.Struct.Field.{Field}
use Rattle.book.specs.declared.Refusal.{Refusal}
use Rattle.book.specs.contracts.Refusal.{the_parts as parts, the_make as make, as_values, the_eta as eta}
use Rattle.rules.specs.Numbers.{InEach, Again}

each : (cases : List (List Field)) (P : Choice cases → Type 0) → InEach cases P → (x : Choice cases) → P x
each [] P h x = absurd x
each (c ∷ cs) P h (inl v) = h.0 v
each (c ∷ cs) P h (inr x) = each cs (λ y. P (inr y)) h.1 x

pub refusal-again : (r : Refusal) → Again r
refusal-again r = subst Again (eta r) (each parts (λ x. Again (make x)) (search tt depth 60 fits 5000) (as_values r))
