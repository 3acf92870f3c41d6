-- A refusal is known by its number and its place.
use Rattle.std.specs.Prelude.{◌≡◌, List, [], ◌∷◌, unwrap_or}
use Rattle.std.proofs.Common.{inl, inr}
use denote.Enum.Declared.{Choice}
use denote.Struct.Field.{Field}
use denote.Struct.Values.{Values}
use Rattle.book.specs.declared.Refusal.{Refusal}
use Rattle.book.specs.Refusal.{number_of, place_of, numbered}

-- What holds in each case of an enum holds of all its values.
abbrev pub InEach : (cases : List (List Field)) → (Choice cases → Type 0) → Type 0
InEach [] P = Unit
InEach (c ∷ cs) P = ((v : Values c) → P (inl v)) × InEach cs (λ x. P (inr x))

-- In each case both sides compute to it: there is no clause for each refusal here, so that a new one changes nothing.
abbrev pub Again : Refusal → Type 0
Again r = numbered (number_of r) (unwrap_or (place_of r) 0) ≡ r
