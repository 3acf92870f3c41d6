-- The cases of a stream, each handed on in its turn.
use Rattle.std.specs.Prelude.{ℕ, ◌≡◌, List, [], ◌∷◌, ◌++◌, length, Option}
use Rattle.std.specs.Int.{from_be_bytes, w32}
use Rattle.std.specs.Io.KnownBytes.{Consumes}
use Rattle.std.specs.Fn.{CalledAt}
use Rattle.std.specs.List.{FoldsTo}
use denote.Param.Members.{Mut}
use denote.Ref.{Bor}

-- A frame was taken off the front of a stream: its length in four bytes, high byte first, and then its bytes.
abbrev pub Taken : List ℕ → Option (List ℕ) → Option (List ℕ) → Type 0
Taken x old new = (head : List ℕ) × (length head ≡ 4) × (length x ≡ from_be_bytes w32 head) × Consumes old new (head ++ x)

-- These frames stand at the front of a stream, one behind another.
abbrev pub FramesOf : List (List ℕ) → Option (List ℕ) → Type 0
FramesOf [] old = Unit
FramesOf (x ∷ xs) old = (new : Option (List ℕ)) × Taken x old new × FramesOf xs new

-- Frames that stand at the front of a stream, one behind another: f was called on each of these in turn. That none is left out is run, not
-- proved: a read may fail anywhere.
abbrev pub Served : {F : Type 0} → Mut F (Bor (List ℕ) × Unit {0}) (Unit {0}) → F → Option (List ℕ) → Type 0
Served {F} g f old = (xs : List (List ℕ)) × (last : F) × FramesOf xs old × FoldsTo (λ p x q. CalledAt g p x tt q) f xs last
