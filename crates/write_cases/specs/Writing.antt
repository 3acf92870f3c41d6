-- What is answered for a case, and written.
use Rattle.std.specs.Prelude.{ℕ, ◌≡◌, List, take, drop, Option, Some, None, Result}
use Rattle.book.specs.declared.Refusal.{Refusal}
use Rattle.book.specs.Reading.{Reading, accepted, refused}
use Rattle.content.specs.Content.{content}
use Rattle.writing.specs.Writing.{bytes_in_order, WritingOf}
use Rattle.write_cases.specs.Inputs.{Said}

-- The book of what an input says is written into as many bytes in front of an area as it says (the whole area, where it has fewer), and the rest stays. Where the
-- input is cut short, none is the answer and nothing is written.
abbrev pub WrittenAs : Option Said → List ℕ → Option (Result ℕ Refusal) → List ℕ → Type 0
WrittenAs None old None new = new ≡ old
WrittenAs None old (Some r) new = ⊥
WrittenAs (Some x) old None new = ⊥
WrittenAs (Some x) old (Some r) new =
    WritingOf (content x.vertices x.arcs x.sets) (take x.room old) r (take x.room new) × (drop x.room new ≡ drop x.room old)

-- The bytes of a book that is written anew.
abbrev pub Rewritten : Reading → List ℕ → Type 0
Rewritten (accepted b) anew = anew ≡ bytes_in_order b
Rewritten (refused r) anew = ⊥
