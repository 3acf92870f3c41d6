-- A field whose frame is whole is its value's; a frame that is refused is the field's refusal.
use Rattle.std.specs.Prelude
use Rattle.std.proofs.Common.{◌≡◌, ℕ, List, length, Some, Ok, Err, Result, refl, sym, ap, subst, ◌∙◌}
use Rattle.std.proofs.Math.Option.{Option, none, some}
use Rattle.book.specs.declared.Counts.{Counts}
use Rattle.book.specs.declared.Kind.{Kind}
use Rattle.book.specs.declared.Loaded.{Loaded}
use Rattle.book.specs.declared.Refusal.{Refusal}
use Rattle.book.specs.Refusal.{first_failure}
use Rattle.book.proofs.RefusalLaws.{first-of_append, first-kept}
use Rattle.book.specs.Book.{Book, WellFormed}
use Rattle.book.proofs.BookLaws.{field-well_formed}
use Rattle.book.specs.Reading.{Reading, accepted, refused, verdict, kind_at, framing, content, framed, extended, outcome, taken, field}
use Rattle.book.specs.Tables.{IsLoaded, AreTables, Leaves, LoadedAs, left}

-- ---- what is taken stands for a well-formed book
pub tables-well : (x : Reading) → ((b : Book) → x ≡ accepted b → WellFormed b) → (r : Result Unit Refusal) (l : Loaded)
    → Leaves AreTables x (left r l) → LoadedAs x (left r l)
tables-well (accepted b) formed (Ok u) l t =
    let w = formed b refl in
    record {
      counted = t.counts_are;
      graph = record { well = w; vertices_are = ap (λ (d : Counts). d.vertices) t.counts_are; weights_are = t.weights_are };
      sets = record { well = w; counted = ap (λ (d : Counts). d.paths) t.counts_are; needs_are = t.needs_are; owners_are = t.owners_are; paths_are = t.paths_are };
    }
tables-well (accepted b) formed (Err r) l t = t
tables-well (refused q) formed (Ok u) l t = t
tables-well (refused q) formed (Err r) l t = t

-- ---- a frame
verdict-read : {A : Type 0} (o : Option Refusal) (x y : A) → verdict o x ≡ Ok y → (o ≡ none) × (x ≡ y)
verdict-read none x y e = (refl, cc)
verdict-read (some r) x y e = absurd (cc)

verdict-refused : {A : Type 0} (o : Option Refusal) (x : A) (r : Refusal) → verdict o x ≡ Err r → o ≡ some r
verdict-refused none x r e = absurd (cc)
verdict-refused (some q) x r e = let same : q ≡ r = cc in ap some same

module _ (s : List ℕ) (at : ℕ) (b : Book) (l : Loaded) (h : IsLoaded b l) where
  frame_first : first_failure (framing s l.counts.vertices l.counts.sets at) ≡ first_failure (framing s b.count (length b.sets) at)
  frame_first = ap (λ (d : Counts). first_failure (framing s d.vertices d.sets at)) h.counted

  pub field-refused : (r : Refusal) → framed s at l.counts ≡ Err r → LoadedAs (field s b at) (Err r)
  field-refused r e =
      let is : field s b at ≡ refused r =
      ap (λ o. outcome o (extended (kind_at s at) s b at))
      (first-kept (framing s b.count (length b.sets) at) (content (kind_at s at) s b at) r (sym frame_first ∙ verdict-refused _ (kind_at s at) r e)) in
      subst (λ x. LoadedAs x (Err r)) (sym is) refl

  same-field : (k : Prelude.Option Kind) → framed s at l.counts ≡ Ok k → taken k s b at ≡ field s b at
  same-field k e =
      let (passed, is) = verdict-read _ (kind_at s at) k e in
      ap (λ j. taken j s b at) (sym is)
      ∙ ap (λ o. outcome o (extended (kind_at s at) s b at))
      (sym (first-of_append (framing s b.count (length b.sets) at) (content (kind_at s at) s b at) (sym frame_first ∙ passed)))

  pub field-taken : (k : Kind) (r : Result Unit Refusal) (l' : Loaded) → framed s at l.counts ≡ Ok (Some k)
      → Leaves AreTables (taken (Some k) s b at) (left r l') → LoadedAs (field s b at) (left r l')
  field-taken k r l' e t =
      tables-well (field s b at) (λ b' is. field-well_formed s b at b' h.graph.well is) r l'
      (subst (λ x. Leaves AreTables x (left r l')) (same-field (Some k) e) t)
