-- From the book that was loaded, and what is found in it, to the text for an input.
use Rattle.std.specs.Prelude
use Rattle.std.specs.Prelude.{ℕ, ◌-◌, ◌≤◌, ◌<◌, ◌≡◌, true, false, List, ltb, length, get_or, take, drop}
use Rattle.std.proofs.Common.{sym, ap, subst, subst₂, ◌∙◌, arith, le-leb, lt-ltb, length-drop}
use Rattle.std.proofs.Math.Seq.{take_all}
use Rattle.book.specs.declared.Loaded.{Loaded}
use Rattle.book.specs.Book.{Book, graph}
use Rattle.book.specs.Loaded.{LoadedFrom}
use Rattle.book.specs.Refusal.{numbered}
use Rattle.book.specs.RefusalLaws.{here, later}
use Rattle.book.specs.Reading.{accepted, reading}
use Rattle.book.specs.Tables.{IsGraph}
use Rattle.rules.specs.Area.{spelled, written}
use Rattle.dates.specs.Dates.{is_date}
use Rattle.rules.specs.Binding.{batch_at, known}
use Rattle.rules.proofs.Laws.{gathered_spells}
use Rattle.rules.specs.declared.Batch.{Batch}
use Rattle.routes.specs.declared.Plan.{Plan}
use Rattle.routes.specs.Plan.{Searched}
use Rattle.text.specs.Text.{refusal_text}
use Rattle.answer.specs.Answer.{AnsweredUnder, AnsweredOf, AnsweredBy, Answered}
use Rattle.answer.specs.AnswerLaws.{answer-fails, answer-found}

-- What is found in the area of the known paths is found under them.
pub found : (bytes : List ℕ) (l : Loaded) (f : LoadedFrom bytes l) (batch : Batch) (start end n : ℕ) (area : List ℕ)
    → (n ≡ length (known batch f.book.sets)) × (area ≡ written (known batch f.book.sets))
    → (v : ℕ) (w : List ℕ) → v ≡ l.counts.vertices → w ≡ l.weights
    → (old new : List ℕ) (r : Prelude.Option Plan) → ((b : Book) → IsGraph b v w → Searched (graph b) (spelled n area) start end old r new)
    → Searched (graph f.book) (known batch f.book.sets) start end old r new
found bytes l f batch start end n area gathered v w v-is w-is old new r searched =
    subst (λ G. Searched (graph f.book) G start end old r new) (gathered_spells batch f.book f.tables.graph.well gathered.0 gathered.1)
    (searched f.book (subst₂ (IsGraph f.book) (sym v-is) (sym w-is) f.tables.graph))

-- A text that is right under the known paths of the book in an input is right for the input.
module _ (s : List ℕ) (l : Loaded) (long : 8 ≤ length s) (f : LoadedFrom (take (length s - 8) (drop 8 s)) l) where
  read : reading (drop 8 s) ≡ reading (take (length s - 8) (drop 8 s))
  read = ap reading (sym (take_all (length s - 8) (drop 8 s) (omega (arith, length-drop 8 s))))

  of-input : (text : List ℕ) → AnsweredOf (accepted f.book) (batch_at s 4) (get_or s 2 0) (get_or s 3 0) text → Answered s text
  of-input text right =
      subst (λ x. AnsweredBy x s text) (sym (le-leb 8 (length s) long))
      (subst (λ x. AnsweredOf x (batch_at s 4) (get_or s 2 0) (get_or s 3 0) text) (sym (read ∙ f.is)) right)

  module _ (start-below : get_or s 2 0 < l.counts.vertices) (end-below : get_or s 3 0 < l.counts.vertices) (batch : Batch) (batch_is : batch ≡ batch_at s 4) where
    start-fits : ltb (get_or s 2 0) f.book.count ≡ true
    start-fits = lt-ltb _ _ (omega (arith, f.tables.graph.vertices_are))

    end-fits : ltb (get_or s 3 0) f.book.count ≡ true
    end-fits = lt-ltb _ _ (omega (arith, f.tables.graph.vertices_are))

    pub undated : is_date batch.date ≡ false → Answered s (refusal_text (numbered 15 0))
    undated none =
        of-input (refusal_text (numbered 15 0))
        (answer-fails f.book (batch_at s 4) (get_or s 2 0) (get_or s 3 0) (later start-fits (later end-fits (here (subst (λ (m : Batch). is_date m.date ≡ false) batch_is none)))))

    pub answered : is_date batch.date ≡ true → (text : List ℕ) → AnsweredUnder (graph f.book) (known batch f.book.sets) (get_or s 2 0) (get_or s 3 0) text
        → Answered s text
    answered dated text under =
        of-input text
        (answer-found f.book (batch_at s 4) (get_or s 2 0) (get_or s 3 0) (start-fits, (end-fits, (subst (λ (m : Batch). is_date m.date ≡ true) batch_is dated, tt))) text
        (subst (λ m. AnsweredUnder (graph f.book) (known m f.book.sets) (get_or s 2 0) (get_or s 3 0) text) batch_is under))
