-- The text by what is refused, with the lines read off the table of ends; and where it stands.
use Rattle.std.specs.Prelude.{ℕ, ◌*◌, ◌-◌, ◌≤◌, ◌<◌, ◌≡◌, refl, true, false, length, get_or, take, drop}
use Rattle.std.proofs.Common.{sym, ap, ap₂, subst, subst₂, ◌∙◌, arith, lt-ltb, le-ltb, le-leb, length-drop}
use Rattle.std.proofs.Math.Seq.{take_all}
use mathlib.Core.List.{List, [], ◌∷◌, ◌++◌, append-nil, Memᴰ}
use Rattle.std.proofs.Math.Option.{Option, none, some}
use Rattle.limits.specs.Limits.{longest_path}
use Rattle.states.specs.Chosen.{Decided, chosen}
use Rattle.states.proofs.Chosen.{chosen_is}
use Rattle.book.specs.declared.Loaded.{Loaded}
use Rattle.book.specs.Book.{Book, WellFormed, graph}
use Rattle.book.specs.Loaded.{LoadedFrom}
use Rattle.book.specs.Tables.{IsGraph}
use Rattle.book.proofs.BookLaws.{reading-is-book, all-member}
use Rattle.book.specs.EntryLaws.{Short}
use Rattle.book.specs.Reading.{accepted, reading}
use Rattle.book.specs.Refusal.{numbered, test, refusal_by}
use Rattle.book.proofs.TableLaws.{book-weights}
use Rattle.rules.specs.Area.{spelled, written}
use Rattle.dates.specs.Dates.{is_date}
use Rattle.rules.specs.Binding.{batch_at, known}
use Rattle.rules.proofs.Laws.{gathered_spells}
use Rattle.rules.proofs.BindingLaws.{known-few, known-short}
use Rattle.rules.specs.declared.Batch.{Batch}
use Rattle.rules.specs.Operations.{date_test}
use Rattle.arrayvec.specs.ArrayVec.{ArrayVec, array_vec_len}
use Rattle.text.specs.Text.{longest_text, refusal_text}
use Rattle.text.proofs.Writing.{Wrote, wrote-front}
use Rattle.ends.specs.Ends.{ends}
use Rattle.ends.proofs.EndsLaws.{best-numbers}
use Rattle.board_text.specs.Board.{lines, board_as, board_of, board_by, board_text, Printed}
use Rattle.board_text.specs.Lines.{Light, table_lines}
use Rattle.board_text.proofs.LinesLaws.{ends-lines}

-- ---- no best walk under the known paths of a book weighs as much as the mark of none
module _ (b : Book) (well : WellFormed b) (batch : Batch) (s : ℕ) where
  abbrev F : List (List ℕ)
  F = known batch b.sets

  light : (v : ℕ) → Light (graph b) (chosen (graph b) F s v)
  light v = go (chosen (graph b) F s v) (chosen_is (graph b) F s v well.few-vertices (known-few batch b well) short)
    where
      short : (r : List ℕ) → Memᴰ r F → length r ≤ longest_path
      short = all-member Short F (known-short batch b well)

      go : (o : Option (List ℕ)) → Decided (graph b) F s v o → Light (graph b) o
      go none d = tt
      go (some w) d =
          omega (arith, best-numbers (graph b) F s v well.few-vertices (known-few batch b well) short (book-weights b well) d.0)

  -- So the lines of a book are those of its table of ends, whatever stands after that.
  pub book-lines : (G : List (List ℕ)) (n : ℕ) (table rest : List ℕ) → G ≡ F → n ≡ b.count → table ≡ ends (graph b) G s n ++ rest
      → table_lines table n ≡ lines (graph b) F s b.count
  book-lines G n table rest paths vertices is =
      ap₂ table_lines (is ∙ ap₂ (λ H m. ends (graph b) H s m ++ rest) paths vertices) vertices ∙ ends-lines (graph b) F s b.count light rest

-- ---- in a book that was read: 7, 15, or the lines
module _ (b : Book) (batch : Batch) (s : ℕ) where
  pub board_refused : b.count ≤ s → board_of (accepted b) batch s ≡ refusal_text (numbered 7 0)
  board_refused h = ap (λ x. board_as (refusal_by (test 7 x ∷ date_test batch ∷ [])) b batch s) (le-ltb s b.count h)

  board_undated : s < b.count → is_date batch.date ≡ false → board_of (accepted b) batch s ≡ refusal_text (numbered 15 0)
  board_undated h undated = ap₂ (λ x y. board_as (refusal_by (test 7 x ∷ test 15 y ∷ [])) b batch s) (lt-ltb s b.count h) undated

  pub board_lines : s < b.count → is_date batch.date ≡ true → board_of (accepted b) batch s ≡ lines (graph b) (known batch b.sets) s b.count
  board_lines h dated = ap₂ (λ x y. board_as (refusal_by (test 7 x ∷ test 15 y ∷ [])) b batch s) (lt-ltb s b.count h) dated

-- The text for an input that is not refused, from the table of ends of its book.
pub board_text_lem : (s : List ℕ) (b : Book) → 7 ≤ length s → reading (drop 7 s) ≡ accepted b → get_or s 2 0 < b.count → is_date (batch_at s 3).date ≡ true
    → board_text s ≡ table_lines (ends (graph b) (known (batch_at s 3) b.sets) (get_or s 2 0) b.count) b.count
board_text_lem s b long read start dated =
    ap (λ x. board_by x s) (le-leb 7 (length s) long)
    ∙ ap (λ x. board_of x (batch_at s 3) (get_or s 2 0)) read
    ∙ board_lines b (batch_at s 3) (get_or s 2 0) start dated
    ∙ sym (book-lines b (reading-is-book (drop 7 s) b read).well_formed (batch_at s 3) (get_or s 2 0) _ _ _ [] refl refl (sym (append-nil (ends (graph b) (known (batch_at s 3) b.sets) (get_or s 2 0) b.count))))

-- The text for an input, from the book in it that was loaded, and the table that is filled under its known paths.
module _ (s : List ℕ) (l : Loaded) (long : 7 ≤ length s) (f : LoadedFrom (take (length s - 7) (drop 7 s)) l) where
  read : reading (drop 7 s) ≡ reading (take (length s - 7) (drop 7 s))
  read = ap reading (sym (take_all (length s - 7) (drop 7 s) (omega (arith, length-drop 7 s))))

  pub undated : get_or s 2 0 < l.counts.vertices → (batch : Batch) → batch ≡ batch_at s 3 → is_date batch.date ≡ false → board_text s ≡ refusal_text (numbered 15 0)
  undated start batch batch_is no_date =
      let vertices = f.tables.graph.vertices_are in
      ap (λ x. board_by x s) (le-leb 7 (length s) long)
      ∙ ap (λ x. board_of x (batch_at s 3) (get_or s 2 0)) (read ∙ f.is)
      ∙ board_undated f.book (batch_at s 3) (get_or s 2 0) (omega arith) (subst (λ (m : Batch). is_date m.date ≡ false) batch_is no_date)

  pub filled_text : get_or s 2 0 < l.counts.vertices → (batch : Batch) → batch ≡ batch_at s 3 → is_date batch.date ≡ true
      → (n : ℕ) (area : List ℕ) → (n ≡ length (known batch f.book.sets)) × (area ≡ written (known batch f.book.sets))
      → (v : ℕ) (w : List ℕ) → v ≡ l.counts.vertices → w ≡ l.weights
      → (old new : List ℕ) → ((b : Book) → IsGraph b v w → new ≡ ends (graph b) (spelled n area) (get_or s 2 0) v ++ drop (2 * v) old)
      → board_text s ≡ table_lines new l.counts.vertices
  filled_text start batch batch_is dated n area gathered v w v-is w-is old new filled =
      let b = f.book in
      let well = f.tables.graph.well in
      let vertices = f.tables.graph.vertices_are in
      ap (λ x. board_by x s) (le-leb 7 (length s) long)
      ∙ ap (λ x. board_of x (batch_at s 3) (get_or s 2 0)) (read ∙ f.is)
      ∙ ap (λ m. board_of (accepted b) m (get_or s 2 0)) (sym batch_is)
      ∙ board_lines b batch (get_or s 2 0) (omega arith) dated
      ∙ sym (book-lines b well batch (get_or s 2 0) (spelled n area) l.counts.vertices new (drop (2 * v) old)
      (gathered_spells batch b well gathered.0 gathered.1) vertices
      (filled b (subst₂ (IsGraph b) (sym v-is) (sym w-is) f.tables.graph) ∙ ap (λ k. ends (graph b) (spelled n area) (get_or s 2 0) k ++ drop (2 * v) old) v-is))

-- ---- where the text stands: alone in its buffer
pub wrote_printed : (s : List ℕ) {old new : List ℕ} → old ≡ [] → Wrote (board_text s) old new → length new ≤ longest_text → Printed s new
wrote_printed s blank w short = record { bytes_are = (wrote-front (board_text s) blank w).1; within = short }

module _ (s : List ℕ) (out : ArrayVec ℕ) (p : Printed s out.items) where
  pub printed_size : array_vec_len out ≡ length (board_text s)
  printed_size = ap length p.bytes_are

  pub printed_within : array_vec_len out ≤ longest_text
  printed_within = p.within
