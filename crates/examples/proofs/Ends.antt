-- The laws of what specs/Ends.antt defines.
use Rattle.std.specs.Prelude.{ℕ, ◌*◌, ◌<◌, ◌≤◌, ◌≡◌, refl, true, ltb, length, drop}
use Rattle.std.proofs.Common.{sym, ap, ap₂, subst, ◌∙◌, arith, le-leb}
use mathlib.Core.List.{List, [], ◌∷◌, ◌++◌, Memᴰ}
use Rattle.std.proofs.Math.Option.{none}
use Rattle.walks.specs.Best.{None}
use Rattle.dates.specs.declared.Date.{Date}
use Rattle.dates.specs.Calendar.{IsDate}
use Rattle.book.specs.Refusal.{refusal_by}
use Rattle.book.proofs.RefusalLaws.{hold→none}
use Rattle.book.specs.Book.{Book, IsPath, graph}
use Rattle.book.proofs.BookLaws.{all-member}
use Rattle.book.specs.Reading.{accepted, reading, book_in}
use Rattle.rules.specs.Binding.{covers, applied, known}
use Rattle.rules.proofs.BindingLaws.{known-few, known-paths}
use Rattle.rules.specs.Area.{valid}
use Rattle.rules.specs.Operations.{binding, area_after}
use Rattle.rules.proofs.Laws.{bind-accepted}
use Rattle.rules.specs.declared.Batch.{Batch}
use Rattle.limits.specs.Limits.{area_size, most_paths, longest_path}
use Rattle.ends.specs.Ends.{no_end, ends}
use Rattle.ends.proofs.EndsLaws.{entry-best, entry-none, entry-start}
use Rattle.reach.specs.Reaching.{reach_tests, answer_by, table_by, reached, table_after}
use Rattle.examples.specs.Batches.{marks}
use Rattle.examples.specs.Books.{bytes_a, book_a, book-A}
use Rattle.examples.specs.Walks.{Plan, marks_3, best-to-1, best-to-2, none-to-0, none-to-1, none-to-2}
use Rattle.examples.specs.Sums.{graph_a, binds, well-A}
use Rattle.examples.specs.Ends.{Fills, table-0, table-3, Sums, known-3, entry}

-- ---- from the definition of the table
module _ (s : List ℕ) (b : Book) (read : reading s ≡ accepted b) (batch : Batch) (valid-date : IsDate batch.date) (start : ℕ) (below : ltb start b.count ≡ true) where
  fills : (numbers : List ℕ) → ends (graph b) (known batch b.sets) start b.count ≡ numbers → Fills s batch start b.count numbers
  fills numbers are paths table fits long =
      let F = known batch b.sets in
      let is = binds s b read batch valid-date paths fits in
      let after = area_after (binding s batch paths) paths in
      let f = bind-accepted s batch paths F is in
      let valid-b : valid b.count after (length F) ≡ true = subst (λ (x : Book). valid x.count after (length F) ≡ true) (ap book_in (sym f.read ∙ read)) f.validity in
      let unrefused : refusal_by (reach_tests after (length F) start table b) ≡ none =
      hold→none (reach_tests after (length F) start table b) (le-leb area_size (length after) f.long, (le-leb (2 * b.count) (length table) long, (below, (valid-b, tt)))) in (
        F,
        is,
        ap (λ x. reached x after (length F) start table) read ∙ ap (λ o. answer_by o (graph b)) unrefused,
        ap (λ x. table_after x after (length F) start table) read ∙ ap₂ (λ o G. table_by o (graph b) G start table) unrefused f.spells ∙ ap (λ l. l ++ drop (2 * b.count) table) are,
      )

-- ---- book A under marks 3, on a date
module _ (date : Date) where
  few : length (known-3 date) ≤ most_paths
  few = known-few (marks 3 date) book_a well-A

  short : (r : List ℕ) → Memᴰ r (known-3 date) → length r ≤ longest_path
  short r m = (all-member (IsPath 4) (known-3 date) (known-paths (marks 3 date) book_a well-A) r m).eight

  to : {s t n k : ℕ} {w : List ℕ} → Plan graph_a (known-3 date) s t w n k → entry date s t ≡ n ∷ k ∷ []
  to {s} {t} p = entry-best graph_a (known-3 date) s t (omega arith) few short p.best ∙ ap₂ (λ x y. x ∷ y ∷ []) p.weighs p.takes

  off : {s t : ℕ} → None graph_a (known-3 date) s t → entry date s t ≡ no_end ∷ no_end ∷ []
  off {s} {t} n = entry-none graph_a (known-3 date) s t (omega arith) few short n

  own : (s : ℕ) → s < 4 → entry date s s ≡ 0 ∷ 0 ∷ []
  own s h =
      entry-start graph_a (known-3 date) s (omega arith) few short (λ r m. (all-member (IsPath 4) (known-3 date) (known-paths (marks 3 date) book_a well-A) r m).two) h

  -- the table is its four entries
  four : (s : ℕ) {a b c d : List ℕ} → entry date s 0 ≡ a → entry date s 1 ≡ b → entry date s 2 ≡ c → entry date s 3 ≡ d
      → ends graph_a (known-3 date) s 4 ≡ ((a ++ b) ++ c) ++ d
  unfolding ends
  four s e0 e1 e2 e3 = ap₂ (λ l x. l ++ x) (ap₂ (λ l x. l ++ x) (ap₂ (λ l x. l ++ x) e0 e1) e2) e3

  pub ends-0 : ends graph_a (known-3 date) 0 4 ≡ table-0
  unfolding covers applied
  ends-0 = four 0 (own 0 (omega arith)) (to best-to-1) (to best-to-2) (to marks_3)

  pub ends-3 : ends graph_a (known-3 date) 3 4 ≡ table-3
  unfolding covers applied
  ends-3 = four 3 (off none-to-0) (off none-to-1) (off none-to-2) (own 3 (omega arith))

pub sums : Sums
sums =
    record {
      from-0 = λ date valid. fills bytes_a book_a book-A (marks 3 date) valid 0 refl _ (ends-0 date);
      from-3 = λ date valid. fills bytes_a book_a book-A (marks 3 date) valid 3 refl _ (ends-3 date);
    }
