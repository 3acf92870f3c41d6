-- An input has one text; and what is found in a book that was read gives that text.
use Rattle.std.specs.Prelude
use Rattle.std.specs.Prelude.{ℕ, ◌+◌, ◌≤◌, ◌<◌, ◌≡◌, refl, Bool, true, false, List, ◌++◌, leb, length, get_or, take, drop, Some, None, IfSome}
use Rattle.std.proofs.Common.{sym, ap, ap₂, subst, ◌∙◌, inl, inr, arith, length-append, take_at}
use Rattle.std.proofs.Math.Option.{Option, none, some}
use Rattle.arrayvec.specs.ArrayVec.{ArrayVec, array_vec_len}
use Rattle.walks.specs.Graph.{Graph}
use Rattle.walks.proofs.Walk.{hops-length}
use Rattle.walks.proofs.Best.{Best-unique, Best-not-None}
use Rattle.book.specs.declared.Refusal.{Refusal}
use Rattle.book.specs.RefusalLaws.{Fails, Hold}
use Rattle.book.proofs.RefusalLaws.{first-fails, hold→none}
use Rattle.book.specs.Book.{Book, graph}
use Rattle.book.specs.Reading.{accepted, reading, refusal_of, book_in}
use Rattle.rules.specs.Binding.{batch_at, known}
use Rattle.rules.specs.declared.Batch.{Batch}
use Rattle.routes.specs.declared.Plan.{Plan}
use Rattle.routes.specs.Plan.{PlannedWalk, Searched}
use Rattle.text.specs.Text.{longest_text, plan_text, walk_text, refusal_text, found_text}
use Rattle.answer.specs.Answer.{AnsweredUnder, AnsweredAs, answer_tests, AnsweredOf, AnsweredBy, Answered, Printed}

-- ---- one text
under_unique : (g : Graph) (F : List (List ℕ)) (s t : ℕ) (x y : List ℕ) → AnsweredUnder g F s t x → AnsweredUnder g F s t y → x ≡ y
under_unique g F s t x y (inl p) (inl q) = p.2 ∙ ap (walk_text g) (Best-unique p.1 q.1) ∙ sym q.2
under_unique g F s t x y (inl p) (inr q) = absurd (Best-not-None p.1 q.0)
under_unique g F s t x y (inr p) (inl q) = absurd (Best-not-None q.1 p.0)
under_unique g F s t x y (inr p) (inr q) = p.1 ∙ sym q.1

as_unique : (o : Option Refusal) (b : Book) (batch : Batch) (s t : ℕ) (x y : List ℕ) → AnsweredAs o b batch s t x → AnsweredAs o b batch s t y → x ≡ y
as_unique none b batch s t x y p q = under_unique (graph b) (known batch b.sets) s t x y p q
as_unique (some r) b batch s t x y p q = p ∙ sym q

by_unique : (z : Bool) (s x y : List ℕ) → AnsweredBy z s x → AnsweredBy z s y → x ≡ y
by_unique true s x y p q = as_unique (refusal_of (reading (drop 8 s)) (answer_tests (batch_at s 4) (get_or s 2 0) (get_or s 3 0))) (book_in (reading (drop 8 s))) _ _ _ x y p q
by_unique false s x y p q = p ∙ sym q

pub Answered_unique : (s x y : List ℕ) → Answered s x → Answered s y → x ≡ y
Answered_unique s x y p q = by_unique (leb 8 (length s)) s x y p q

-- So every byte that is printed is fixed by the input.
pub Printed_unique : (s out out' : List ℕ) → Printed s out → Printed s out' → out ≡ out'
Printed_unique s out out' p q = Answered_unique s out out' p.answered q.answered

-- What stands in the buffer is the text.
module _ (s : List ℕ) (out : ArrayVec ℕ) (p : Printed s out.items) where
  pub printed_front : Answered s out.items
  printed_front = p.answered

  pub printed_size : array_vec_len out ≡ length out.items
  printed_size = refl

  pub printed_within : array_vec_len out ≤ longest_text
  printed_within = p.within

-- ---- from what is found
-- the walk of a plan stands in the front of its area
module _ {g : Graph} {F : List (List ℕ)} {s t : ℕ} {old : List ℕ} {weight hops' : ℕ} {new : List ℕ} (p : PlannedWalk g F s t old weight hops' new) where
  size : hops' + 1 ≡ length p.walk
  size = omega (arith, p.hops-is, hops-length p.walk p.best.feasible.walk)

  front : take (hops' + 1) new ≡ p.walk
  front = ap (take (hops' + 1)) p.area-is ∙ take_at p.walk (drop (length p.walk) old) (hops' + 1) (sym size)

  walk-text : plan_text weight hops' (take (hops' + 1) new) ≡ walk_text g p.walk
  walk-text = ap (plan_text weight hops') front ∙ ap₂ (λ n k. plan_text n k p.walk) p.weight_is p.hops-is

  walk-within : hops' < length new
  walk-within = omega (arith, size, ap length p.area-is ∙ length-append p.walk (drop (length p.walk) old))

module _ (g : Graph) (F : List (List ℕ)) (s t : ℕ) (old new : List ℕ) where
  pub found-text : (f : Prelude.Option Plan) → Searched g F s t old f new → AnsweredUnder g F s t (found_text f new)
  found-text (Some q) p = inl (p.walk, p.best, walk-text p)
  found-text None p = inr (p.0, refl)

  pub found-standing : (f : Prelude.Option Plan) → Searched g F s t old f new → IfSome f (λ q. q.hops < length new)
  found-standing (Some q) p = walk-within p
  found-standing None p = tt

-- In a book that was read: 7, 15, or the plan under the known paths.
module _ (b : Book) (batch : Batch) (start end : ℕ) where
  pub answer-fails : {q : Refusal} → Fails (answer_tests batch start end b) q → AnsweredOf (accepted b) batch start end (refusal_text q)
  answer-fails {q} f = subst (λ o. AnsweredAs o b batch start end (refusal_text q)) (sym (first-fails f)) refl

  pub answer-found : Hold (answer_tests batch start end b) → (text : List ℕ) → AnsweredUnder (graph b) (known batch b.sets) start end text
      → AnsweredOf (accepted b) batch start end text
  answer-found h text p = subst (λ o. AnsweredAs o b batch start end text) (sym (hold→none (answer_tests batch start end b) h)) p
