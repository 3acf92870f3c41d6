-- The settled sums of planning (01): what binding and then planning answer, for every lent area.
use Rattle.std.specs.Prelude.{ℕ, ◌≤◌, ◌≡◌, refl, true, List, [], ◌∷◌, ◌++◌, ltb, length, drop}
use Rattle.std.proofs.Common.{sym, ap, subst, ◌∙◌, le-leb}
use mathlib.Core.List.Memᴰ
use Rattle.std.proofs.Math.Option.{none}
use Rattle.walks.specs.Best.{None}
use Rattle.walks.proofs.Best.{None-mono}
use Rattle.dates.specs.declared.Date.{Date}
use Rattle.book.specs.Book.{Book, IsPath, WellFormed, graph}
use Rattle.book.proofs.BookLaws.{reading-is-book, all-member}
use Rattle.examples.specs.Batches.{marks}
use Rattle.examples.specs.Books.{bytes_a, book_a, book-A, bytes_ways, book_ways, book-ways, bytes_shortcut, book_shortcut, book-shortcut}
use Rattle.book.specs.Reading.{accepted, reading, refusal_of, book_in}
use Rattle.book.specs.Refusal.{refusal_by}
use Rattle.book.proofs.RefusalLaws.{hold→none}
use Rattle.examples.specs.Walks.{Plan, marks_0, marks_1, marks_2, marks_3, back, stay, lower_vertex, fewer-hops}
use Rattle.rules.specs.Binding.{covers, applied, known}
use Rattle.rules.proofs.BindingLaws.{known-paths}
use Rattle.rules.specs.Area.{spelled, valid}
use Rattle.rules.specs.Operations.{Binding, binding, area_after}
use Rattle.rules.proofs.Laws.{bind-accepted}
use Rattle.rules.specs.declared.Batch.{Batch}
use Rattle.limits.specs.Limits.{area_size, longest}
use Rattle.planner.specs.Planning.{plan_tests, Planned, PlanningOf, Planning, walked, nothing, Answer as Outcome}
use Rattle.planner.proofs.RuleSets.{planned-same}

-- r and `new` meet what is said of an answer and its area, and nothing else does.
pub record Only (P : Outcome → List ℕ → Type 0) (r : Outcome) (new : List ℕ) : Type 0 where
  pub meets : P r new
  pub alone : (r' : Outcome) (new' : List ℕ) → P r' new' → (r' ≡ r) × (new' ≡ new)

-- For every area that was bound for a batch and every area of 1,600 bytes or more for the walk, planning answers r, with w in the area's front.
abbrev pub Gives : List ℕ → Batch → ℕ → ℕ → Outcome → List ℕ → Type 0
Gives s batch start end r w =
    (area : List ℕ) (F : List (List ℕ)) → binding s batch area ≡ Binding.bound F → (old : List ℕ) → longest ≤ length old
    → Only (Planning s (area_after (binding s batch area) area) (length F) start end old) r (w ++ drop (length w) old)

-- the answer that the definitions have under the runs that an area spells is the one that is given
pub under : (s : List ℕ) (b : Book) → reading s ≡ accepted b → (start end : ℕ) → ltb start b.count ≡ true → ltb end b.count ≡ true
    → (area : List ℕ) (n : ℕ) (F : List (List ℕ)) → area_size ≤ length area → valid b.count area n ≡ true → spelled n area ≡ F
    → (old : List ℕ) → longest ≤ length old → (r : Outcome) (new : List ℕ) → Planned none (graph b) F start end old r new → Only (Planning s area n start end old) r new
under s b read start end start-below end_Below area n F fits valid-b spells old long r new have =
    let unrefused : refusal_by (plan_tests area n start end old b) ≡ none =
    hold→none (plan_tests area n start end old b) (le-leb area_size (length area) fits, (le-leb longest (length old) long, (start-below, (end_Below, (valid-b, tt))))) in
    let meets : Planning s area n start end old r new =
    subst (λ x. PlanningOf x area n start end old r new) (sym read)
    (subst (λ o. Planned o (graph b) (spelled n area) start end old r new) (sym unrefused)
    (subst (λ G. Planned none (graph b) G start end old r new) (sym spells) have)) in
    let o = refusal_of (reading s) (plan_tests area n start end old) in
    let G = spelled n area in
    record { meets = meets; alone = λ r' new' p. planned-same o (graph (book_in (reading s))) G G (λ _ _ a. a) (λ _ _ a. a) start end old r' r new' new p meets }

module _ (s : List ℕ) (b : Book) (read : reading s ≡ accepted b) (batch : Batch) (start end : ℕ) (start-below : ltb start b.count ≡ true) (end_Below : ltb end b.count ≡ true) where
  -- so is the one that they have under the known runs
  given : (r : Outcome) (w : List ℕ) → ((old : List ℕ) → Planned none (graph b) (known batch b.sets) start end old r (w ++ drop (length w) old)) → Gives s batch start end r w
  given r w have area F is old long =
      let f = bind-accepted s batch area F is in
      let after = area_after (binding s batch area) area in
      let b-is : f.book ≡ b = ap book_in (sym f.read ∙ read) in
      let valid-b : valid b.count after (length F) ≡ true = subst (λ (x : Book). valid x.count after (length F) ≡ true) b-is f.validity in
      let spells : spelled (length F) after ≡ known batch b.sets = f.spells ∙ f.paths ∙ ap (λ (x : Book). known batch x.sets) b-is in
      under s b read start end start-below end_Below after (length F) (known batch b.sets) f.long valid-b spells old long r (w ++ drop (length w) old) (have old)

  pub walk-given : (w : List ℕ) (n k : ℕ) → Plan (graph b) (known batch b.sets) start end w n k → Gives s batch start end (walked n k) w
  walk-given w n k p = given (walked n k) w (λ old. record { walk = w; best = p.best; weight_is = sym p.weighs; hops-is = sym p.takes; area-is = refl })

  none-given : None (graph b) (known batch b.sets) start end → Gives s batch start end nothing []
  none-given n = given nothing [] (λ old. (n, refl))

-- Book A is well formed, so that its known paths have two vertices or more.
well-A : WellFormed book_a
well-A = (reading-is-book bytes_a book_a book-A).well_formed

-- Nothing is asked of the date: an area that was bound for a batch was bound on a valid one.
pub record Sums : Type 0 where
  pub marks_0 : (date : Date) → Gives bytes_a (marks 0 date) 0 3 (walked 300 3) (0 ∷ 1 ∷ 2 ∷ 3 ∷ [])
  pub marks_1 : (date : Date) → Gives bytes_a (marks 1 date) 0 3 (walked 350 2) (0 ∷ 2 ∷ 3 ∷ [])
  pub marks_2 : (date : Date) → Gives bytes_a (marks 2 date) 0 3 (walked 300 3) (0 ∷ 1 ∷ 2 ∷ 3 ∷ [])
  pub marks_3 : (date : Date) → Gives bytes_a (marks 3 date) 0 3 (walked 450 5) (0 ∷ 1 ∷ 2 ∷ 1 ∷ 2 ∷ 3 ∷ [])
  pub back : (batch : Batch) → Gives bytes_a batch 3 0 nothing []
  pub stay : (batch : Batch) → Gives bytes_a batch 3 3 (walked 0 0) (3 ∷ [])
  pub lower_vertex : (batch : Batch) → Gives bytes_ways batch 0 3 (walked 200 2) (0 ∷ 1 ∷ 3 ∷ [])
  pub fewer-hops : (batch : Batch) → Gives bytes_shortcut batch 0 3 (walked 200 1) (0 ∷ 3 ∷ [])

pub sums : Sums
unfolding covers applied
sums =
    record {
      marks_0 = λ date. walk-given bytes_a book_a book-A (marks 0 date) 0 3 refl refl _ 300 3 marks_0;
      marks_1 = λ date. walk-given bytes_a book_a book-A (marks 1 date) 0 3 refl refl _ 350 2 marks_1;
      marks_2 = λ date. walk-given bytes_a book_a book-A (marks 2 date) 0 3 refl refl _ 300 3 marks_2;
      marks_3 = λ date. walk-given bytes_a book_a book-A (marks 3 date) 0 3 refl refl _ 450 5 marks_3;
      back = λ batch. none-given bytes_a book_a book-A batch 3 0 refl refl (None-mono (λ r m. absurd (Memᴰ.not-nil m)) back);
      stay = λ batch. walk-given bytes_a book_a book-A batch 3 3 refl refl _ 0 0 (stay (known batch book_a.sets) (λ r m. (all-member (IsPath 4) _ (known-paths batch book_a well-A) r m).two));
      lower_vertex = λ batch. walk-given bytes_ways book_ways book-ways batch 0 3 refl refl _ 200 2 lower_vertex;
      fewer-hops = λ batch. walk-given bytes_shortcut book_shortcut book-shortcut batch 0 3 refl refl _ 200 1 fewer-hops;
    }
