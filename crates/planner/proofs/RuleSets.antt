-- The laws of what specs/RuleSets.antt defines.
use Rattle.std.specs.Prelude.{ℕ, ◌≡◌, refl, leb, ltb, length, drop, Some, None, Ok, Err}
use Rattle.std.proofs.Common.{sym, ap, ap₂, subst, ◌∙◌, le-leb}
use mathlib.Core.List.{List, [], ◌∷◌, ◌++◌}
use Rattle.std.proofs.Math.Option.{Option, none, some}
use Rattle.walks.specs.Graph.{Graph, Arc, from_arcs}
use Rattle.walks.specs.Walk.{weight_of, hops}
use Rattle.walks.specs.Best.{NoStricter}
use Rattle.walks.proofs.Best.{Best-unique, Best-not-None, Best-same}
use Rattle.book.specs.declared.Refusal.{Refusal}
use Rattle.book.specs.Refusal.{Test, test, refusal_by}
use Rattle.book.specs.Book.{Book, graph}
use Rattle.book.specs.Reading.{accepted, reading, book_in}
use Rattle.rules.specs.Area.{spelled}
use Rattle.limits.specs.Limits.{area_size, longest}
use Rattle.rules.specs.Binding.{known}
use Rattle.rules.specs.Operations.{Binding, binding, area_after}
use Rattle.rules.specs.Laws.{Filled}
use Rattle.rules.proofs.Laws.{bind-accepted}
use Rattle.rules.specs.declared.Batch.{Batch}
use Rattle.planner.specs.Planning.{plan_tests, Answer, Planned, PlanningOf, Planning}
use Rattle.planner.specs.RuleSets.{SameWalks}

-- Plans under two lists of forbidden paths that leave the same walks are equal; with one list, this says that there is one plan.
pub planned-same : (x : Option Refusal) (g : Graph) (F G : List (List ℕ)) → NoStricter g F G → NoStricter g G F → (s t : ℕ) (old : List ℕ) (r r' : Answer) (new new' : List ℕ)
    → Planned x g F s t old r new → Planned x g G s t old r' new' → (r ≡ r') × (new ≡ new')
planned-same (some x) g F G to from s t old r r' new new' p p' = (p.0 ∙ sym p'.0, p.1 ∙ sym p'.1)
planned-same none g F G to from s t old (Ok (Some q)) (Ok (Some q')) new new' p p' =
    let same = Best-unique (Best-same to from p.best) p'.best in (
      ap₂ (λ w h. Ok (Some (record { weight = w; hops = h }))) (p.weight_is ∙ ap (weight_of g) same ∙ sym p'.weight_is) (p.hops-is ∙ ap hops same ∙ sym p'.hops-is),
      p.area-is ∙ ap (λ w. w ++ drop (length w) old) same ∙ sym p'.area-is,
    )
planned-same none g F G to from s t old (Ok (Some q)) (Ok None) new new' p p' = absurd (Best-not-None (Best-same to from p.best) p'.0)
planned-same none g F G to from s t old (Ok None) (Ok (Some q')) new new' p p' = absurd (Best-not-None (Best-same from to p'.best) p.0)
planned-same none g F G to from s t old (Ok None) (Ok None) new new' p p' = (refl, p.1 ∙ sym p'.1)
planned-same none g F G to from s t old (Err x) r' new new' p p' = absurd p
planned-same none g F G to from s t old (Ok (Some q)) (Err x) new new' p p' = absurd p'
planned-same none g F G to from s t old (Ok None) (Err x) new new' p p' = absurd p'

-- planning after binding is planning under the known paths: 9 is never refused then, nor 8 for the runs area
module _ (batch : Batch) (start end : ℕ) (old : List ℕ) where
  -- the tests that are left in a book of n vertices
  abbrev pub left_tests : ℕ → List Test
  left_tests n = test 8 (leb longest (length old)) ∷ test 7 (ltb start n) ∷ test 7 (ltb end n) ∷ []

  abbrev pub PlannedIn : ℕ → List Arc → List (List ℕ) → Answer → List ℕ → Type 0
  PlannedIn n arcs F r new = Planned (refusal_by (left_tests n)) (from_arcs n arcs) F start end old r new

  module _ (s area : List ℕ) (F : List (List ℕ)) (f : Filled s batch area F) (r : Answer) (new : List ℕ) where
    abbrev pub after : List ℕ
    after = area_after (binding s batch area) area

    same-refusal : refusal_by (plan_tests after (length F) start end old f.book) ≡ refusal_by (left_tests f.book.count)
    same-refusal = rw (le-leb area_size (length after) f.long, f.validity) refl

    pub planned-known : Planning s after (length F) start end old r new → PlannedIn f.book.count f.book.arcs (known batch f.book.sets) r new
    planned-known p =
        let b = f.book in
        subst (λ G. PlannedIn b.count b.arcs G r new) (f.spells ∙ f.paths)
        (subst (λ o. Planned o (graph b) (spelled (length F) after) start end old r new) same-refusal
        (subst (λ x. PlanningOf x after (length F) start end old r new) f.read p))

  -- Books that are read, bound and planned from: equal answers and equal bytes.
  pub equal-plans : (s s' : List ℕ) (b c : Book) → reading s ≡ accepted b → reading s' ≡ accepted c → SameWalks b c
      → (area area' : List ℕ) (F G : List (List ℕ)) → binding s batch area ≡ Binding.bound F → binding s' batch area' ≡ Binding.bound G
      → (r r' : Answer) (new new' : List ℕ)
      → Planning s (area_after (binding s batch area) area) (length F) start end old r new
      → Planning s' (area_after (binding s' batch area') area') (length G) start end old r' new'
      → (r ≡ r') × (new ≡ new')
  equal-plans s s' b c read read' o area area' F G is is' r r' new new' p p' =
      let f = bind-accepted s batch area F is in
      let f' = bind-accepted s' batch area' G is' in
      let b-is : f.book ≡ b = ap book_in (sym f.read ∙ read) in
      let c-is : f'.book ≡ c = ap book_in (sym f'.read ∙ read') in
      let q : PlannedIn b.count b.arcs (known batch b.sets) r new =
      subst (λ (x : Book). PlannedIn x.count x.arcs (known batch x.sets) r new) b-is (planned-known s area F f r new p) in
      let q' : PlannedIn c.count c.arcs (known batch c.sets) r' new' =
      subst (λ (x : Book). PlannedIn x.count x.arcs (known batch x.sets) r' new') c-is (planned-known s' area' G f' r' new' p') in
      planned-same (refusal_by (left_tests b.count)) (from_arcs b.count b.arcs) (known batch b.sets) (known batch c.sets) (o.to batch) (o.from batch) start end old r r' new new' q
      (subst (λ arcs. PlannedIn b.count arcs (known batch c.sets) r' new') o.same.arcs
      (subst (λ n. PlannedIn n c.arcs (known batch c.sets) r' new') o.same.counts q'))
