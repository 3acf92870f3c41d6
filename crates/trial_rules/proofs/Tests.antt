-- The tests of the trials decide what they test.
use Rattle.std.specs.Prelude.{ℕ, ◌≤◌, ◌≡◌, Bool, not, ◌&&◌, ◌≢◌, T, length}
use Rattle.std.proofs.Math.Path.{refl}
use Rattle.std.proofs.Math.Bool.{true, false, cond}
use mathlib.Core.List.{List, [], ◌∷◌, Memᴰ}
use Rattle.std.proofs.Math.Dec.{eqb, not_T, leb→le, le→leb}
use Rattle.std.proofs.Common.{T_not}
use borrow.Author.Tests.{eqb-true, eqb-false, eq-eqb, leb-true, le-leb, ltb-true, lt-ltb}
use Rattle.std.specs.Float.Ieee.Fits.{and_i, and_l, and_r}
use Rattle.lists.specs.Distinct.{Distinct}
use Rattle.lists.specs.Test.{T→true, true→T, and-true, conj, all, all→each, any}
use Rattle.walks.specs.Graph.{Graph}
use Rattle.walks.specs.Walk.{weight_of}
use Rattle.walks.specs.Avoid.{same}
use Rattle.walks.specs.Best.{Feasible}
use Rattle.walks.specs.Feasible.{is_feasible}
use Rattle.walks.proofs.Feasible.{is_feasible→Feasible, Feasible→is_feasible}
use Rattle.book.specs.Book.{All, IsPath, is_path}
use Rattle.book.specs.Refusal.{all_hold}
use Rattle.book.proofs.RefusalLaws.{hold→all, all→hold}
use Rattle.book.proofs.BookLaws.{is_path→IsPath, IsPath→is_path, all-member}
use Rattle.rules.specs.Binding.{once}
use Rattle.rules.proofs.Sets.{member→Mem, Mem→member}
use Rattle.limits.specs.Limits.{most_paths}
use Rattle.trial_rules.specs.Trials.{State, standing, none_stands, one_stands, record_tests, ForbiddenSet, Valid, is_forbidden_set, is_valid, is_record}

each→all : {A : Type 0} (p : A → Bool) (l : List A) → ((a : A) → Memᴰ a l → T (p a)) → T (all p l)
each→all p [] h = tt
each→all p (a ∷ l) h = and_i (p a) (all p l) (h a (Memᴰ.head refl)) (each→all p l (λ b m. h b (Memᴰ.tail m)))

pub once→Distinct : (F : List (List ℕ)) → T (once F) → Distinct F
unfolding once
once→Distinct [] t = tt
once→Distinct (r ∷ F) t = (
  λ m. T_not (any (same r) F) (and_l (not (any (same r) F)) (once F) t) (true→T _ (Mem→member m)),
  once→Distinct F (and_r (not (any (same r) F)) (once F) t),
)

pub Distinct→once : (F : List (List ℕ)) → Distinct F → T (once F)
unfolding once
Distinct→once [] d = tt
Distinct→once (r ∷ F) d =
    and_i (not (any (same r) F)) (once F) (not_T (any (same r) F) (λ t. d.0 (member→Mem r F (T→true _ t)))) (Distinct→once F d.1)

-- What binding gives is a forbidden set: at most 256 different paths of the book.
pub forbidden-set : (count : ℕ) (F : List (List ℕ)) → length F ≤ most_paths → Distinct F → All (IsPath count) F → ForbiddenSet count F
forbidden-set count F few distinct are_paths = record { few = few; distinct = distinct; taken = λ r m. true→T _ (IsPath→is_path count r (all-member (IsPath count) F are_paths r m)) }

module _ (count : ℕ) (F : List (List ℕ)) where
  pub is_forbidden_set→ : T (is_forbidden_set count F) → ForbiddenSet count F
  unfolding is_forbidden_set
  is_forbidden_set→ t =
      record {
        few = leb→le (length F) most_paths (search conj);
        distinct = once→Distinct F (search conj);
        taken = λ r m. all→each (is_path count) (search conj) m;
      }

  pub →is_forbidden_set : ForbiddenSet count F → T (is_forbidden_set count F)
  unfolding is_forbidden_set
  →is_forbidden_set h =
      search (conj, le→leb (length F) most_paths h.few, Distinct→once F h.distinct, each→all (is_path count) F h.taken)

module _ (g : Graph) (σ : State) where
  pub is_valid→Valid : T (is_valid g σ) → Valid g σ
  unfolding is_valid is_record
  is_valid→Valid t =
      let (first, held) = and-true (is_forbidden_set g.count σ.forbidden && eqb σ.rec.known (length σ.forbidden)) (all_hold (record_tests g σ)) (T→true _ t) in
      let (set, known) = and-true (is_forbidden_set g.count σ.forbidden) _ first in
      let h = all→hold (record_tests g σ) held in
      let (walk, litres, no_walk) = last (eqb σ.rec.stage 2) refl h.1.1.1.1.1.1.0 in
      record {
        set = is_forbidden_set→ g.count σ.forbidden (true→T _ set);
        known = eqb-true _ _ known;
        stage = leb-true _ _ h.0;
        start = ltb-true _ _ h.1.0;
        end = ltb-true _ _ h.1.1.0;
        sum = eqb-true _ _ h.1.1.1.0;
        passed = eqb-true _ _ h.1.1.1.1.0;
        short = leb-true _ _ h.1.1.1.1.1.0;
        walk = walk;
        litres = litres;
        no_walk = no_walk;
      }
    where
      last : (over : Bool) → eqb σ.rec.stage 2 ≡ over → cond over (none_stands σ) (one_stands g σ) ≡ true
          → (σ.rec.stage ≢ 2 → Feasible g σ.forbidden σ.rec.start σ.rec.end (standing σ))
          × (σ.rec.stage ≢ 2 → σ.rec.litres ≡ weight_of g (standing σ))
          × (σ.rec.stage ≡ 2 → (σ.rec.length ≡ 0) × (σ.rec.litres ≡ 0))
      last true e h =
          let (no_length, no-litres) = and-true (eqb σ.rec.length 0) (eqb σ.rec.litres 0) h in
          (λ ne. absurd (ne (eqb-true _ _ e)), λ ne. absurd (ne (eqb-true _ _ e)), λ is. (eqb-true _ _ no_length, eqb-true _ _ no-litres))
      last false e h =
          let (feasible, weight) = and-true (is_feasible g σ.forbidden σ.rec.start σ.rec.end (standing σ)) (eqb σ.rec.litres (weight_of g (standing σ))) h in (
            λ ne. is_feasible→Feasible g σ.forbidden σ.rec.start σ.rec.end (standing σ) (true→T _ feasible),
            λ ne. eqb-true _ _ weight,
            λ is. absurd (eqb-false _ _ e is),
          )

  pub Valid→is_valid : Valid g σ → T (is_valid g σ)
  unfolding is_valid is_record
  Valid→is_valid v =
      let held =
      hold→all (record_tests g σ) (
        le-leb _ _ v.stage,
        (lt-ltb _ _ v.start, (lt-ltb _ _ v.end, (eq-eqb _ _ v.sum, (eq-eqb _ _ v.passed, (le-leb _ _ v.short, (last (eqb σ.rec.stage 2) refl, tt)))))),
      ) in
      and_i (is_forbidden_set g.count σ.forbidden && eqb σ.rec.known (length σ.forbidden)) (all_hold (record_tests g σ))
      (and_i (is_forbidden_set g.count σ.forbidden) (eqb σ.rec.known (length σ.forbidden)) (→is_forbidden_set g.count σ.forbidden v.set) (true→T _ (eq-eqb _ _ v.known)))
      (true→T _ held)
    where
      last : (over : Bool) → eqb σ.rec.stage 2 ≡ over → cond over (none_stands σ) (one_stands g σ) ≡ true
      last true e =
          let z = v.no_walk (eqb-true _ _ e) in
          rw (eq-eqb σ.rec.length 0 z.0, eq-eqb σ.rec.litres 0 z.1) refl
      last false e =
          let ne : σ.rec.stage ≢ 2 = eqb-false _ _ e in
          let feasible = is_feasible g σ.forbidden σ.rec.start σ.rec.end (standing σ) in
          rw (T→true feasible (Feasible→is_feasible g σ.forbidden σ.rec.start σ.rec.end (standing σ) (v.walk ne)), eq-eqb σ.rec.litres (weight_of g (standing σ)) (v.litres ne)) refl

-- A forbidden set as the laws of the runs area ask for it.
module _ (v : ℕ) (F : List (List ℕ)) (set : ForbiddenSet v F) where
  pub set-paths : All (IsPath v) F
  set-paths = each F (λ r m. is_path→IsPath v r (T→true _ (set.taken r m)))
    where
      each : (G : List (List ℕ)) → ((r : List ℕ) → Memᴰ r G → IsPath v r) → All (IsPath v) G
      each [] h = tt
      each (r ∷ G) h = (h r (Memᴰ.head refl), each G (λ q m. h q (Memᴰ.tail m)))

  pub set-once : once F ≡ true
  set-once = T→true (once F) (Distinct→once F set.distinct)
