-- The laws of what specs/Laws.antt defines.
use Rattle.std.specs.Prelude.{ℕ, ◌≤◌, Bool, cond, ◌≡◌, length, drop}
use Rattle.std.proofs.Math.Bool.{true, false}
use mathlib.Core.List.Memᴰ
use mathlib.Core.List.Permᴰ
use mathlib.Core.List.{List, [], ◌∷◌, ◌++◌, append-nil, Memᴰ, Permᴰ}
use Rattle.std.proofs.Math.Logic.{⊎_elim}
use Rattle.std.proofs.Math.Option.{Option, none, some}
use Rattle.std.proofs.Math.Path.{refl}
use Rattle.std.proofs.Common.{sym, ap, ap₂, subst, ◌∙◌, arith, length-append}
use Rattle.walks.specs.Avoid.{◌⊆◌}
use Rattle.book.specs.declared.Refusal.{Refusal}
use Rattle.book.specs.Refusal.{refusal_by}
use Rattle.book.specs.Book.{RuleSet, Book, WellFormed, All, IsPath}
use Rattle.book.proofs.BookLaws.{reading-is-book}
use Rattle.book.specs.Reading.{Reading, reading}
use Rattle.rules.specs.Binding.{applies, applied, known, once}
use Rattle.rules.specs.Area.{written, spelled, valid}
use Rattle.limits.specs.Limits.{area_size, most_paths}
use Rattle.rules.specs.Operations.{Binding, bound_unless, bind_tests, binding_of, binding, area_after}
use Rattle.rules.proofs.Sets.{listed→distinct, distinct→listed}
use Rattle.rules.proofs.BindingLaws.{known-few, known-paths, known-once}
use Rattle.rules.proofs.ValidLaws.{written-length, written-valid, written-spells}
use Rattle.rules.specs.Laws.{Applied, Filled}
use Rattle.rules.specs.declared.Batch.{Batch}

module _ (batch : Batch) {r : List ℕ} where
  applied→Applied : (ss : List RuleSet) → Memᴰ r (applied batch ss) → Applied batch ss r
  unfolding applied
  applied→Applied [] m = absurd (Memᴰ.not-nil m)
  applied→Applied (s ∷ ss) m =
      ⊎_elim (λ here. own (applies batch s) refl here) (λ there. later (applied→Applied ss there)) (Memᴰ.append_cases (cond (applies batch s) s.paths []) m)
    where
      own : (x : Bool) → applies batch s ≡ x → Memᴰ r (cond x s.paths []) → Applied batch (s ∷ ss) r
      own true e k = record { set = s; listed = Memᴰ.head refl; applying = e; path = k }
      own false e k = absurd (Memᴰ.not-nil k)

      later : Applied batch ss r → Applied batch (s ∷ ss) r
      later a = record { set = a.set; listed = Memᴰ.tail a.listed; applying = a.applying; path = a.path }

  Applied→applied : {s : RuleSet} {ss : List RuleSet} → Memᴰ s ss → applies batch s ≡ true → Memᴰ r s.paths → Memᴰ r (applied batch ss)
  unfolding applied
  Applied→applied {s} (Memᴰ.head {x = t} {xs = ss} e) a m =
      Memᴰ.append_left (applied batch ss)
      (subst (λ x. Memᴰ r (cond x t.paths [])) (sym (sym (ap (applies batch) e) ∙ a)) (subst (λ (u : RuleSet). Memᴰ r u.paths) e m))
  Applied→applied (Memᴰ.tail {x = t} {xs = ss} k) a m = Memᴰ.append_right (cond (applies batch t) t.paths []) (Applied→applied k a m)

  pub known→Applied : (ss : List RuleSet) → Memᴰ r (known batch ss) → Applied batch ss r
  known→Applied ss m = ⊎_elim (λ k. absurd (Memᴰ.not-nil k)) (applied→Applied ss) (distinct→listed (applied batch ss) [] m)

  pub Applied→known : (ss : List RuleSet) → Applied batch ss r → Memᴰ r (known batch ss)
  Applied→known ss a = listed→distinct (Applied→applied a.listed a.applying a.path) []

-- ---- the order of the rule sets does not matter
permuted : {s : RuleSet} {ss ts : List RuleSet} → Permᴰ ss ts → Memᴰ s ss → Memᴰ s ts
permuted Permᴰ.nil m = m
permuted (Permᴰ.cons e d) m = ⊎_elim (λ here. Memᴰ.head (here ∙ e)) (λ later. Memᴰ.tail (permuted d later)) (Memᴰ.cases_cons m)
permuted (Permᴰ.swap e f) m =
    ⊎_elim (λ first. Memᴰ.tail (Memᴰ.head (first ∙ e)))
    (λ rest. ⊎_elim (λ second. Memᴰ.head (second ∙ f)) (λ later. Memᴰ.tail (Memᴰ.tail later)) (Memᴰ.cases_cons rest))
    (Memᴰ.cases_cons m)
permuted (Permᴰ.trans d e) m = permuted e (permuted d m)

-- Books whose rule sets are those of each other in another order have the same known paths.
pub same_set : (batch : Batch) (b c : Book) → Permᴰ b.sets c.sets → (known batch b.sets ⊆ known batch c.sets) × (known batch c.sets ⊆ known batch b.sets)
same_set batch b c d = (within b c d, within c b (Permᴰ.symm d))
  where
    within : (b c : Book) → Permᴰ b.sets c.sets → known batch b.sets ⊆ known batch c.sets
    within b c d r m =
        let a = known→Applied batch b.sets m in
        Applied→known batch c.sets (record { set = a.set; listed = permuted d a.listed; applying = a.applying; path = a.path })

unless-bound : (o : Option Refusal) (G F : List (List ℕ)) → bound_unless o G ≡ Binding.bound F → G ≡ F
unless-bound none G F e = cc
unless-bound (some q) G F e = absurd (let z : ◌≡◌ {A = ℕ} 0 1 = cc in omega arith)

module _ (s : List ℕ) (batch : Batch) (area : List ℕ) where
  pub bind-accepted : (F : List (List ℕ)) → binding s batch area ≡ Binding.bound F → Filled s batch area F
  bind-accepted F is = go (reading s) refl is
    where
      go : (r : Reading) → reading s ≡ r → binding_of r batch area ≡ Binding.bound F → Filled s batch area F
      go (Reading.refused q) read e = absurd (let z : ◌≡◌ {A = ℕ} 0 1 = cc in omega arith)
      go (Reading.accepted b) read e =
          let well = (reading-is-book s b read).well_formed in
          let after : area_after (binding s batch area) area ≡ written F ++ drop area_size area = ap (λ x. area_after x area) is in
          let F-is : known batch b.sets ≡ F = unless-bound (refusal_by (bind_tests batch area b)) (known batch b.sets) F e in
          let few : length F ≤ most_paths = subst (λ G. length G ≤ most_paths) F-is (known-few batch b well) in
          let proper : All (IsPath b.count) F = subst (All (IsPath b.count)) F-is (known-paths batch b well) in
          let different : once F ≡ true = ap once (sym F-is) ∙ known-once batch b well in
          let full = written-length b.count F few proper different (drop area_size area) in
          record {
            book = b;
            read = read;
            paths = sym F-is;
            few = few;
            proper = proper;
            different = different;
            long = omega (arith, ap length after ∙ length-append (written F) (drop area_size area), full);
            validity = ap (λ t. valid b.count t (length F)) after ∙ written-valid b.count F few proper different (drop area_size area);
            spells = ap (spelled (length F)) after ∙ written-spells b.count F few proper different (drop area_size area);
          }

-- ---- what gathering leaves in a blank area: it is valid, and spells the known paths
module _ (batch : Batch) (b : Book) (w : WellFormed b) {n : ℕ} {area : List ℕ} (counted : n ≡ length (known batch b.sets)) (filled : area ≡ written (known batch b.sets)) where
  abbrev F : List (List ℕ)
  F = known batch b.sets

  whole : area ≡ written F ++ []
  whole = filled ∙ sym (append-nil (written F))

  pub gathered_length : length area ≡ area_size
  gathered_length = ap length filled ∙ written-length b.count F (known-few batch b w) (known-paths batch b w) (known-once batch b w) []

  pub gathered_valid : valid b.count area n ≡ true
  gathered_valid = ap₂ (valid b.count) whole counted ∙ written-valid b.count F (known-few batch b w) (known-paths batch b w) (known-once batch b w) []

  pub gathered_spells : spelled n area ≡ known batch b.sets
  gathered_spells = ap₂ spelled counted whole ∙ written-spells b.count F (known-few batch b w) (known-paths batch b w) (known-once batch b w) []
