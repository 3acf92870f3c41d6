-- The paths of the rule sets that apply, gathered one path of the book at a time.
use Prim.Native.Nat.{ℕ, zero, suc, ◌+◌, ◌-◌, ◌*◌, ◌≤◌, ◌<◌}
use mathlib.Core.Bool.{Bool, true, false, cond}
use mathlib.Core.List.{List, [], ◌∷◌, ◌++◌, foldl, foldl-append}
use mathlib.Core.Path.{◌≡◌, refl, sym, ap, ap₂, ◌∙◌}
use native.Mathlib.Nat.{add-zero}
use native.Mathlib.Numerals.{add-one}
use native.Mathlib.Omega.{arith}
use borrow.Rule.Slice.PartMut.{put_mid}
use lib.ListN.{length, get_or, take, drop, replicate, length-append, drop_of_length-le}
use lib.Seq.{drop-cons, get_or-drop, drop-drop}
use Rattle.book.specs.declared.Needs.{Needs}
use Rattle.book.specs.Book.{RuleSet, Book, All, all_paths}
use Rattle.book.proofs.BookLaws.{all_snoc}
use Rattle.book.proofs.LoadedLaws.{sets-short, get_or-padding}
use Rattle.book.specs.Tables.{IsSets, entry, entries, needs_of, nothing_needed, owners_from, owner_table}
use Rattle.rules.specs.Binding.{meets, applies, applied, member, add, known}
use Rattle.rules.specs.Area.{written, blocks}
use Rattle.limits.specs.Limits.{area_size}
use Rattle.book.specs.EntryLaws.{Short}
use Rattle.book.proofs.EntryLaws.{length_owners}
use Rattle.rules.proofs.AreaLaws.{entry-at, member-entry}
use Rattle.rules.proofs.Entered.{blocks-written, entry-entered}
use Rattle.rules.specs.declared.Batch.{Batch}

-- ---- paths with the index of their rule set, each added where its set applies
module _ (batch : Batch) (fs : List Needs) where
  -- whether the set with an index applies
  abbrev pub chosen : ℕ → Bool
  chosen o = meets batch (get_or fs o nothing_needed)

  unfoldable pub collect : List (List ℕ) → List ℕ → List (List ℕ) → List (List ℕ)
  collect F [] ps = F
  collect F (o ∷ os) [] = F
  collect F (o ∷ os) (p ∷ ps) = collect (cond (chosen o) (add F p) F) os ps

  -- the paths of one set
  collect-set : (F : List (List ℕ)) (o : ℕ) (os : List ℕ) (ps qs : List (List ℕ))
      → collect F (replicate (length ps) o ++ os) (ps ++ qs) ≡ collect (cond (chosen o) (foldl add F ps) F) os qs
  unfolding collect
  collect-set F o os [] qs = ap (λ G. collect G os qs) (same-both (chosen o))
    where
      same-both : (x : Bool) → F ≡ cond x F F
      same-both true = refl
      same-both false = refl
  collect-set F o os (p ∷ ps) qs =
      collect-set (cond (chosen o) (add F p) F) o os ps qs ∙ ap (λ G. collect G os qs) (inside (chosen o))
    where
      inside : (x : Bool) → cond x (foldl add (cond x (add F p) F) ps) (cond x (add F p) F) ≡ cond x (foldl add (add F p) ps) F
      inside true = refl
      inside false = refl

  pub collect-bound : (ss : List RuleSet) (k : ℕ) (F : List (List ℕ)) → drop k fs ≡ needs_of ss
      → collect F (owners_from k ss) (all_paths ss) ≡ foldl add F (applied batch ss)
  unfolding collect owners_from all_paths applied
  collect-bound [] k F e = refl
  collect-bound (s ∷ ss) k F e =
      let here : get_or fs k nothing_needed ≡ s.needs = ap (λ i. get_or fs i nothing_needed) (sym (add-zero k)) ∙ sym (get_or-drop k fs 0 nothing_needed) ∙ ap (λ l. get_or l 0 nothing_needed) e in
      let later : drop (suc k) fs ≡ needs_of ss = ap (λ i. drop i fs) (sym (add-one k)) ∙ sym (drop-drop 1 k fs) ∙ ap (drop 1) e in
      collect-set F k (owners_from (suc k) ss) s.paths (all_paths ss)
      ∙ collect-bound ss (suc k) (cond (chosen k) (foldl add F s.paths) F) later
      ∙ ap (λ n. foldl add (cond (meets batch n) (foldl add F s.paths) F) (applied batch ss)) here
      ∙ fold (applies batch s)
    where
      fold : (x : Bool) → foldl add (cond x (foldl add F s.paths) F) (applied batch ss) ≡ foldl add F (cond x s.paths [] ++ applied batch ss)
      fold true = sym (foldl-append add F s.paths (applied batch ss))
      fold false = refl

  -- one path
  pub collect-next : (F : List (List ℕ)) (os : List ℕ) (ps : List (List ℕ)) (j : ℕ) → j < length os → j < length ps
      → collect F (drop j os) (drop j ps) ≡ collect (cond (chosen (get_or os j 0)) (add F (get_or ps j [])) F) (drop (j + 1) os) (drop (j + 1) ps)
  unfolding collect
  collect-next F os ps j h l = ap₂ (collect F) (drop-cons os j 0 h) (drop-cons ps j [] l) ∙ ap (λ i. collect (cond (chosen (get_or os j 0)) (add F (get_or ps j [])) F) (drop i os) (drop i ps)) (sym (add-one j))

  pub collect_past : (F : List (List ℕ)) (os : List ℕ) (ps : List (List ℕ)) (j : ℕ) → length os ≤ j → collect F (drop j os) (drop j ps) ≡ F
  unfolding collect
  collect_past F os ps j h = ap (λ l. collect F l (drop j ps)) (drop_of_length-le os h)

-- ---- the tables
pub all-at : (P : List ℕ → Type 0) (F : List (List ℕ)) (k : ℕ) → All P F → k < length F → P (get_or F k [])
all-at P [] k h l = absurd (omega arith)
all-at P (p ∷ F) zero h l = h.0
all-at P (p ∷ F) (suc k) h l = all-at P F k h.1 (omega arith)

-- ---- the paths of F have been entered, and those from j on are still to be judged
pub record Gathered (batch : Batch) (b : Book) (area : List ℕ) (n j : ℕ) : Type 0 where
  pub paths : List (List ℕ)
  pub short : All Short paths
  pub area-is : area ≡ written paths
  pub count-is : n ≡ length paths
  pub rest : collect batch (needs_of b.sets) paths (drop j (owners_from 0 b.sets)) (drop j (all_paths b.sets)) ≡ known batch b.sets

pub started : (batch : Batch) (b : Book) {area : List ℕ} → area ≡ replicate area_size 0 → Gathered batch b area 0 0
unfolding entries
started batch b e = record { paths = []; short = tt; area-is = e; count-is = refl; rest = collect-bound batch (needs_of b.sets) b.sets 0 [] refl }

module _ {batch : Batch} {b : Book} {area : List ℕ} {n j : ℕ} (g : Gathered batch b area n j) where
  pub finished : length (all_paths b.sets) ≤ j → (n ≡ length (known batch b.sets)) × (area ≡ written (known batch b.sets))
  finished past =
      let is = sym (collect_past batch (needs_of b.sets) g.paths (owners_from 0 b.sets) (all_paths b.sets) j (omega (arith, length_owners 0 b.sets))) ∙ g.rest in
      (g.count-is ∙ ap length is, g.area-is ∙ ap written is)

  module _ {paths : ℕ} {needed : List Needs} {owners entries : List ℕ} (listed : IsSets b paths needed owners entries) (more : j < paths) where
    more-listed : j < length (all_paths b.sets)
    more-listed = omega (arith, listed.counted)

    abbrev path : List ℕ
    path = get_or (all_paths b.sets) j []

    -- what the path at j leaves
    next : (x y : Bool) → meets batch (get_or needed (get_or owners j 0) nothing_needed) ≡ x → member path g.paths ≡ y
        → collect batch (needs_of b.sets) (cond x (cond y g.paths (g.paths ++ (path ∷ []))) g.paths) (drop (j + 1) (owners_from 0 b.sets)) (drop (j + 1) (all_paths b.sets)) ≡ known batch b.sets
    next x y is there =
        let lookup =
        ap₂ (λ l m. get_or l (get_or m j 0) nothing_needed) listed.needs_are listed.owners_are
        ∙ get_or-padding nothing_needed (needs_of b.sets) (16 - length (needs_of b.sets)) (get_or (owner_table b.sets) j 0)
        ∙ ap (λ o. get_or (needs_of b.sets) o nothing_needed) (get_or-padding 0 (owners_from 0 b.sets) (256 - length (owners_from 0 b.sets)) j) in
        ap₂ (λ u v. collect batch (needs_of b.sets) (cond u (cond v g.paths (g.paths ++ (path ∷ []))) g.paths) (drop (j + 1) (owners_from 0 b.sets)) (drop (j + 1) (all_paths b.sets)))
        (sym is ∙ ap (meets batch) lookup) (sym there)
        ∙ sym (collect-next batch (needs_of b.sets) g.paths (owners_from 0 b.sets) (all_paths b.sets) j (omega (arith, length_owners 0 b.sets, more-listed)) more-listed)
        ∙ g.rest

    pub passed_over : meets batch (get_or needed (get_or owners j 0) nothing_needed) ≡ false → Gathered batch b area n (j + 1)
    passed_over e =
        record { paths = g.paths; short = g.short; area-is = g.area-is; count-is = g.count-is; rest = next false (member path g.paths) e refl }

    -- the path's entry
    module _ (met : meets batch (get_or needed (get_or owners j 0) nothing_needed) ≡ true) {bytes : List ℕ} (cut : bytes ≡ take 9 (drop (j * 9) entries)) where
      entry-is : bytes ≡ entry path
      entry-is = cut ∙ ap (λ t. take 9 (drop (j * 9) t)) listed.paths_are ∙ entry-at (all_paths b.sets) _ j (sets-short listed) more-listed

      searched : member bytes (blocks n area) ≡ member path g.paths
      searched =
          ap₂ member entry-is (ap (blocks n) g.area-is ∙ blocks-written g.paths g.short n g.count-is) ∙ member-entry path g.paths

      pub known_already : member bytes (blocks n area) ≡ true → Gathered batch b area n (j + 1)
      known_already e =
          record { paths = g.paths; short = g.short; area-is = g.area-is; count-is = g.count-is; rest = next true true met (sym searched ∙ e) }

      pub added : member bytes (blocks n area) ≡ false → n < 256 → Gathered batch b (put_mid (n * 9) 9 area bytes) (n + 1) (j + 1)
      added e room =
          let fits = all-at Short (all_paths b.sets) j (sets-short listed) more-listed in
          record {
            paths = g.paths ++ (path ∷ []);
            short = all_snoc Short g.paths path g.short fits;
            area-is =
                ap₂ (put_mid (n * 9) 9) g.area-is entry-is
                ∙ ap (λ m. put_mid (m * 9) 9 (written g.paths) (entry path)) g.count-is
                ∙ entry-entered g.paths g.short path fits (omega (arith, g.count-is));
            count-is = ap (λ m. m + 1) g.count-is ∙ sym (length-append g.paths (path ∷ []));
            rest = next true false met (sym searched ∙ e);
          }
