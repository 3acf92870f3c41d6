-- The validity of an area: what is judged after each entry, a turn, and the ways out.
use Prim.Native.Nat.{ℕ, ◌+◌, ◌-◌, ◌*◌, ◌≤◌, ◌<◌}
use mathlib.Core.Bool.{Bool, true, false, not, ◌&&◌, true≢false}
use mathlib.Core.List.{List, [], ◌∷◌, ◌++◌, map, map-append}
use mathlib.Core.Path.{◌≡◌, refl, sym, ap, ap₂, subst, ◌∙◌}
use native.Mathlib.Numerals.{add-one}
use native.Mathlib.Omega.{arith}
use borrow.Author.Tests.{le-leb}
use borrow.Rule.Slice.PartMut.{put_mid}
use lib.Dec.{eqb, leb}
use lib.ListN.{length, get_or, take, drop, replicate, length-map, take-append-drop}
use lib.Pointwise.{pointwise}
use lib.Seq.{drop-cons, take_at, take-take}
use Rattle.lists.specs.Test.{all}
use Rattle.walks.specs.Avoid.{same}
use Rattle.book.specs.Book.{All}
use Rattle.book.proofs.BookLaws.{all_snoc}
use Rattle.book.specs.Tables.{entries}
use Rattle.rules.specs.Binding.{member, once}
use Rattle.rules.specs.Area.{written, blocks, path_of, spelled, is_entry, valid}
use Rattle.limits.specs.Limits.{area_size}
use Rattle.book.specs.EntryLaws.{Short}
use Rattle.rules.proofs.AreaLaws.{length-byte, path_part, path-size, length-blocks, blocks_append, spelled_up_to}
use Rattle.rules.proofs.Sets.{eq-same, once_snoc, once-front, refuted}
use Rattle.rules.proofs.ValidLaws.{entry-fits}
use Rattle.rules.proofs.Entries.{blocks_start, all_past, all_here, all-later}
use Rattle.rules.proofs.Entered.{path-entered, looked_up}

pub length-spelled : (k : ℕ) (area : List ℕ) → length (spelled k area) ≡ k
length-spelled k area = length-map (blocks k area) path_of ∙ length-blocks k area

-- the first k entries of so many are by the rules, with no path twice, and a blank area has their paths
pub record ValidTo (v : ℕ) (area : List ℕ) (count : ℕ) (clean : List ℕ) (k : ℕ) : Type 0 where
  pub few : count ≤ 256
  pub long : area_size ≤ length area
  pub within : k ≤ count
  pub left : all (is_entry v) (blocks (count - k) (drop (k * 9) area)) ≡ all (is_entry v) (blocks count area)
  pub short : All Short (spelled k area)
  pub different : once (spelled k area) ≡ true
  pub entered : clean ≡ written (spelled k area)

-- ---- the four tests
second-fails : (a b c d : Bool) → b ≡ false → a && b && c && d ≡ false
second-fails true b c d e = rw e
second-fails false b c d e = refl

third_fails : (a b c d : Bool) → c ≡ false → a && b && c && d ≡ false
third_fails true true c d e = rw e
third_fails true false c d e = refl
third_fails false b c d e = refl

last-decides : (a b c d : Bool) → a ≡ true → b ≡ true → c ≡ true → d ≡ a && b && c && d
last-decides a b c d e f g = rw (e, f, g)

pub started : (v : ℕ) (area : List ℕ) (count : ℕ) → count ≤ 256 → area_size ≤ length area → ValidTo v area count (replicate area_size 0) 0
unfolding blocks entries once
started v area count few long =
    record { few = few; long = long; within = omega arith; left = ap (all (is_entry v)) (blocks_start count area); short = tt; different = refl; entered = refl }

module _ {v : ℕ} {area : List ℕ} {count : ℕ} {clean : List ℕ} {k : ℕ} (j : ValidTo v area count clean k) where
  pub finished : count ≤ k → pointwise eqb (take area_size area) clean ≡ valid v area count
  finished past =
      let k-is : k ≡ count = omega (arith, j.within) in
      eq-same (take area_size area) clean
      ∙ ap (same (take area_size area)) (j.entered ∙ ap (λ n. written (spelled n area)) k-is)
      ∙ last-decides (leb count 256) (all (is_entry v) (blocks count area)) (once (spelled count area)) _ (le-leb count 256 j.few)
      (sym j.left ∙ all_past (is_entry v) count k area past)
      (ap (λ n. once (spelled n area)) (sym k-is) ∙ j.different)

  -- the entry at k
  module _ (more : k < count) {given : List ℕ} (given-is : given ≡ take 9 (drop (k * 9) area)) where
    pub not_taken : is_entry v given ≡ false → valid v area count ≡ false
    not_taken e =
        second-fails (leb count 256) _ (once (spelled count area)) _ (sym j.left ∙ all_here (is_entry v) count k area more (ap (is_entry v) (sym given-is) ∙ e))

    module _ (taken : is_entry v given ≡ true) where
      abbrev path : List ℕ
      path = path_of (take 9 (drop (k * 9) area))

      pub byte_fits : get_or area (k * 9) 0 ≤ 8
      byte_fits = omega (arith, entry-fits v given taken, ap (λ l. get_or l 0 0) given-is, length-byte area (k * 9))

      path-is : path ≡ take (get_or area (k * 9) 0) (drop (k * 9 + 1) area)
      path-is = path_part area (k * 9) (get_or area (k * 9) 0) refl byte_fits

      path-length : length path ≡ get_or area (k * 9) 0
      path-length = path-size area (k * 9) (omega (arith, j.few, j.long)) byte_fits

      path-fits : Short path
      path-fits = omega (arith, path-length, byte_fits)

      room : length (spelled k area) < 256
      room = omega (arith, length-spelled k area, j.few)

      -- the entry is its path's length, its path and what is left
      split : drop (k * 9) area ≡ (length path ∷ path) ++ drop (get_or area (k * 9) 0) (drop (k * 9 + 1) area)
      split =
          let n = get_or area (k * 9) 0 in
          drop-cons area (k * 9) 0 (omega (arith, j.few, j.long))
          ∙ ap₂ (λ x l. x ∷ l) (sym path-length)
          (ap (λ i. drop i area) (sym (add-one (k * 9)))
          ∙ sym (take-append-drop n (drop (k * 9 + 1) area))
          ∙ ap (λ p. p ++ drop n (drop (k * 9 + 1) area)) (sym path-is))

      -- its length and its vertices are entered after the paths before
      pub copied : {n : ℕ} {bytes : List ℕ} → n ≡ 1 + get_or given 0 0 → bytes ≡ take n given → put_mid (k * 9) (k * 9 + n - k * 9) clean bytes ≡ written (spelled (k + 1) area)
      copied {n} {bytes} size is =
          let size_is : n ≡ 1 + length path = omega (arith, size, ap (λ l. get_or l 0 0) given-is, length-byte area (k * 9), path-length) in
          let front : bytes ≡ length path ∷ path =
          is
          ∙ ap (take n) given-is
          ∙ take-take n 9 (drop (k * 9) area) (omega (arith, size_is, path-fits))
          ∙ ap (take n) split
          ∙ take_at (length path ∷ path) _ n (omega (arith, size_is)) in
          ap₂ (λ m b. put_mid (k * 9) m clean b) (let m : k * 9 + n - k * 9 ≡ 1 + length path = omega (arith, size_is) in m) front
          ∙ ap₂ (λ t i. put_mid (i * 9) (1 + length path) t (length path ∷ path)) j.entered (sym (length-spelled k area))
          ∙ path-entered (spelled k area) j.short path path-fits room
          ∙ ap written (sym (spelled_up_to k area))

      module _ {after again : List ℕ} (is : after ≡ written (spelled (k + 1) area)) (again-is : again ≡ take 9 (drop (k * 9) after)) where
        searched : member again (blocks k after) ≡ member path (spelled k area)
        searched =
            let full : List ℕ = written (spelled k area ++ (path ∷ [])) in
            ap (λ e. member e (blocks k after)) again-is
            ∙ ap (λ t. member (take 9 (drop (k * 9) t)) (blocks k t)) (is ∙ ap written (spelled_up_to k area))
            ∙ ap (λ n. member (take 9 (drop (n * 9) full)) (blocks n full)) (sym (length-spelled k area))
            ∙ looked_up (spelled k area) j.short path path-fits room

        -- whether the paths up to this one are different
        different-next : (x : Bool) → member again (blocks k after) ≡ x → once (spelled (k + 1) area) ≡ not x
        different-next x e = ap once (spelled_up_to k area) ∙ once_snoc (spelled k area) path ∙ ap₂ (λ a b. a && not b) j.different (sym searched ∙ e)

        pub repeated : member again (blocks k after) ≡ true → valid v area count ≡ false
        repeated e =
            let later : List (List ℕ) = spelled (count - (k + 1)) (drop ((k + 1) * 9) area) in
            let turns : count ≡ k + 1 + (count - (k + 1)) = omega arith in
            let all_of : spelled count area ≡ spelled (k + 1) area ++ later =
            ap (λ n. spelled n area) turns ∙ ap (map path_of) (blocks_append (k + 1) (count - (k + 1)) area) ∙ map-append path_of (blocks (k + 1) area) _ in
            third_fails (leb count 256) (all (is_entry v) (blocks count area)) _ _
            (refuted (once (spelled count area)) (λ t. true≢false (sym (once-front (spelled (k + 1) area) later (sym (ap once all_of) ∙ t)) ∙ different-next true e)))

        pub valid-next : member again (blocks k after) ≡ false → ValidTo v area count after (k + 1)
        valid-next e =
            record {
              few = j.few;
              long = j.long;
              within = omega arith;
              left = sym (all-later (is_entry v) count k area more (ap (is_entry v) (sym given-is) ∙ taken)) ∙ j.left;
              short = subst (All Short) (sym (spelled_up_to k area)) (all_snoc Short (spelled k area) path j.short path-fits);
              different = different-next false e;
              entered = is;
            }
