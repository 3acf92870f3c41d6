-- The search for a forbidden path in a walk: over the ends, the lengths, the paths and their vertices.
use Prim.Native.Nat.{ℕ, zero, suc, ◌+◌, ◌-◌, ◌*◌, ◌≤◌, ◌<◌, min}
use Rattle.std.proofs.Math.Logic.{by_cases}
use Rattle.std.proofs.Math.Decide.{dec_le}
use mathlib.Core.Bool.{Bool, true, false, ◌&&◌, ◌||◌}
use mathlib.Core.List.{List, [], ◌∷◌, ◌++◌}
use mathlib.Core.Option.{none, some}
use mathlib.Core.Path.{◌≡◌, refl, sym, ap, ap₂, ◌∙◌}
use native.Mathlib.Numerals.{add-one}
use native.Mathlib.Omega.{arith}
use borrow.Author.Tests.{eq-eqb, ne_eqb, le-leb, lt-leb, eqb-true}
use lib.Dec.{eqb, leb}
use lib.ListN.{length, get_or, take, drop, length-drop}
use lib.Seq.{slice, drop-drop, length-take-le}
use Rattle.lists.specs.Test.{any}
use Rattle.walks.specs.Avoid.{same}
use Rattle.book.specs.Book.{All}
use Rattle.std.proofs.Common.{Some, None, get_or-drop, get_or-take}
use Rattle.std.proofs.lemmas.List.{take_more}
use Rattle.rules.specs.Area.{blocks, path_of, spelled}
use Rattle.rules.proofs.AreaLaws.{part_length}
use Rattle.rules.proofs.Sets.{refuted, same_true, true_same}
use Rattle.lists.specs.Paste.{slice_part}
use Rattle.walk_check.specs.Checking.{ends_at, some_ends, first_from, named_at, answer_at, check_from}
use Rattle.walk_check.proofs.NoFirst.{first-none}
use Rattle.rules.proofs.Entries.{any-map, blocks_start, any_past, any_here, any-later}

-- ---- the vertices of a path, and those of the walk: parts of a list from f on, and of another from g on
vertices-agree : (a b : List ℕ) (f g n i : ℕ) → i < n → take n (drop f a) ≡ take n (drop g b) → get_or a (f + i) 0 ≡ get_or b (g + i) 0
vertices-agree a b f g n i inside e =
    sym (get_or-drop f a i 0)
    ∙ sym (get_or-take n (drop f a) i 0 inside)
    ∙ ap (λ l. get_or l i 0) e
    ∙ get_or-take n (drop g b) i 0 inside
    ∙ get_or-drop g b i 0

pub one-more : (a b : List ℕ) (f g i : ℕ) → f + i < length a → g + i < length b → take i (drop f a) ≡ take i (drop g b)
    → get_or a (f + i) 0 ≡ get_or b (g + i) 0 → take (i + 1) (drop f a) ≡ take (i + 1) (drop g b)
one-more a b f g i in-a in-b before here =
    take_more (drop f a) i 0 (omega (arith, length-drop f a))
    ∙ ap₂ (λ l x. l ++ (x ∷ [])) before (get_or-drop f a i 0 ∙ here ∙ sym (get_or-drop g b i 0))
    ∙ sym (take_more (drop g b) i 0 (omega (arith, length-drop g b)))

-- ---- the lengths from n on
module _ (p : ℕ → Bool) (n : ℕ) (more : n < 9) where
  turn : 9 - n ≡ suc (9 - (n + 1))
  turn = omega arith

  pub first-here : p n ≡ true → first_from p (9 - n) n ≡ some n
  unfolding first_from
  first-here e = ap (λ k. first_from p k n) turn ∙ rw e

  pub first-later : p n ≡ false → first_from p (9 - n) n ≡ first_from p (9 - (n + 1)) (n + 1)
  unfolding first_from
  first-later e = ap (λ k. first_from p k n) turn ∙ rw e (ap (first_from p (9 - (n + 1))) (sym (add-one n)))

-- ---- the ends from e on
module _ (F : List (List ℕ)) (w : List ℕ) (e : ℕ) where
  pub ends_past : length w < e → check_from F w (length w + 1 - e) e ≡ None
  unfolding check_from
  ends_past h = ap (λ k. check_from F w k e) (let none_left : length w + 1 - e ≡ 0 = omega arith in none_left)

  module _ (more : e ≤ length w) where
    last : length w + 1 - e ≡ suc (length w + 1 - (e + 1))
    last = omega arith

    pub ends-here : (n : ℕ) → named_at F w e ≡ some n → check_from F w (length w + 1 - e) e ≡ Some (record { place = e - n; length = n })
    unfolding check_from
    ends-here n is = ap (λ k. check_from F w k e) last ∙ ap (λ o. answer_at e o (check_from F w (length w + 1 - (e + 1)) (suc e))) is

    pub ends-later : named_at F w e ≡ none → check_from F w (length w + 1 - e) e ≡ check_from F w (length w + 1 - (e + 1)) (e + 1)
    unfolding check_from
    ends-later is =
        ap (λ k. check_from F w k e) last
        ∙ ap (λ o. answer_at e o (check_from F w (length w + 1 - (e + 1)) (suc e))) is
        ∙ ap (check_from F w (length w + 1 - (e + 1))) (sym (add-one e))

  -- no path ends before its own length
  too_long : (n : ℕ) → e < n → (G : List (List ℕ)) → some_ends G w e n ≡ false
  too_long n h [] = refl
  too_long n h (r ∷ G) = ap₂ (λ x y. x || y) (longer (eqb (length r) n) refl) (too_long n h G)
    where
      longer : (x : Bool) → eqb (length r) n ≡ x → x && ends_at w e r ≡ false
      longer true is = rw (lt-leb (length r) e (omega (arith, eqb-true (length r) n is)))
      longer false is = refl

  -- all lengths have been tried
  pub lengths_past : (n : ℕ) → min 8 e < n → first_from (some_ends F w e) (9 - n) n ≡ none
  unfolding first_from
  lengths_past n h =
      by_cases (dec_le n e)
      (λ l. ap (λ k. first_from (some_ends F w e) k n) (let none_left : 9 - n ≡ 0 = omega arith in none_left))
      (λ (short : ¬ (n ≤ e)). first-none (some_ends F w e) (9 - n) n (λ m l. too_long m (omega arith) F))

-- ---- the paths from k on
short-at : (n k : ℕ) (t : List ℕ) → All (λ e. get_or e 0 0 ≤ 8) (blocks n t) → k < n → get_or (take 9 (drop (k * 9) t)) 0 0 ≤ 8
unfolding blocks
short-at zero k t h l = absurd (omega arith)
short-at (suc n) zero t h l = h.0
short-at (suc n) (suc k) t h l =
    let further : 9 + k * 9 ≡ suc k * 9 = omega arith in
    rw (← further, ← drop-drop (k * 9) 9 t) (short-at n k (drop 9 t) h.1 (omega arith))

-- whether the path of an entry has n vertices and ends at e
abbrev pub fits : List ℕ → ℕ → ℕ → List ℕ → Bool
fits w e n b = eqb (length (path_of b)) n && ends_at w e (path_of b)

-- whether that of one from k on does
abbrev pub fits_from : List ℕ → ℕ → List ℕ → ℕ → ℕ → ℕ → Bool
fits_from area count w e n k = any (fits w e n) (blocks (count - k) (drop (k * 9) area))

-- the entries lie within the area, and their paths have at most 8 vertices
pub record Held (area : List ℕ) (count : ℕ) : Type 0 where
  pub within : count * 9 ≤ length area
  pub short : All (λ e. get_or e 0 0 ≤ 8) (blocks count area)

module _ {area : List ℕ} {count : ℕ} (held : Held area count) (w : List ℕ) (e n : ℕ) where
  pub paths-start : fits_from area count w e n 0 ≡ some_ends (spelled count area) w e n
  paths-start = ap (any (fits w e n)) (blocks_start count area) ∙ sym (any-map (λ r. eqb (length r) n && ends_at w e r) path_of (blocks count area))

  pub paths_past : {k : ℕ} → count ≤ k → fits_from area count w e n k ≡ false
  paths_past {k} = any_past (fits w e n) count k area

  module _ {k : ℕ} (more : k < count) {given : List ℕ} (is : given ≡ take 9 (drop (k * 9) area)) where
    size : length (path_of given) ≡ get_or given 0 0
    size =
        let whole : length given ≡ 9 = ap length is ∙ part_length area (k * 9) 9 (omega (arith, held.within)) in
        length-take-le (get_or given 0 0) (drop 1 given) (omega (arith, length-drop 1 given, whole, short-at count k area held.short more, ap (λ l. get_or l 0 0) is))

    pub other_length : (get_or given 0 0 ≡ n → ⊥) → fits_from area count w e n k ≡ fits_from area count w e n (k + 1)
    other_length ne = any-later (fits w e n) count k area more (ap (fits w e n) (sym is) ∙ rw (size, ne_eqb _ _ ne))

    module _ (length-is : get_or given 0 0 ≡ n) (begins : n ≤ e) (ends : e ≤ length w) where
      -- the path and the part of the walk that it is held against
      compared : fits w e n (take 9 (drop (k * 9) area)) ≡ same (take n (drop 1 given)) (take n (drop (e - n) w))
      compared =
          let size_is : length (path_of given) ≡ n = size ∙ length-is in
          let end_is : e ≡ e - n + n = omega arith in
          ap (fits w e n) (sym is)
          ∙ ap (λ m. eqb m n && (leb m e && same (path_of given) (slice (e - m) e w))) size_is
          ∙ rw (eq-eqb n n refl, le-leb _ _ begins)
          (ap₂ same (ap (λ m. take m (drop 1 given)) length-is) (ap (λ j. slice (e - n) j w) end_is ∙ slice_part (e - n) n w (omega arith)))

      pub differs : {i : ℕ} → i < n → (get_or given (1 + i) 0 ≡ get_or w (e - n + i) 0 → ⊥) → fits_from area count w e n k ≡ fits_from area count w e n (k + 1)
      differs {i} inside apart =
          any-later (fits w e n) count k area more (compared ∙ refuted _ (λ match. apart (vertices-agree given w 1 (e - n) n i inside (same_true _ _ match))))

      pub stands : take n (drop 1 given) ≡ take n (drop (e - n) w) → fits_from area count w e n k ≡ true
      stands match = any_here (fits w e n) count k area more (compared ∙ true_same _ _ match)
