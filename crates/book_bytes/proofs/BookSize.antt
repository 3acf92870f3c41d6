-- Laws: how many bytes a book can have.
use Rattle.std.specs.Prelude.{ℕ, ◌+◌, ◌-◌, ◌*◌, ◌≤◌, ◌<◌, ◌≡◌, refl, Bool, true, false, cond, not, ◌&&◌, ◌||◌, ◌≢◌, eqb, leb, ltb, length, Option, Some, None}
use Rattle.std.proofs.Common.{sym, ap, ◌∙◌, true≢false, ⊎_elim, arith, ltb-true, ltb-false, leb-true, eqb-true, eq-eqb, length-append}
use Rattle.std.proofs.lemmas.Bool.{false≢true}
use Rattle.std.proofs.lemmas.Bool.Decides.{nat_tests}
use mathlib.Core.List.Memᴰ
use mathlib.Core.List.{List, [], ◌∷◌, map, Memᴰ}
use Rattle.std.proofs.lemmas.List.{length-map}
use Rattle.limits.specs.Limits.{longest_path, most_vertices}
use Rattle.lists.specs.Distinct.{Distinct}
use Rattle.lists.specs.Test.{and-true, or_false}
use Rattle.lists.specs.Pigeonhole.{pigeonhole}
use Rattle.walks.specs.Graph.{Arc}
use Rattle.book.specs.declared.Kind.{Kind}
use Rattle.book.specs.declared.Kind.TheVariants.{VertexCount, Path}
use Rattle.book.specs.Book.{Book, All, IsArc, PairsOnce, WellFormed, all_paths, given}
use Rattle.book.specs.BookLaws.{bare, paths-set}
use Rattle.book.proofs.BookLaws.{given_cons, paths-path, length-sets-path, not-zero}
use Rattle.book_bytes.specs.Bytes.{longest_book}
use Rattle.book.specs.Reading.{length_at, end_at, count_at, arc_at, needs_at, path_at, follows, fits, proper, extended}

-- ---- at most 64 * 63 arcs
-- The number of a pair of different vertices: the head is one of 63.
code : ℕ → ℕ → ℕ
code u v = u * 63 + cond (ltb v u) v (v - 1)

code_below : (u v : ℕ) → u < most_vertices → v < most_vertices → u ≢ v → code u v < 4032
unfolding code
code_below u v h l d = go (ltb v u) refl
  where
    go : (x : Bool) → ltb v u ≡ x → u * 63 + cond x v (v - 1) < 4032
    go true e = omega (arith, ltb-true v u e)
    go false e = omega (arith, ltb-false v u e, d)

code_same : (u v x y : ℕ) → u < most_vertices → v < most_vertices → u ≢ v → x < most_vertices → y < most_vertices → x ≢ y → code u v ≡ code x y → (u ≡ x) × (v ≡ y)
unfolding code
code_same u v x y hu hv d hx hy f e = go (ltb v u) (ltb y x) refl refl e
  where
    go : (p q : Bool) → ltb v u ≡ p → ltb y x ≡ q → u * 63 + cond p v (v - 1) ≡ x * 63 + cond q y (y - 1) → (u ≡ x) × (v ≡ y)
    go true true p q e = (omega (arith, ltb-true v u p, ltb-true y x q), omega (arith, ltb-true v u p, ltb-true y x q))
    go true false p q e = (omega (arith, ltb-true v u p, ltb-false y x q, f), omega (arith, ltb-true v u p, ltb-false y x q, f))
    go false true p q e = (omega (arith, ltb-false v u p, ltb-true y x q, d), omega (arith, ltb-false v u p, ltb-true y x q, d))
    go false false p q e = (omega (arith, ltb-false v u p, ltb-false y x q, d, f), omega (arith, ltb-false v u p, ltb-false y x q, d, f))

abbrev codes : List Arc → List ℕ
codes arcs = map (λ a. code a.tail a.head) arcs

module _ (n : ℕ) (few : n ≤ most_vertices) where
  codes-below : (arcs : List Arc) → All (IsArc n) arcs → (x : ℕ) → Memᴰ x (codes arcs) → x < 4032
  codes-below [] p x m = absurd (Memᴰ.not-nil m)
  codes-below (a ∷ arcs) p x m =
      ⊎_elim (λ here. rw here (code_below a.tail a.head (omega (arith, p.0.tail-below)) (omega (arith, p.0.head-below)) p.0.different))
      (codes-below arcs p.1 x) (Memᴰ.cases_cons m)

  -- a pair that is not given has another number than those that are
  code-new : (a : Arc) → IsArc n a → (arcs : List Arc) → All (IsArc n) arcs → given arcs a.tail a.head ≡ false
      → Memᴰ (code a.tail a.head) (codes arcs) → ⊥
  code-new a h [] p e m = Memᴰ.not-nil m
  code-new a h (x ∷ arcs) p e m =
      let no = or_false (eqb x.tail a.tail && eqb x.head a.head) (given arcs a.tail a.head) (sym (given_cons x arcs a.tail a.head) ∙ e) in
      ⊎_elim
      (λ here.
      let same =
      code_same a.tail a.head x.tail x.head (omega (arith, h.tail-below)) (omega (arith, h.head-below)) h.different
      (omega (arith, p.0.tail-below)) (omega (arith, p.0.head-below)) p.0.different here in
      let both : eqb x.tail a.tail && eqb x.head a.head ≡ true = rw (eq-eqb x.tail a.tail (sym same.0), eq-eqb x.head a.head (sym same.1)) in
      true≢false (sym both ∙ no.0))
      (code-new a h arcs p.1 no.1) (Memᴰ.cases_cons m)

  codes-distinct : (arcs : List Arc) → All (IsArc n) arcs → PairsOnce arcs → Distinct (codes arcs)
  codes-distinct [] p q = tt
  codes-distinct (a ∷ arcs) p q = (code-new a p.0 arcs p.1 q.0, codes-distinct arcs p.1 q.1)

  pub few-arcs : (arcs : List Arc) → All (IsArc n) arcs → PairsOnce arcs → length arcs ≤ 4032
  few-arcs arcs p q =
      omega (arith, length-map arcs (λ a. code a.tail a.head), pigeonhole 4032 (codes arcs) (codes-distinct arcs p q) (codes-below arcs p))

-- ---- the bytes of a book's fields
abbrev pub size : Book → ℕ
size b = 4 + length b.arcs * 9 + length b.sets * 9 + length (all_paths b.sets) * 11

pub size-bound : (b : Book) → WellFormed b → size b ≤ longest_book
size-bound b w = omega (arith, few-arcs b.count w.few-vertices b.arcs w.arcs-proper w.pairs-once, w.few-sets, w.few-paths)

-- What has been read up to byte `at` takes that many bytes at most; before the count there is nothing.
pub record Sized (b : Book) (at : ℕ) : Type 0 where
  pub within : at ≤ size b
  pub first : b.count ≡ 0 → at ≡ 0

-- a rule set's field is no longer with a window
pub needs-length : (n : ℕ) → eqb n 2 || eqb n 6 ≡ true → n ≤ 6
needs-length n e = grind (arith, nat_tests)

pub next-sized : (k : Option Kind) (s : List ℕ) (b : Book) (at : ℕ) → WellFormed b → Sized b at → follows b.count (length b.sets) k ≡ true
    → fits k (length_at s at) ≡ true → proper k s b at ≡ true → Sized (extended k s b at) (end_at s at)
next-sized (Some VertexCount) s b at w z order fit value =
    let start : at ≡ 0 = z.first (eqb-true b.count 0 order) in
    let one : length_at s at ≡ 1 = eqb-true _ 1 fit in
    let some : 1 ≤ count_at s at = leb-true _ _ (and-true (leb 1 (count_at s at)) _ value).0 in
    record { within = omega (arith, start, one); first = λ e. absurd (omega (arith, some, e)) }
next-sized (Some Kind.Arc) s b at w z order fit value =
    let some : 1 ≤ b.count = not-zero b.count (and-true (not (eqb b.count 0)) _ order).0 in
    let six : length_at s at ≡ 6 = eqb-true _ 6 fit in
    record { within = omega (arith, z.within, six, length-append b.arcs (arc_at s at ∷ [])); first = λ e. absurd (omega (arith, some, e)) }
next-sized (Some Kind.RuleSet) s b at w z order fit value =
    let some : 1 ≤ b.count = not-zero b.count order in
    let six : length_at s at ≤ 6 = needs-length (length_at s at) fit in
    record {
      within = omega (arith, z.within, six, length-append b.sets (bare (needs_at s at)), ap length (paths-set (needs_at s at) b.sets));
      first = λ e. absurd (omega (arith, some, e));
    }
next-sized (Some Path) s b at w z order fit value =
    let some : 1 ≤ length b.sets = not-zero (length b.sets) order in
    let eight : length_at s at ≤ longest_path = leb-true _ _ (and-true (leb 2 (length_at s at)) (leb (length_at s at) longest_path) fit).1 in
    record {
      within =
          omega (
            arith,
            z.within,
            eight,
            length-sets-path (path_at s at) b.sets,
            ap length (paths-path (path_at s at) b.sets some) ∙ length-append (all_paths b.sets) (path_at s at ∷ []),
          );
      first = λ e. absurd (omega (arith, w.counted some, e));
    }
next-sized None s b at w z order fit value = absurd (false≢true order)
