-- Laws: a book that is accepted is short, and of a longer byte string the first bad field is found within the first bytes.
use Rattle.std.specs.Prelude
use Rattle.std.specs.Prelude.{◌≡◌, refl, Bool, true, false, not, ◌&&◌, List, [], ◌∷◌, ◌++◌, leb, ltb, length, get_or, take, drop, Some, None}
use Prim.Native.Nat.{ℕ, zero, suc, ◌+◌, ◌≤◌, ◌<◌}
use Rattle.std.proofs.Math.Path.{sym, ap}
use Rattle.std.proofs.Common.{ap₂, subst, ◌∙◌, arith, le-leb, lt-ltb, ltb-false, leb-true, eqb-true, get_or-take, take-take}
use Rattle.std.proofs.Math.Bool.{cond}
use Rattle.std.proofs.lemmas.Bool.{false≢true}
use Rattle.std.proofs.Math.Option.{Option, some}
use Rattle.std.proofs.Math.Seq.{length-take-le}
use Rattle.limits.specs.Limits.{longest_path}
use Rattle.lists.specs.Test.{and-true}
use Rattle.book.specs.declared.Kind.{Kind}
use Rattle.book.specs.declared.Kind.TheVariants.{VertexCount, Path}
use Rattle.book.specs.declared.Refusal.{Refusal}
use Rattle.book.specs.declared.Refusal.TheVariants.{Truncated, Tag, Length}
use Rattle.book.specs.Refusal.{first_failure}
use Rattle.book.specs.Book.{Book, WellFormed, blank}
use Rattle.book.proofs.BookLaws.{blank-well_formed, field-passed, field_extends, field-well_formed, and-then-accepted}
use Rattle.book.specs.Reading.{Reading, accepted, refused, reading, fields, field, and_then, outcome, taken, content, extended, follows, fits, kind_at, length_at, end_at, path_at}
use Rattle.book_bytes.specs.Bytes.{longest_book}
use Rattle.book_bytes.proofs.BookSize.{Sized, size-bound, needs-length, next-sized}
use Rattle.book_bytes.proofs.Field.{value_at, same_kind, same_length, same_value}
use Rattle.book_bytes.proofs.Adding.{told}

-- ---- a field looks at no byte behind its own
-- what the four tests of the frame and the rest come to
abbrev shape : Bool → Bool → Bool → Bool → Option Refusal → Book → ℕ → Reading
shape x y z w rest e at = outcome (cond x (cond y (cond z (cond w rest (some (Truncated at))) (some (Length at))) (some (Tag at))) (some (Truncated at))) e

shape_same : (x y z w w' : Bool) (rest rest' : Option Refusal) (e e' : Book) (at : ℕ) → (z ≡ true → (w ≡ true) × (w' ≡ true) × (outcome rest e ≡ outcome rest' e'))
    → shape x y z w rest e at ≡ shape x y z w' rest' e' at
shape_same false y z w w' rest rest' e e' at h = refl
shape_same true false z w w' rest rest' e e' at h = refl
shape_same true true false w w' rest rest' e e' at h = refl
shape_same true true true w w' rest rest' e e' at h =
    let (p, p', q) = h refl in
    ap (λ v. shape true true true v rest e at) p ∙ q ∙ sym (ap (λ v. shape true true true v rest' e' at) p')

fits-eight : (k : Prelude.Option Kind) (n : ℕ) → fits k n ≡ true → n ≤ longest_path
fits-eight (Some VertexCount) n e = omega (arith, eqb-true n 1 e)
fits-eight (Some Kind.Arc) n e = omega (arith, eqb-true n 6 e)
fits-eight (Some Kind.RuleSet) n e = omega (arith, needs-length n e)
fits-eight (Some Path) n e = leb-true n longest_path (and-true (leb 2 n) (leb n longest_path) e).1
fits-eight None n e = absurd (false≢true e)

module _ (s : List ℕ) (m : ℕ) (b : Book) (at : ℕ) (within : at + 11 ≤ m) (long : m ≤ length s) where
  abbrev front : List ℕ
  front = take m s

  byte : (i k : ℕ) → i < at + 11 → i + at ≡ k + at → get_or front i 0 ≡ get_or s k 0
  byte i k h e =
      let there : k ≡ i = omega arith in
      get_or-take m s i 0 (omega arith) ∙ ap (λ j. get_or s j 0) (sym there)

  kind-same : kind_at front at ≡ kind_at s at
  kind-same = same_kind front s at at byte

  pub length-same : length_at front at ≡ length_at s at
  length-same = same_length front s at at byte

  path-same : length_at s at ≤ longest_path → path_at front at ≡ path_at s at
  path-same h = ap (λ n. drop (at + 3) (take (at + 3 + n) front)) length-same ∙ ap (drop (at + 3)) (take-take (at + 3 + length_at s at) m s (omega arith))

  taken-same : (k : Prelude.Option Kind) → length_at s at ≤ longest_path → taken k front b at ≡ taken k s b at
  taken-same k h =
      let value : value_at k front at ≡ value_at k s at = same_value front s at at byte k (path-same h) in
      let one = told front b at k (value_at k s at) value in
      let other = told s b at k (value_at k s at) refl in
      cc (one.adds, one.value, one.season, one.once, other.adds, other.value, other.season, other.once)

  abbrev framed : Prelude.Option Kind → ℕ → List ℕ → Reading
  framed k n t =
      shape (leb (at + 3) (length t)) (follows b.count (length b.sets) k) (fits k n) (leb (at + 3 + n) (length t)) (first_failure (content k t b at)) (extended k t b at) at

  size_same : length front ≡ m
  size_same = length-take-le m s long

  pub field-same : field front b at ≡ field s b at
  field-same =
      ap₂ (λ k n. framed k n front) kind-same length-same
      ∙ ap
      (λ x. shape x (follows b.count (length b.sets) (kind_at s at)) (fits (kind_at s at) (length_at s at)) (leb (at + 3 + length_at s at) (length front))
      (first_failure (content (kind_at s at) front b at)) (extended (kind_at s at) front b at) at)
      (le-leb (at + 3) (length front) (omega (arith, size_same)) ∙ sym (le-leb (at + 3) (length s) (omega arith)))
      ∙ shape_same (leb (at + 3) (length s)) (follows b.count (length b.sets) (kind_at s at)) (fits (kind_at s at) (length_at s at)) (leb (at + 3 + length_at s at) (length front))
      (leb (at + 3 + length_at s at) (length s)) (first_failure (content (kind_at s at) front b at)) (first_failure (content (kind_at s at) s b at)) (extended (kind_at s at) front b at)
      (extended (kind_at s at) s b at) at
      (λ z.
      let eight = fits-eight (kind_at s at) (length_at s at) z in (
        le-leb (at + 3 + length_at s at) (length front) (omega (arith, size_same, eight)),
        le-leb (at + 3 + length_at s at) (length s) (omega (arith, eight)),
        taken-same (kind_at s at) eight,
      ))

-- ---- all fields
abbrev rest : ℕ → List ℕ → ℕ → Book → Reading
rest turns s at b = fields turns s b (end_at s at)

and-then-same : (r : Reading) (f g : Book → Reading) → ((b : Book) → r ≡ accepted b → f b ≡ g b) → and_then r f ≡ and_then r g
and-then-same (accepted b) f g h = h b refl
and-then-same (refused q) f g h = refl

sized-after : (s : List ℕ) (b : Book) (at : ℕ) (b' : Book) → WellFormed b → Sized b at → field s b at ≡ accepted b' → Sized b' (end_at s at)
sized-after s b at b' w z e =
    let p = field-passed s b at b' e in
    subst (λ x. Sized x (end_at s at)) (sym (field_extends s b at b' e)) (next-sized (kind_at s at) s b at w z p.order p.fit p.value)

module _ (s : List ℕ) (m : ℕ) (long : m ≤ length s) (enough : longest_book + 11 ≤ m) where
  room : (b : Book) (at : ℕ) → WellFormed b → Sized b at → at + 11 ≤ m
  room b at w z = omega (arith, z.within, size-bound b w)

  fields-same : (k l : ℕ) (b : Book) (at : ℕ) → WellFormed b → Sized b at → m ≤ k + at → m ≤ l + at → fields l (take m s) b at ≡ fields k s b at
  unfolding fields
  fields-same zero l b at w z h h' = absurd (omega (arith, room b at w z))
  fields-same (suc k) zero b at w z h h' = absurd (omega (arith, room b at w z))
  fields-same (suc k) (suc l) b at w z h h' =
      let r = room b at w z in
      ap (λ x. cond x (and_then (field (take m s) b at) (rest l (take m s) at)) (accepted b)) (lt-ltb at (length (take m s)) (omega (arith, length-take-le m s long, r)))
      ∙ ap (λ x. and_then x (rest l (take m s) at)) (field-same s m b at r long)
      ∙ and-then-same (field s b at) (rest l (take m s) at) (rest k s at)
      (λ b' e. ap (λ n. fields l (take m s) b' (at + 3 + n)) (length-same s m b at r long)
      ∙ fields-same k l b' (end_at s at) (field-well_formed s b at b' w e) (sized-after s b at b' w z e) (omega arith) (omega arith))
      ∙ sym (ap (λ x. cond x (and_then (field s b at) (rest k s at)) (accepted b)) (lt-ltb at (length s) (omega (arith, r))))

-- The reading of a book that is longer than any that is accepted is that of its first bytes.
reading-fields : (s : List ℕ) → 1 ≤ length s → reading s ≡ fields (length s) s blank 0
unfolding reading
reading-fields [] h = absurd (omega arith)
reading-fields (x ∷ s) h = refl

blank-sized : Sized blank 0
blank-sized = record { within = omega arith; first = λ e. refl }

pub reading-front : (s : List ℕ) (m : ℕ) → m ≤ length s → longest_book + 11 ≤ m → reading (take m s) ≡ reading s
reading-front s m long enough =
    let size = length-take-le m s long in
    reading-fields (take m s) (omega (arith, size))
    ∙ fields-same s m long enough (length s) (length (take m s)) blank 0 blank-well_formed blank-sized (omega arith) (omega (arith, size))
    ∙ sym (reading-fields s (omega arith))

-- Every book that is read is at most as long as the longest.
fields-short : (turns : ℕ) (s : List ℕ) (b : Book) (at : ℕ) (b' : Book) → WellFormed b → Sized b at → length s ≤ turns + at → fields turns s b at ≡ accepted b' → length s ≤ longest_book
unfolding fields
fields-short zero s b at b' w z h e = omega (arith, z.within, size-bound b w)
fields-short (suc turns) s b at b' w z h e =
    go (ltb at (length s)) refl e
    (λ b₁ here. fields-short turns s b₁ (end_at s at) b' (field-well_formed s b at b₁ w here) (sized-after s b at b₁ w z here) (omega arith))
  where
    go : (x : Bool) → ltb at (length s) ≡ x → cond x (and_then (field s b at) (rest turns s at)) (accepted b) ≡ accepted b'
        → ((b₁ : Book) → field s b at ≡ accepted b₁ → fields turns s b₁ (end_at s at) ≡ accepted b' → length s ≤ longest_book) → length s ≤ longest_book
    go true x q step =
        let (b₁, here, later) = and-then-accepted (field s b at) (rest turns s at) b' q in
        step b₁ here later
    go false x q step = omega (arith, ltb-false at (length s) x, z.within, size-bound b w)

pub longest-book : (s : List ℕ) (b : Book) → reading s ≡ accepted b → length s ≤ longest_book
longest-book [] b e = omega arith
longest-book (x ∷ s) b e =
    fields-short (length (x ∷ s)) (x ∷ s) blank 0 b blank-well_formed blank-sized (omega arith) (sym (reading-fields (x ∷ s) (omega arith)) ∙ e)
