-- Laws of one field: its bytes tell what it says, and what it says tells its bytes.
use Rattle.std.specs.Prelude.{ℕ, zero, suc, ◌+◌, ◌*◌, ◌/◌, ◌%◌, ◌≤◌, ◌<◌, ◌≡◌, refl, Bool, true, false, cond, ◌||◌, List, [], ◌∷◌, ◌++◌, eqb, length, get_or, take, drop, Option, Some, None}
use Rattle.std.proofs.Common.{sym, ap, ap₂, subst, ◌∙◌, add-zero, arith, eqb-true, length-take-le, get_or-append-add}
use Rattle.std.proofs.lemmas.Bool.{false≢true}
use Rattle.std.proofs.Math.Seq.{slice, slice-cons, slice_empty, take-append-add, drop-append-add, take-append_seam}
use Rattle.dates.specs.declared.Window.{Window}
use Rattle.walks.specs.Graph.{Arc}
use Rattle.book.specs.declared.Needs.{Needs}
use Rattle.book.specs.declared.Kind.{Kind}
use Rattle.book.specs.declared.Kind.TheVariants.{VertexCount, Path}
use Rattle.book.specs.Reading.{kind_of, kind_at, u16_at, length_at, end_at, count_at, arc_at, day_at, needs_at, path_at, fits}
use Rattle.book_bytes.specs.Bytes.{AreBytes, two_bytes, four_bytes, field_of, count_field, arc_field, window_bytes, needs_field, path_field}

-- ---- what a field of each kind says
abbrev pub Value : Option Kind → Type 0
Value (Some VertexCount) = ℕ
Value (Some Kind.Arc) = Arc
Value (Some Kind.RuleSet) = Needs
Value (Some Path) = List ℕ
Value None = Unit

abbrev pub value_at : (k : Option Kind) → List ℕ → ℕ → Value k
value_at (Some VertexCount) s at = count_at s at
value_at (Some Kind.Arc) s at = arc_at s at
value_at (Some Kind.RuleSet) s at = needs_at s at
value_at (Some Path) s at = path_at s at
value_at None s at = tt

-- its bytes: its tag, and its body behind the head of three bytes
abbrev pub written : (k : Option Kind) → Value k → List ℕ
written (Some VertexCount) n = count_field n
written (Some Kind.Arc) a = arc_field a
written (Some Kind.RuleSet) f = needs_field f
written (Some Path) p = path_field p
written None v = field_of 0 []

abbrev pub body_of : (k : Option Kind) → Value k → List ℕ
body_of k v = drop 3 (written k v)

tag_of : Option Kind → ℕ
tag_of (Some VertexCount) = 1
tag_of (Some Kind.Arc) = 2
tag_of (Some Kind.RuleSet) = 3
tag_of (Some Path) = 4
tag_of None = 0

framed : (k : Option Kind) (v : Value k) → written k v ≡ field_of (tag_of k) (body_of k v)
unfolding tag_of
framed (Some VertexCount) v = refl
framed (Some Kind.Arc) v = refl
framed (Some Kind.RuleSet) v = refl
framed (Some Path) v = refl
framed None v = refl

pub length-written : (k : Option Kind) (v : Value k) → length (written k v) ≡ 3 + length (body_of k v)
length-written k v = ap length (framed k v) ∙ omega arith

-- ---- numbers and their bytes
pub two-again : (x y : ℕ) → x < 256 → y < 256 → two_bytes (x * 256 + y) ≡ x ∷ y ∷ []
two-again x y h l =
    let high : (x * 256 + y) / 256 ≡ x = omega arith in
    let low : (x * 256 + y) % 256 ≡ y = omega arith in
    cc

pub two-value : (n : ℕ) → n / 256 * 256 + n % 256 ≡ n
two-value n = omega arith

pub four-again : (x y z w : ℕ) → x < 256 → y < 256 → z < 256 → w < 256 → four_bytes ((x * 256 + y) * 65536 + (z * 256 + w)) ≡ x ∷ y ∷ z ∷ w ∷ []
four-again x y z w hx hy hz hw =
    let high : ((x * 256 + y) * 65536 + (z * 256 + w)) / 65536 ≡ x * 256 + y = omega arith in
    let low : ((x * 256 + y) * 65536 + (z * 256 + w)) % 65536 ≡ z * 256 + w = omega arith in
    ap₂ (λ m n. two_bytes m ++ two_bytes n) high low ∙ ap₂ ◌++◌ (two-again x y hx hy) (two-again z w hz hw)

-- ---- a field reads the same from the same bytes
-- at two places with the same eleven bytes, as many as the longest field has; but a path is compared on its own
module _ (s t : List ℕ) (i j : ℕ) (same : (m n : ℕ) → m < i + 11 → m + j ≡ n + i → get_or s m 0 ≡ get_or t n 0) where
  pub same_kind : kind_at s i ≡ kind_at t j
  same_kind = ap kind_of (same i j (omega arith) (omega arith))

  same_word : (m n : ℕ) → m + 1 < i + 11 → m + j ≡ n + i → u16_at s m ≡ u16_at t n
  same_word m n h e = ap₂ (λ x y. x * 256 + y) (same m n (omega arith) e) (same (m + 1) (n + 1) h (omega arith))

  pub same_length : length_at s i ≡ length_at t j
  same_length = same_word (i + 1) (j + 1) (omega arith) (omega arith)

  same_day : (m n : ℕ) → m + 1 < i + 11 → m + j ≡ n + i → day_at s m ≡ day_at t n
  same_day m n h e = ap₂ (λ (x y : ℕ). record { day = x; month = y }) (same m n (omega arith) e) (same (m + 1) (n + 1) h (omega arith))

  pub same_value : (k : Option Kind) → path_at s i ≡ path_at t j → value_at k s i ≡ value_at k t j
  same_value (Some VertexCount) path = same (i + 3) (j + 3) (omega arith) (omega arith)
  same_value (Some Kind.Arc) path =
      cc (
        same (i + 3) (j + 3) (omega arith) (omega arith),
        same (i + 4) (j + 4) (omega arith) (omega arith),
        same_word (i + 5) (j + 5) (omega arith) (omega arith),
        same_word (i + 5 + 2) (j + 5 + 2) (omega arith) (omega arith),
      )
  same_value (Some Kind.RuleSet) path =
      cc (
        same_length,
        same_word (i + 3) (j + 3) (omega arith) (omega arith),
        same_day (i + 5) (j + 5) (omega arith) (omega arith),
        same_day (i + 7) (j + 7) (omega arith) (omega arith),
      )
  same_value (Some Path) path = path
  same_value None path = refl

-- ... and wherever it stands
module _ (front t : List ℕ) where
  abbrev whole : List ℕ
  whole = front ++ t

  abbrev place : ℕ
  place = length front

  byte : (m n : ℕ) → m < place + 11 → m + 0 ≡ n + place → get_or whole m 0 ≡ get_or t n 0
  byte m n h e =
      let there : m ≡ length front + n = omega arith in
      ap (λ j. get_or whole j 0) there ∙ get_or-append-add front t n 0

  pub kind_moved : kind_at whole place ≡ kind_at t 0
  kind_moved = same_kind whole t place 0 byte

  pub length_moved : length_at whole place ≡ length_at t 0
  length_moved = same_length whole t place 0 byte

  path_moved : path_at whole place ≡ path_at t 0
  path_moved =
      let end : end_at whole place ≡ length front + (0 + 3 + length_at t 0) = omega (arith, length_moved) in
      ap (λ e. slice (place + 3) e whole) end
      ∙ ap (drop (place + 3)) (take-append-add front t (end_at t 0))
      ∙ drop-append-add front (take (end_at t 0) t) 3

  pub value_moved : (k : Option Kind) → value_at k whole place ≡ value_at k t 0
  value_moved k = same_value whole t place 0 byte k path_moved

-- ---- bytes that are a field are the bytes of what it says
pub byte-below : (t : List ℕ) → AreBytes t → (i : ℕ) → get_or t i 0 < 256
byte-below [] bytes i = omega arith
byte-below (x ∷ t) bytes zero = bytes.0
byte-below (x ∷ t) bytes (suc i) = byte-below t bytes.1 i

-- a known tag is its kind's
tag_again : (x n : ℕ) → fits (kind_of x) n ≡ true → x ≡ tag_of (kind_of x)
unfolding tag_of
tag_again x n = go (eqb x 1) (eqb x 2) (eqb x 3) (eqb x 4) refl refl refl refl
  where
    kind : Bool → Bool → Bool → Bool → Option Kind
    kind p q r u = cond p (Some VertexCount) (cond q (Some Kind.Arc) (cond r (Some Kind.RuleSet) (cond u (Some Path) None)))

    go : (p q r u : Bool) → eqb x 1 ≡ p → eqb x 2 ≡ q → eqb x 3 ≡ r → eqb x 4 ≡ u → fits (kind p q r u) n ≡ true → x ≡ tag_of (kind p q r u)
    go true q r u e _ _ _ fit = eqb-true x 1 e
    go false true r u _ e _ _ fit = eqb-true x 2 e
    go false false true u _ _ e _ fit = eqb-true x 3 e
    go false false false true _ _ _ e fit = eqb-true x 4 e
    go false false false false _ _ _ _ fit = absurd (false≢true fit)

-- the elements of a part, one by one
abbrev elements : List ℕ → ℕ → ℕ → List ℕ
elements l f zero = []
elements l f (suc n) = get_or l f 0 ∷ elements l (suc f) n

slice-elements : (l : List ℕ) (f n : ℕ) → f + n ≤ length l → slice f (f + n) l ≡ elements l f n
slice-elements l f zero h = ap (λ e. slice f e l) (add-zero f) ∙ slice_empty f l
slice-elements l f (suc n) h =
    let next : f + suc n ≡ suc f + n = omega arith in
    slice-cons f (f + suc n) l 0 (omega arith) h ∙ ap (λ r. get_or l f 0 ∷ r) (ap (λ e. slice (suc f) e l) next ∙ slice-elements l (suc f) n (omega arith))

frame_again : (t : List ℕ) → AreBytes t → end_at t 0 ≤ length t → take (end_at t 0) t ≡ field_of (get_or t 0 0) (path_at t 0)
frame_again [] bytes h = absurd (omega arith)
frame_again (x ∷ []) bytes h = absurd (omega arith)
frame_again (x ∷ y ∷ []) bytes h = absurd (omega arith)
frame_again (x ∷ y ∷ z ∷ r) bytes h =
    let n : ℕ = y * 256 + z in
    let end : 0 + 3 + n ≡ suc (suc (suc n)) = omega arith in
    let size : two_bytes (length (take n r)) ≡ y ∷ z ∷ [] =
    ap two_bytes (length-take-le n r (omega arith)) ∙ two-again y z bytes.1.0 bytes.1.1.0 in
    subst (λ m. take m (x ∷ y ∷ z ∷ r) ≡ field_of x (slice 3 m (x ∷ y ∷ z ∷ r))) (sym end) (sym (ap (λ l. (x ∷ l) ++ take n r) size))

module _ (t : List ℕ) (bytes : AreBytes t) (held : end_at t 0 ≤ length t) where
  sized : (n : ℕ) → length_at t 0 ≡ n → path_at t 0 ≡ elements t 3 n
  sized n e = ap (λ m. slice 3 (3 + m) t) e ∙ slice-elements t 3 n (omega arith)

  body_again : (k : Option Kind) → fits k (length_at t 0) ≡ true → path_at t 0 ≡ body_of k (value_at k t 0)
  body_again (Some VertexCount) fit = sized 1 (eqb-true _ 1 fit)
  body_again (Some Kind.Arc) fit =
      sized 6 (eqb-true _ 6 fit)
      ∙ sym
      (ap (λ l. get_or t 3 0 ∷ get_or t 4 0 ∷ l)
      (four-again (get_or t 5 0) (get_or t 6 0) (get_or t 7 0) (get_or t 8 0) (byte-below t bytes 5) (byte-below t bytes 6) (byte-below t bytes 7) (byte-below t bytes 8)))
  body_again (Some Kind.RuleSet) fit = go (eqb (length_at t 0) 2) refl fit
    where
      flags_again : two_bytes (u16_at t 3) ≡ get_or t 3 0 ∷ get_or t 4 0 ∷ []
      flags_again = two-again (get_or t 3 0) (get_or t 4 0) (byte-below t bytes 3) (byte-below t bytes 4)

      go : (short : Bool) → eqb (length_at t 0) 2 ≡ short → short || eqb (length_at t 0) 6 ≡ true
          → path_at t 0 ≡ two_bytes (u16_at t 3) ++ window_bytes (cond short None (Some (record { first = day_at t 5; last = day_at t 7 })))
      go true e long = sized 2 (eqb-true _ 2 e) ∙ sym flags_again
      go false e long = sized 6 (eqb-true _ 6 long) ∙ sym (ap (λ l. l ++ (get_or t 5 0 ∷ get_or t 6 0 ∷ get_or t 7 0 ∷ get_or t 8 0 ∷ [])) flags_again)
  body_again (Some Path) fit = refl
  body_again None fit = absurd (false≢true fit)

  pub field-again : fits (kind_at t 0) (length_at t 0) ≡ true → take (end_at t 0) t ≡ written (kind_at t 0) (value_at (kind_at t 0) t 0)
  field-again fit =
      frame_again t bytes held
      ∙ ap₂ field_of (tag_again (get_or t 0 0) (length_at t 0) fit) (body_again (kind_at t 0) fit)
      ∙ sym (framed (kind_at t 0) (value_at (kind_at t 0) t 0))

-- ---- the bytes of a value are a field that says it
module _ (rest : List ℕ) where
  pub kind-first : (k : Option Kind) (v : Value k) → kind_at (written k v ++ rest) 0 ≡ k
  kind-first (Some VertexCount) v = refl
  kind-first (Some Kind.Arc) v = refl
  kind-first (Some Kind.RuleSet) v = refl
  kind-first (Some Path) v = refl
  kind-first None v = refl

  pub length-first : (k : Option Kind) (v : Value k) → length_at (written k v ++ rest) 0 ≡ length (body_of k v)
  length-first k v = ap (λ l. length_at (l ++ rest) 0) (framed k v) ∙ two-value (length (body_of k v))

  pub value-first : (k : Option Kind) (v : Value k) → value_at k (written k v ++ rest) 0 ≡ v
  value-first (Some VertexCount) v = refl
  value-first (Some Kind.Arc) v = ap (λ w. record { tail = v.tail; head = v.head; weight = w }) (omega arith)
  value-first (Some Kind.RuleSet) v = go v.window
    where
      go : (o : Option Window) → needs_at (needs_field (record { flags = v.flags; window = o }) ++ rest) 0 ≡ record { flags = v.flags; window = o }
      go None = ap (λ n. record { flags = n; window = None }) (two-value v.flags)
      go (Some w) = ap (λ n. record { flags = n; window = Some w }) (two-value v.flags)
  value-first (Some Path) v =
      let end : end_at (written (Some Path) v ++ rest) 0 ≡ suc (suc (suc (length v))) = omega (arith, length-first (Some Path) v) in
      ap (λ e. slice 3 e (written (Some Path) v ++ rest)) end ∙ take-append_seam v rest
  value-first None v = refl
