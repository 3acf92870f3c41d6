-- The laws of what specs/BookLaws.antt defines.
use Prim.Native.Nat.{ℕ, zero, suc, ◌+◌, ◌-◌, ◌≤◌, ◌<◌}
use Rattle.std.specs.Prelude
use Rattle.std.specs.Prelude.{◌≡◌, Bool, true, false, cond, not, ◌&&◌, ◌||◌, eqb, leb, ltb, length, Some, None, Ok, Err}
use Rattle.std.proofs.Math.Path.{refl, sym, ap, fun_ext}
use Rattle.std.proofs.Common.{ap₂, subst, ◌∙◌, ⊎_elim, true≢false, zero-add, suc-add, arith, ltb-true, leb-true, le-leb, eqb-true, eq-eqb, ne_eqb, lt-ltb, le-ltb, length-append}
use Rattle.std.proofs.lemmas.Bool.{false≢true, eqb-false, not-true}
use mathlib.Core.List.Memᴰ
use mathlib.Core.List.{List, [], ◌∷◌, ◌++◌, append_assoc, append-nil, Memᴰ}
use Rattle.std.proofs.Math.Option.{Option, none, some}
use Rattle.std.proofs.Math.Seq.{length-slice}
use Rattle.limits.specs.Limits.{longest_path, most_paths, most_sets, most_vertices}
use Rattle.book.specs.declared.Refusal.{Refusal}
use Rattle.book.specs.declared.Refusal.TheVariants.{Value, Repeated}
use Rattle.book.specs.declared.Counts.{Counts}
use Rattle.book.specs.declared.Kind.{Kind}
use Rattle.book.specs.declared.Kind.TheVariants.{VertexCount, Path}
use Rattle.book.specs.declared.Needs.{Needs}
use Rattle.book.specs.Refusal.{first_failure}
use Rattle.book.proofs.RefusalLaws.{none→hold}
use Rattle.lists.specs.Test.{and-true, or_false, either}
use Rattle.walks.specs.Graph.{Arc, is_some, weight_in}
use Rattle.book.specs.Book.{RuleSet, Book, blank, all_paths, counts, given, proper_arc, are_vertices, is_path, All, IsArc, IsPath, PairsOnce, WellFormed}
use Rattle.book.specs.Reading.{Reading, accepted, refused, read_as, kind_at, length_at, end_at, count_at, arc_at, needs_at, path_at, follows, fits, proper, fresh, room, extended, add_path, add_arc, with_arc, outcome, field, fields, and_then, reading}
use Rattle.book.specs.BookLaws.{bare, paths-set, Passed, all_tests, IsBook}

-- ---- lists
pub all_map : {A : Type 0} {P Q : A → Type 0} → ((x : A) → P x → Q x) → (xs : List A) → All P xs → All Q xs
all_map f [] h = tt
all_map f (x ∷ xs) h = (f x h.0, all_map f xs h.1)

pub all-member : {A : Type 0} (P : A → Type 0) (xs : List A) → All P xs → (x : A) → Memᴰ x xs → P x
all-member P [] h x m = absurd (Memᴰ.not-nil m)
all-member P (y ∷ xs) h x m = ⊎_elim (λ e. subst P (sym e) h.0) (all-member P xs h.1 x) (Memᴰ.cases_cons m)

pub all_snoc : {A : Type 0} (P : A → Type 0) (xs : List A) (x : A) → All P xs → P x → All P (xs ++ (x ∷ []))
all_snoc P [] x h k = (k, tt)
all_snoc P (y ∷ xs) x h k = (h.0, all_snoc P xs x h.1 k)

module _ {A : Type 0} (P : A → Type 0) where
  pub all_append : (xs ys : List A) → All P xs → All P ys → All P (xs ++ ys)
  all_append [] ys h k = k
  all_append (x ∷ xs) ys h k = (h.0, all_append xs ys h.1 k)

  pub all_left : (xs ys : List A) → All P (xs ++ ys) → All P xs
  all_left [] ys h = tt
  all_left (x ∷ xs) ys h = (h.0, all_left xs ys h.1)

  pub all_right : (xs ys : List A) → All P (xs ++ ys) → All P ys
  all_right [] ys h = h
  all_right (x ∷ xs) ys h = all_right xs ys h.1

-- ---- the tests as facts
pub is-arc : (count : ℕ) (a : Arc) → proper_arc count a ≡ true → IsArc count a
is-arc count a e =
    let three = and-true _ _ e in
    let two = and-true _ _ three.0 in
    let one = and-true _ _ two.0 in
    record {
      tail-below = ltb-true _ _ one.0;
      head-below = ltb-true _ _ one.1;
      different = eqb-false _ _ (not-true _ two.1);
      light = leb-true _ _ three.1;
    }

pub arc-passes : (n : ℕ) (a : Arc) → IsArc n a → proper_arc n a ≡ true
arc-passes n a is =
    ap₂ ◌&&◌ (ap₂ ◌&&◌ (ap₂ ◌&&◌ (lt-ltb _ _ is.tail-below) (lt-ltb _ _ is.head-below)) (ap not (ne_eqb _ _ is.different))) (le-leb _ _ is.light)

pub vertices-below : (count : ℕ) (p : List ℕ) → are_vertices count p ≡ true → All (λ v. v < count) p
unfolding are_vertices
vertices-below count [] e = tt
vertices-below count (v ∷ vs) e =
    let (here, later) = and-true (ltb v count) _ e in
    (ltb-true _ _ here, vertices-below count vs later)

pub below-vertices : (count : ℕ) (p : List ℕ) → All (λ v. v < count) p → are_vertices count p ≡ true
unfolding are_vertices
below-vertices count [] below = refl
below-vertices count (v ∷ vs) below = rw (lt-ltb v count below.0, below-vertices count vs below.1)

pub is_path→IsPath : (count : ℕ) (p : List ℕ) → is_path count p ≡ true → IsPath count p
unfolding is_path
is_path→IsPath count p e =
    let (size, vertices) = and-true (leb 2 (length p) && leb (length p) longest_path) (are_vertices count p) e in
    let (low, high) = and-true (leb 2 (length p)) (leb (length p) longest_path) size in
    record { two = leb-true _ _ low; eight = leb-true _ _ high; below = vertices-below count p vertices }

pub IsPath→is_path : (count : ℕ) (p : List ℕ) → IsPath count p → is_path count p ≡ true
unfolding is_path
IsPath→is_path count p h = rw (le-leb _ _ h.two, le-leb _ _ h.eight, below-vertices count p h.below)

pub arc-taken : (b : Book) (at : ℕ) (a : Arc) → IsArc b.count a → given b.arcs a.tail a.head ≡ false → with_arc b at a ≡ accepted (add_arc b a)
arc-taken b at a is new =
    ap₂ (λ x y. outcome (cond x (cond (not y) none (some (Repeated at))) (some (Value at))) (add_arc b a)) (arc-passes b.count a is) new

-- ---- one more arc
pub given_cons : (a : Arc) (xs : List Arc) (t h : ℕ) → given (a ∷ xs) t h ≡ (eqb a.tail t && eqb a.head h || given xs t h)
given_cons a xs t h = go (eqb a.tail t && eqb a.head h)
  where
    go : (x : Bool) → is_some (cond x (some a.weight) (weight_in xs t h)) ≡ (x || given xs t h)
    go true = refl
    go false = refl

given_snoc : (xs : List Arc) (a : Arc) (t h : ℕ) → given xs t h ≡ false → eqb a.tail t && eqb a.head h ≡ false
    → given (xs ++ (a ∷ [])) t h ≡ false
given_snoc [] a t h e f = rw f
given_snoc (x ∷ xs) a t h e f =
    let no = or_false (eqb x.tail t && eqb x.head h) (given xs t h) (sym (given_cons x xs t h) ∙ e) in
    given_cons x (xs ++ (a ∷ [])) t h ∙ rw no.0 (given_snoc xs a t h no.1 f)

pub other_pair : (p q t h : ℕ) → eqb p t && eqb q h ≡ false → eqb t p && eqb h q ≡ false
other_pair p q t h e =
    ⊎_elim
    (λ y.
    let same = and-true (eqb t p) (eqb h q) y in
    let back : eqb p t && eqb q h ≡ true = rw (eq-eqb p t (sym (eqb-true t p same.0)), eq-eqb q h (sym (eqb-true h q same.1))) in
    absurd (true≢false (sym back ∙ e)))
    (λ n. n)
    (either (eqb t p && eqb h q))

-- a pair that is given once is not given before
given-after : (xs : List Arc) (a : Arc) (ys : List Arc) (t h : ℕ) → given (xs ++ (a ∷ ys)) t h ≡ false → eqb a.tail t && eqb a.head h ≡ false
given-after [] a ys t h e = (or_false (eqb a.tail t && eqb a.head h) (given ys t h) (sym (given_cons a ys t h) ∙ e)).0
given-after (x ∷ xs) a ys t h e =
    given-after xs a ys t h (or_false (eqb x.tail t && eqb x.head h) (given (xs ++ (a ∷ ys)) t h) (sym (given_cons x (xs ++ (a ∷ ys)) t h) ∙ e)).1

pub not-before : (xs : List Arc) (a : Arc) (ys : List Arc) → PairsOnce (xs ++ (a ∷ ys)) → given xs a.tail a.head ≡ false
not-before [] a ys once = refl
not-before (x ∷ xs) a ys once =
    given_cons x xs a.tail a.head
    ∙ ap₂ ◌||◌ (other_pair a.tail a.head x.tail x.head (given-after xs a ys x.tail x.head once.0)) (not-before xs a ys once.1)

pairs_snoc : (xs : List Arc) (a : Arc) → PairsOnce xs → given xs a.tail a.head ≡ false → PairsOnce (xs ++ (a ∷ []))
pairs_snoc [] a h e = (refl, tt)
pairs_snoc (x ∷ xs) a h e =
    let no = or_false (eqb x.tail a.tail && eqb x.head a.head) (given xs a.tail a.head) (sym (given_cons x xs _ _) ∙ e) in
    (given_snoc xs a _ _ h.0 (other_pair x.tail x.head a.tail a.head no.0), pairs_snoc xs a h.1 no.1)

module _ (p : List ℕ) where
  pub length-sets-path : (ss : List RuleSet) → length (add_path ss p) ≡ length ss
  unfolding add_path
  length-sets-path [] = refl
  length-sets-path (s ∷ []) = refl
  length-sets-path (s ∷ (s' ∷ ss)) = ap suc (length-sets-path (s' ∷ ss))

  pub paths-path : (ss : List RuleSet) → 1 ≤ length ss → all_paths (add_path ss p) ≡ all_paths ss ++ (p ∷ [])
  unfolding all_paths add_path
  paths-path [] h = absurd (omega arith)
  paths-path (s ∷ []) h = simp (append_assoc, append-nil)
  paths-path (s ∷ (s' ∷ ss)) h = ap (λ l. s.paths ++ l) (paths-path (s' ∷ ss) (omega arith)) ∙ sym (append_assoc s.paths _ _)

pub outcome-accepted : (o : Option Refusal) (b b' : Book) → outcome o b ≡ accepted b' → (o ≡ none) × (b' ≡ b)
outcome-accepted none b b' e = (refl, cc)
outcome-accepted (some r) b b' e = absurd (cc)

module _ (s : List ℕ) (b : Book) (at : ℕ) (b' : Book) (e : field s b at ≡ accepted b') where
  pub field_extends : b' ≡ extended (kind_at s at) s b at
  field_extends = (outcome-accepted (first_failure (all_tests s b at)) _ b' e).1

  pub field-passed : Passed s b at
  field-passed =
      let held = none→hold (all_tests s b at) (outcome-accepted (first_failure (all_tests s b at)) _ b' e).0 in
      record {
        order = held.1.0;
        fit = held.1.1.0;
        whole = leb-true _ _ held.1.1.1.0;
        value = held.1.1.1.1.0;
        season = held.1.1.1.1.1.0;
        once = held.1.1.1.1.1.1.0;
        space = held.1.1.1.1.1.1.1.0;
      }

-- a field keeps a book well formed
pub count-well_formed : (n : ℕ) (b : Book) → WellFormed b → b.count ≡ 0 → 1 ≤ n → n ≤ most_vertices
    → WellFormed (record { count = n; arcs = b.arcs; sets = b.sets })
count-well_formed n b w first low high =
    record {
      few-vertices = high;
      counted = λ _. low;
      arcs-proper = all_map (λ a h. absurd (omega (arith, h.tail-below))) b.arcs w.arcs-proper;
      pairs-once = w.pairs-once;
      few-sets = w.few-sets;
      few-paths = w.few-paths;
      paths-proper =
          all_map
          (λ p h. record { two = h.two; eight = h.eight; below = all_map (λ v l. absurd (omega (arith, l))) p h.below })
          (all_paths b.sets)
          w.paths-proper;
    }

pub arc-well_formed : (a : Arc) (b : Book) → WellFormed b → proper_arc b.count a ≡ true → given b.arcs a.tail a.head ≡ false
    → WellFormed (record { count = b.count; arcs = b.arcs ++ (a ∷ []); sets = b.sets })
arc-well_formed a b w value once =
    record {
      few-vertices = w.few-vertices;
      counted = w.counted;
      arcs-proper = all_snoc (IsArc b.count) b.arcs a w.arcs-proper (is-arc b.count a value);
      pairs-once = pairs_snoc b.arcs a w.pairs-once once;
      few-sets = w.few-sets;
      few-paths = w.few-paths;
      paths-proper = w.paths-proper;
    }

pub set-well_formed : (f : Needs) (b : Book) → WellFormed b → 1 ≤ b.count → length b.sets < most_sets
    → WellFormed (record { count = b.count; arcs = b.arcs; sets = b.sets ++ bare f })
set-well_formed f b w low space =
    record {
      few-vertices = w.few-vertices;
      counted = λ _. low;
      arcs-proper = w.arcs-proper;
      pairs-once = w.pairs-once;
      few-sets = simp length-append (omega arith);
      few-paths = rw (paths-set f b.sets) w.few-paths;
      paths-proper = rw (paths-set f b.sets) w.paths-proper;
    }

pub path-well_formed : (p : List ℕ) (b : Book) → WellFormed b → 1 ≤ length b.sets → IsPath b.count p → length (all_paths b.sets) < most_paths
    → WellFormed (record { count = b.count; arcs = b.arcs; sets = add_path b.sets p })
path-well_formed p b w some-set proper-path space =
    record {
      few-vertices = w.few-vertices;
      counted = λ _. w.counted some-set;
      arcs-proper = w.arcs-proper;
      pairs-once = w.pairs-once;
      few-sets = rw (length-sets-path p b.sets) w.few-sets;
      few-paths = rw (paths-path p b.sets some-set) (simp length-append (omega arith));
      paths-proper =
          rw (paths-path p b.sets some-set) (all_snoc (IsPath b.count) (all_paths b.sets) p w.paths-proper proper-path);
    }

pub not-zero : (n : ℕ) → not (eqb n 0) ≡ true → 1 ≤ n
not-zero n e = let nz = eqb-false n 0 (not-true (eqb n 0) e) in omega (arith, nz)

extended-well_formed : (k : Prelude.Option Kind) (s : List ℕ) (b : Book) (at : ℕ) → WellFormed b
    → follows b.count (length b.sets) k ≡ true → fits k (length_at s at) ≡ true → end_at s at ≤ length s
    → proper k s b at ≡ true → fresh k s b at ≡ true → room k b ≡ true → WellFormed (extended k s b at)
extended-well_formed (Some VertexCount) s b at w order fit whole value once space =
    let limits = and-true (leb 1 (count_at s at)) (leb (count_at s at) most_vertices) value in
    count-well_formed (count_at s at) b w (eqb-true _ 0 order) (leb-true _ _ limits.0) (leb-true _ _ limits.1)
extended-well_formed (Some Kind.Arc) s b at w order fit whole value once space = arc-well_formed (arc_at s at) b w value (not-true _ once)
extended-well_formed (Some Kind.RuleSet) s b at w order fit whole value once space =
    set-well_formed (needs_at s at) b w (not-zero b.count order) (ltb-true _ _ space)
extended-well_formed (Some Path) s b at w order fit whole value once space =
    let limits = and-true (leb 2 (length_at s at)) (leb (length_at s at) longest_path) fit in
    let size : length (path_at s at) ≡ length_at s at = length-slice (at + 3) (end_at s at) s whole ∙ omega arith in
    path-well_formed (path_at s at) b w (not-zero (length b.sets) order)
    (record {
      two = rw size (leb-true _ _ limits.0);
      eight = rw size (leb-true _ _ limits.1);
      below = vertices-below b.count (path_at s at) value;
    })
    (ltb-true _ _ space)
extended-well_formed None s b at w order fit whole value once space = w

pub field-well_formed : (s : List ℕ) (b : Book) (at : ℕ) (b' : Book) → WellFormed b → field s b at ≡ accepted b' → WellFormed b'
field-well_formed s b at b' w e =
    let p = field-passed s b at b' e in
    subst WellFormed (sym (field_extends s b at b' e))
    (extended-well_formed (kind_at s at) s b at w p.order p.fit p.whole p.value p.once p.space)

-- ... and leaves it with a vertex
extended-counted : (k : Prelude.Option Kind) (s : List ℕ) (b : Book) (at : ℕ) → WellFormed b
    → follows b.count (length b.sets) k ≡ true → proper k s b at ≡ true → 1 ≤ (extended k s b at).count
extended-counted (Some VertexCount) s b at w order value = leb-true _ _ (and-true (leb 1 (count_at s at)) _ value).0
extended-counted (Some Kind.Arc) s b at w order value = not-zero b.count (and-true (not (eqb b.count 0)) _ order).0
extended-counted (Some Kind.RuleSet) s b at w order value = not-zero b.count order
extended-counted (Some Path) s b at w order value = w.counted (not-zero (length b.sets) order)
extended-counted None s b at w order value = absurd (false≢true order)

field-is-book : (s : List ℕ) (b : Book) (at : ℕ) (b' : Book) → WellFormed b → field s b at ≡ accepted b' → IsBook b'
field-is-book s b at b' w e =
    let p = field-passed s b at b' e in
    record {
      well_formed = field-well_formed s b at b' w e;
      some-vertex = rw (field_extends s b at b' e) (extended-counted (kind_at s at) s b at w p.order p.value);
    }

pub and-then-accepted : (r : Reading) (f : Book → Reading) (b' : Book) → and_then r f ≡ accepted b' → (b : Book) × (r ≡ accepted b) × (f b ≡ accepted b')
and-then-accepted (accepted b) f b' e = (b, refl, e)
and-then-accepted (refused r) f b' e = absurd (cc)

fields-is-book : (turns : ℕ) (s : List ℕ) (b : Book) (at : ℕ) (b' : Book) → IsBook b → fields turns s b at ≡ accepted b' → IsBook b'
unfolding fields
fields-is-book zero s b at b' w e = let same : b ≡ b' = cc in subst IsBook same w
fields-is-book (suc turns) s b at b' w e = go (ltb at (length s)) e (fields-is-book turns s)
  where
    go : (more : Bool) → cond more (and_then (field s b at) (λ b₁. fields turns s b₁ (end_at s at))) (accepted b) ≡ accepted b'
        → ((b₁ : Book) (at₁ : ℕ) (b₂ : Book) → IsBook b₁ → fields turns s b₁ at₁ ≡ accepted b₂ → IsBook b₂) → IsBook b'
    go true q later =
        let (b₁, here, rest) = and-then-accepted (field s b at) _ b' q in
        later b₁ (end_at s at) b' (field-is-book s b at b₁ w.well_formed here) rest
    go false q later = let same : b ≡ b' = cc in subst IsBook same w

pub blank-well_formed : WellFormed blank
unfolding all_paths
blank-well_formed =
    record { few-vertices = omega arith; counted = λ h. h; arcs-proper = tt; pairs-once = tt; few-sets = omega arith; few-paths = omega arith; paths-proper = tt }

pub reading-is-book : (s : List ℕ) (b : Book) → reading s ≡ accepted b → IsBook b
unfolding reading fields
reading-is-book [] b e = absurd (cc)
reading-is-book (x ∷ s) b e =
    let (b₁, here, rest) = and-then-accepted (field (x ∷ s) blank 0) _ b (rw (lt-ltb 0 (length (x ∷ s)) (omega arith)) at e) in
    fields-is-book (length s) (x ∷ s) b₁ _ b (field-is-book (x ∷ s) blank 0 b₁ blank-well_formed here) rest

-- an answer tells the reading
pub answer-read : (r : Reading) (d : Counts) → read_as r ≡ Ok d → (b : Book) × (r ≡ accepted b) × (d ≡ counts b)
answer-read (accepted b) d e = (b, refl, cc)
answer-read (refused q) d e = absurd (cc)

pub answer-refused : (r : Reading) (q : Refusal) → read_as r ≡ Err q → r ≡ refused q
answer-refused (accepted b) q e = absurd (cc)
answer-refused (refused p) q e = let same : p ≡ q = cc in ap refused same

-- The turns of `reading` never run out: more of them change nothing.
fields-more : (turns more : ℕ) (s : List ℕ) (b : Book) (at : ℕ) → length s ≤ at + turns → fields (turns + more) s b at ≡ fields turns s b at
unfolding fields
fields-more zero zero s b at enough = refl
fields-more zero (suc more) s b at enough = rw (zero-add, le-ltb at (length s) (omega arith))
fields-more (suc turns) more s b at enough =
    rw suc-add
    (ap (λ f. cond (ltb at (length s)) (and_then (field s b at) f) (accepted b))
    (fun_ext (λ b'. fields-more turns more s b' (end_at s at) (omega arith))))

pub enough_turns : (turns x : ℕ) (s : List ℕ) → length (x ∷ s) ≤ turns → fields turns (x ∷ s) blank 0 ≡ reading (x ∷ s)
unfolding reading
enough_turns turns x s enough =
    let spare : turns ≡ length (x ∷ s) + (turns - length (x ∷ s)) = omega arith in
    ap (λ k. fields k (x ∷ s) blank 0) spare ∙ fields-more (length (x ∷ s)) (turns - length (x ∷ s)) (x ∷ s) blank 0 (omega arith)
