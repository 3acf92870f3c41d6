-- Laws: bytes that are read as a book are that book's bytes.
use Rattle.std.specs.Prelude.{refl, true, not, eqb, leb, Option, Some, None}
use Prim.Native.Nat.{ℕ, zero, suc, ◌≤◌, ◌<◌}
use Rattle.std.proofs.Math.Path.{◌≡◌, ap, subst}
use Rattle.std.proofs.Common.{sym, ap₂, ◌∙◌, arith, lt-ltb, leb-true, eqb-true, take-append-drop}
use Rattle.std.proofs.lemmas.Bool.{false≢true}
use mathlib.Core.List.{List, [], ◌∷◌, ◌++◌, append_assoc, append-nil, flat_map}
use Rattle.std.proofs.Math.ListN.{length, take, drop, length-append, length-drop}
use Rattle.std.proofs.Math.Seq.{length-take-le}
use Rattle.limits.specs.Limits.{most_vertices}
use Rattle.lists.specs.Test.{and-true}
use Rattle.walks.specs.Graph.{Arc}
use Rattle.book.specs.declared.Kind.{Kind}
use Rattle.book.specs.declared.Kind.TheVariants.{VertexCount, Path}
use Rattle.book.specs.Book.{RuleSet, Book, blank, All, IsArc, WellFormed}
use Rattle.book.specs.BookLaws.{Passed}
use Rattle.book.proofs.BookLaws.{all_snoc, not-zero, field-passed, field_extends, field-well_formed, blank-well_formed, reading-is-book, enough_turns, and-then-accepted}
use Rattle.book.specs.Reading.{accepted, kind_at, length_at, end_at, window_at, follows, fits, proper, seasonal, extended, add_path, field, fields, reading}
use Rattle.book_bytes.specs.Bytes.{AreBytes, count_field, arc_field, needs_field, path_field, set_fields, bytes_of, ProperNeeds, Keeps}
use Rattle.book_bytes.proofs.Field.{Value, value_at, written, kind_moved, length_moved, value_moved, byte-below, field-again}
use Rattle.book_bytes.proofs.Adding.{added, proper_value, seasonal_value, edges-are, Told, told}
use Rattle.book_bytes.proofs.ReadsLaws.{stop, reads-fields}

-- ---- a field adds its bytes to the book's
flat_append : {A : Type 0} (f : A → List ℕ) (xs ys : List A) → flat_map f (xs ++ ys) ≡ flat_map f xs ++ flat_map f ys
unfolding flat_map
flat_append f [] ys = refl
flat_append f (x ∷ xs) ys = ap (λ l. f x ++ l) (flat_append f xs ys) ∙ sym (append_assoc (f x) (flat_map f xs) (flat_map f ys))

flat_snoc : {A : Type 0} (f : A → List ℕ) (xs : List A) (x : A) → flat_map f (xs ++ (x ∷ [])) ≡ flat_map f xs ++ f x
unfolding flat_map
flat_snoc f xs x = flat_append f xs (x ∷ []) ∙ ap (λ l. flat_map f xs ++ l) (append-nil (f x))

flat_path : (ss : List RuleSet) (p : List ℕ) → 1 ≤ length ss → flat_map set_fields (add_path ss p) ≡ flat_map set_fields ss ++ path_field p
unfolding flat_map add_path
flat_path [] p h = absurd (omega arith)
flat_path (s ∷ []) p h =
    let needs = needs_field s.needs in
    append-nil (needs ++ flat_map path_field (s.paths ++ (p ∷ [])))
    ∙ ap (λ l. needs ++ l) (flat_snoc path_field s.paths p)
    ∙ sym (append_assoc needs (flat_map path_field s.paths) (path_field p))
    ∙ ap (λ l. l ++ path_field p) (sym (append-nil (set_fields s)))
flat_path (s ∷ (s' ∷ ss)) p h = ap (λ l. set_fields s ++ l) (flat_path (s' ∷ ss) p (omega arith)) ∙ sym (append_assoc (set_fields s) _ _)

pub needs-path : (ss : List RuleSet) (p : List ℕ) → All (λ s. ProperNeeds s.needs) ss → All (λ s. ProperNeeds s.needs) (add_path ss p)
unfolding add_path
needs-path [] p h = tt
needs-path (s ∷ []) p h = h
needs-path (s ∷ (s' ∷ ss)) p h = (h.0, needs-path (s' ∷ ss) p h.1)

no_elements : {A : Type 0} (xs : List A) → length xs ≡ 0 → xs ≡ []
no_elements [] e = refl
no_elements (x ∷ xs) e = absurd (omega arith)

no_arcs : (xs : List Arc) → All (IsArc 0) xs → xs ≡ []
no_arcs [] h = refl
no_arcs (a ∷ xs) h = absurd (omega (arith, h.0.tail-below))

no_sets : (ss : List RuleSet) (n : ℕ) → (1 ≤ length ss → 1 ≤ n) → n ≡ 0 → ss ≡ []
no_sets [] n counted e = refl
no_sets (s ∷ ss) n counted e = absurd (omega (arith, counted (omega arith)))

-- What has been read is the book's bytes; before the count there is nothing.
pub record SoFar (b : Book) (front : List ℕ) : Type 0 where
  pub first : b.count ≡ 0 → front ≡ []
  pub later : 1 ≤ b.count → front ≡ bytes_of b
  pub needs-proper : All (λ s. ProperNeeds s.needs) b.sets

-- needs that the rules take
abbrev Fit : (k : Option Kind) → Value k → Type 0
Fit (Some VertexCount) n = Unit
Fit (Some Kind.Arc) a = Unit
Fit (Some Kind.RuleSet) f = ProperNeeds f
Fit (Some Path) p = Unit
Fit None v = Unit

next_so_far : (k : Option Kind) (b : Book) (v : Value k) (front : List ℕ) → WellFormed b → SoFar b front → follows b.count (length b.sets) k ≡ true
    → proper_value k b v ≡ true → Fit k v → SoFar (added k b v) (front ++ written k v)
unfolding bytes_of flat_map
next_so_far (Some VertexCount) b n front w z order value needs =
    let none : b.count ≡ 0 = eqb-true b.count 0 order in
    let low : 1 ≤ n = leb-true 1 n (and-true (leb 1 n) (leb n most_vertices) value).0 in
    let arcs-none : b.arcs ≡ [] = no_arcs b.arcs (subst (λ c. All (IsArc c) b.arcs) none w.arcs-proper) in
    let sets-none : b.sets ≡ [] = no_sets b.sets b.count w.counted none in
    record {
      first = λ e. absurd (omega arith);
      later =
          λ _. ap (λ l. l ++ count_field n) (z.first none)
          ∙ ap₂ (λ xs ss. count_field n ++ flat_map arc_field xs ++ flat_map set_fields ss) (sym arcs-none) (sym sets-none);
      needs-proper = z.needs-proper;
    }
next_so_far (Some Kind.Arc) b a front w z order value needs =
    let (some, none) = and-true (not (eqb b.count 0)) (eqb (length b.sets) 0) order in
    let low : 1 ≤ b.count = not-zero b.count some in
    let sets-none : b.sets ≡ [] = no_elements b.sets (eqb-true _ 0 none) in
    let front-is = count_field b.count ++ flat_map arc_field b.arcs in
    record {
      first = λ e. absurd (omega arith);
      later = λ _. ap (λ l. l ++ arc_field a) (z.later low ∙ ap (λ ss. front-is ++ flat_map set_fields ss) sets-none ∙ append-nil front-is)
          ∙ append_assoc (count_field b.count) (flat_map arc_field b.arcs) (arc_field a)
          ∙ ap (λ l. count_field b.count ++ l) (sym (flat_snoc arc_field b.arcs a))
          ∙ sym (append-nil _)
          ∙ ap (λ ss. count_field b.count ++ flat_map arc_field (b.arcs ++ (a ∷ [])) ++ flat_map set_fields ss) (sym sets-none);
      needs-proper = z.needs-proper;
    }
next_so_far (Some Kind.RuleSet) b f front w z order value needs =
    let low : 1 ≤ b.count = not-zero b.count order in
    record {
      first = λ e. absurd (omega arith);
      later = λ _. ap (λ l. l ++ needs_field f) (z.later low)
          ∙ append_assoc (count_field b.count ++ flat_map arc_field b.arcs) (flat_map set_fields b.sets) (needs_field f)
          ∙ ap (λ l. count_field b.count ++ flat_map arc_field b.arcs ++ l)
          (ap (λ l. flat_map set_fields b.sets ++ l) (sym (append-nil (needs_field f))) ∙ sym (flat_snoc set_fields b.sets (record { needs = f; paths = [] })));
      needs-proper = all_snoc (λ s. ProperNeeds s.needs) b.sets (record { needs = f; paths = [] }) z.needs-proper needs;
    }
next_so_far (Some Path) b p front w z order value needs =
    let some : 1 ≤ length b.sets = not-zero (length b.sets) order in
    let low : 1 ≤ b.count = w.counted some in
    record {
      first = λ e. absurd (omega arith);
      later = λ _. ap (λ l. l ++ path_field p) (z.later low)
          ∙ append_assoc (count_field b.count ++ flat_map arc_field b.arcs) (flat_map set_fields b.sets) (path_field p)
          ∙ ap (λ l. count_field b.count ++ flat_map arc_field b.arcs ++ l) (sym (flat_path b.sets p some));
      needs-proper = needs-path b.sets p z.needs-proper;
    }
next_so_far None b v front w z order value needs = absurd (false≢true order)

-- ---- all fields
all_drop : {A : Type 0} (P : A → Type 0) (n : ℕ) (xs : List A) → All P xs → All P (drop n xs)
all_drop P zero xs h = h
all_drop P (suc n) [] h = tt
all_drop P (suc n) (x ∷ xs) h = all_drop P n xs h.1

fit_value : (k : Option Kind) (t : List ℕ) → AreBytes t → seasonal_value k (value_at k t 0) ≡ true → Fit k (value_at k t 0)
fit_value (Some VertexCount) t bytes season = tt
fit_value (Some Kind.Arc) t bytes season = tt
fit_value (Some Kind.RuleSet) t bytes season =
    record { flags-fit = omega (arith, byte-below t bytes 3, byte-below t bytes 4); edges = (edges-are (window_at t 0)).0 season }
fit_value (Some Path) t bytes season = tt
fit_value None t bytes season = tt

-- one more field, whose bytes are the first of t
module _ (front t : List ℕ) (bytes : AreBytes t) (b b' : Book) (w : WellFormed b) (z : SoFar b front)
    (e : field (front ++ t) b (length front) ≡ accepted b') where
  abbrev k : Option Kind
  k = kind_at t 0

  abbrev v : Value k
  v = value_at k t 0

  passed : Passed (front ++ t) b (length front)
  passed = field-passed (front ++ t) b (length front) b' e

  field-held : end_at t 0 ≤ length t
  field-held = omega (arith, passed.whole, length_moved front t, length-append front t)

  says : Told (front ++ t) b (length front) k v
  says = told (front ++ t) b (length front) k v (value_moved front t k)

  field-added : b' ≡ added k b v
  field-added =
      field_extends (front ++ t) b (length front) b' e
      ∙ ap (λ x. extended x (front ++ t) b (length front)) (kind_moved front t)
      ∙ says.adds

  field_so_far : SoFar b' (front ++ take (end_at t 0) t)
  field_so_far =
      let fit : fits k (length_at t 0) ≡ true = sym (ap₂ fits (kind_moved front t) (length_moved front t)) ∙ passed.fit in
      let order : follows b.count (length b.sets) k ≡ true = sym (ap (follows b.count (length b.sets)) (kind_moved front t)) ∙ passed.order in
      let value : proper_value k b v ≡ true =
      sym (ap (λ x. proper x (front ++ t) b (length front)) (kind_moved front t) ∙ says.value) ∙ passed.value in
      let season : seasonal_value k v ≡ true =
      sym (ap (λ x. seasonal x (front ++ t) (length front)) (kind_moved front t) ∙ says.season) ∙ passed.season in
      subst (λ c. SoFar c (front ++ take (end_at t 0) t)) (sym field-added)
      (subst (λ l. SoFar (added k b v) (front ++ l)) (sym (field-again t bytes field-held fit)) (next_so_far k b v front w z order value (fit_value k t bytes season)))

module _ (b' : Book) where
  -- from what has been read, the fields of t lead to b'
  abbrev Kept : ℕ → Type 0
  Kept turns = (front t : List ℕ) (b : Book) → length t ≤ turns → AreBytes t → WellFormed b → SoFar b front
      → fields turns (front ++ t) b (length front) ≡ accepted b' → SoFar b' (front ++ t)

  at-end : (turns : ℕ) (front : List ℕ) (b : Book) → SoFar b front → fields turns (front ++ []) b (length front) ≡ accepted b' → SoFar b' (front ++ [])
  at-end turns front b z e =
      let done : fields turns (front ++ []) b (length front) ≡ accepted b = reads-fields stop front turns (omega arith) in
      let same : b ≡ b' = cc in
      subst (λ c. SoFar c (front ++ [])) same (subst (SoFar b) (sym (append-nil front)) z)

  one_more : (turns : ℕ) → Kept turns → Kept (suc turns)
  unfolding fields
  one_more turns rest front [] b h bytes w z e = at-end (suc turns) front b z e
  one_more turns rest front (x ∷ t) b h bytes w z e =
      let s : List ℕ = front ++ (x ∷ t) in
      let n : ℕ = end_at (x ∷ t) 0 in
      let (b₁, here, q) =
      and-then-accepted (field s b (length front)) _ b' (rw (lt-ltb (length front) (length s) (omega (arith, length-append front (x ∷ t)))) at e) in
      let held = field-held front (x ∷ t) bytes b b₁ w z here in
      let front₁ : List ℕ = front ++ take n (x ∷ t) in
      let joined : front₁ ++ drop n (x ∷ t) ≡ s = append_assoc front (take n (x ∷ t)) (drop n (x ∷ t)) ∙ ap (λ l. front ++ l) (take-append-drop n (x ∷ t)) in
      let end : end_at s (length front) ≡ length front₁ =
      omega (arith, length_moved front (x ∷ t), length-append front (take n (x ∷ t)), length-take-le n (x ∷ t) held) in
      subst (SoFar b') joined
      (rest front₁ (drop n (x ∷ t)) b₁ (omega (arith, length-drop n (x ∷ t), held)) (all_drop (λ y. y < 256) n (x ∷ t) bytes)
      (field-well_formed s b (length front) b₁ w here)
      (field_so_far front (x ∷ t) bytes b b₁ w z here)
      (sym (ap₂ (λ l j. fields turns l b₁ j) (sym joined) end) ∙ q))

  fields_so_far : (turns : ℕ) → Kept turns
  fields_so_far zero front [] b h bytes w z e = at-end zero front b z e
  fields_so_far zero front (x ∷ t) b h bytes w z e = absurd (omega arith)
  fields_so_far (suc turns) front t b h bytes w z e = one_more turns (fields_so_far turns) front t b h bytes w z e

-- What is read keeps the rules, and its bytes were read.
module _ (s : List ℕ) (bytes : AreBytes s) (b : Book) (e : reading s ≡ accepted b) where
  read_so_far : SoFar b s
  unfolding reading
  read_so_far = go s bytes e
    where
      go : (s : List ℕ) → AreBytes s → reading s ≡ accepted b → SoFar b s
      go [] bytes e = absurd (let no : ◌≡◌ {A = ℕ} 0 1 = cc in omega arith)
      go (x ∷ s) bytes e =
          fields_so_far b (length (x ∷ s)) [] (x ∷ s) blank (omega arith) bytes blank-well_formed
          (record { first = λ _. refl; later = λ h. absurd (omega arith); needs-proper = tt })
          (sym (enough_turns (length (x ∷ s)) x s (omega arith)) ∙ e)

  pub read_keeps : Keeps b
  read_keeps =
      let is = reading-is-book s b e in
      record {
        some-vertex = is.some-vertex;
        few-vertices = is.well_formed.few-vertices;
        arcs-proper = is.well_formed.arcs-proper;
        pairs-once = is.well_formed.pairs-once;
        few-sets = is.well_formed.few-sets;
        needs-proper = read_so_far.needs-proper;
        few-paths = is.well_formed.few-paths;
        paths-proper = is.well_formed.paths-proper;
      }

  pub read-bytes : s ≡ bytes_of b
  read-bytes = read_so_far.later (reading-is-book s b e).some-vertex
