-- Laws: the bytes of a book that keeps the rules are read, field after field, as that book.
use Rattle.std.specs.Prelude.{ℕ, zero, suc, ◌+◌, ◌≤◌, ◌≡◌, true, cond, ◌&&◌, eqb, Option, Some, None}
use Rattle.std.proofs.Math.Path.{refl, ap, subst}
use Rattle.std.proofs.Common.{sym, ap₂, ◌∙◌, arith}
use Rattle.std.proofs.Math.Bool.{not}
use mathlib.Core.List.{List, [], ◌∷◌, ◌++◌, append_assoc, append-nil, flat_map}
use borrow.Author.Tests.{lt-ltb, le-ltb, le-leb, ne_eqb}
use Rattle.std.proofs.Math.ListN.{length, length-append}
use Rattle.limits.specs.Limits.{most_vertices, most_sets, most_paths}
use Rattle.lists.specs.Test.{and-true}
use Rattle.dates.specs.declared.Window.{Window}
use Rattle.walks.specs.Graph.{Arc}
use Rattle.book.specs.declared.Needs.{Needs}
use Rattle.book.specs.declared.Kind.{Kind}
use Rattle.book.specs.declared.Kind.TheVariants.{VertexCount, Path}
use Rattle.book.specs.Book.{RuleSet, Book, blank, All, IsArc, PairsOnce, IsPath, all_paths, path_length, are_vertices, is_path}
use Rattle.book.proofs.BookLaws.{all_left, all_right, arc-passes, not-before, IsPath→is_path}
use Rattle.book.specs.Reading.{Reading, accepted, end_at, fits, add_path, and_then, field, fields}
use Rattle.book_bytes.specs.Bytes.{two_bytes, count_field, arc_field, window_bytes, path_field, set_fields, bytes_of, ProperNeeds, Keeps}
use Rattle.book_bytes.proofs.Field.{Value, written, length-written}
use Rattle.book_bytes.proofs.Adding.{added, edges-are, Takes, end_read, field-read}

-- The bytes x take what has been read from b to b'.
pub data Reads : Book → List ℕ → Book → Type 0 where
  stop : {b : Book} → Reads b [] b
  next : {b b' : Book} {x : List ℕ} (k : Option Kind) (v : Value k) → Takes k b v → Reads (added k b v) x b' → Reads b (written k v ++ x) b'

and-then : {b b' b'' : Book} {x y : List ℕ} → Reads b x b' → Reads b' y b'' → Reads b (x ++ y) b''
and-then stop r = r
and-then {b'' = c} {y = y} (next {b = b} {x = x} k v t q) r = subst (λ l. Reads b l c) (sym (append_assoc (written k v) x y)) (next k v t (and-then q r))

pub reads-fields : {b b' : Book} {x : List ℕ} → Reads b x b' → (front : List ℕ) (turns : ℕ) → length x ≤ turns
    → fields turns (front ++ x) b (length front) ≡ accepted b'
unfolding fields
reads-fields stop front zero h = refl
reads-fields {b} stop front (suc turns) h =
    ap (λ c. cond c (and_then (field (front ++ []) b (length front)) (λ b₁. fields turns (front ++ []) b₁ (end_at (front ++ []) (length front)))) (accepted b))
    (le-ltb (length front) (length (front ++ [])) (omega (arith, length-append front [])))
reads-fields (next {x = x} k v t r) front zero h = absurd (omega (arith, length-append (written k v) x, length-written k v))
reads-fields (next {b = b} {x = x} k v t r) front (suc turns) h =
    let s : List ℕ = front ++ (written k v ++ x) in
    ap (λ c. cond c (and_then (field s b (length front)) (λ b₁. fields turns s b₁ (end_at s (length front)))) (accepted b))
    (lt-ltb (length front) (length s) (omega (arith, length-append front (written k v ++ x), length-append (written k v) x, length-written k v)))
    ∙ ap (λ (a : Reading). and_then a (λ b₁. fields turns s b₁ (end_at s (length front)))) (field-read front x b k v t)
    ∙ ap₂ (λ l e. fields turns l (added k b v) e) (sym (append_assoc front (written k v) x)) (end_read front x b k v)
    ∙ reads-fields r (front ++ written k v) turns (omega (arith, length-append (written k v) x, length-written k v))

not_none : (n : ℕ) → 1 ≤ n → not (eqb n 0) ≡ true
not_none n h = ap not (ne_eqb n 0 (omega arith))

-- ---- each part of a book
abbrev pub book : ℕ → List Arc → List RuleSet → Book
book n arcs sets = record { count = n; arcs = arcs; sets = sets }

count-read : (n : ℕ) → 1 ≤ n → n ≤ most_vertices → Reads blank (count_field n) (book n [] [])
count-read n low high =
    next (Some VertexCount) n (record { order = refl; fit = refl; value = ap₂ ◌&&◌ (le-leb 1 n low) (le-leb n most_vertices high); season = refl; once = refl; space = refl }) stop

module _ (n : ℕ) (low : 1 ≤ n) where
  arcs-read : (done todo : List Arc) → All (IsArc n) todo → PairsOnce (done ++ todo)
      → Reads (book n done []) (flat_map arc_field todo) (book n (done ++ todo) [])
  unfolding flat_map
  arcs-read done [] proper once = subst (λ l. Reads (book n done []) [] (book n l [])) (sym (append-nil done)) stop
  arcs-read done (a ∷ todo) proper once =
      let joined : (done ++ (a ∷ [])) ++ todo ≡ done ++ (a ∷ todo) = append_assoc done (a ∷ []) todo in
      next (Some Kind.Arc) a
      (record {
        order = ap (λ x. x && true) (not_none n low);
        fit = refl;
        value = arc-passes n a proper.0;
        season = refl;
        once = ap not (not-before done a todo once);
        space = refl;
      })
      (subst (λ l. Reads (book n (done ++ (a ∷ [])) []) (flat_map arc_field todo) (book n l [])) joined
      (arcs-read (done ++ (a ∷ [])) todo proper.1 (subst PairsOnce (sym joined) once)))

-- the rule sets: the last of them has the paths that were read of it
module _ (f : Needs) where
  abbrev pub with_paths : List (List ℕ) → List RuleSet
  with_paths ps = record { needs = f; paths = ps } ∷ []

  pub path-last : (done : List RuleSet) (ps : List (List ℕ)) (p : List ℕ) → add_path (done ++ with_paths ps) p ≡ done ++ with_paths (ps ++ (p ∷ []))
  unfolding add_path
  path-last [] ps p = refl
  path-last (s ∷ []) ps p = refl
  path-last (s ∷ (s' ∷ done)) ps p = ap (λ l. s ∷ l) (path-last (s' ∷ done) ps p)

pub paths_append : (ss rs : List RuleSet) → all_paths (ss ++ rs) ≡ all_paths ss ++ all_paths rs
unfolding all_paths
paths_append [] rs = refl
paths_append (s ∷ ss) rs = ap (λ l. s.paths ++ l) (paths_append ss rs) ∙ sym (append_assoc s.paths (all_paths ss) (all_paths rs))

needs-fit : (flags : ℕ) (o : Option Window) → fits (Some Kind.RuleSet) (length (two_bytes flags ++ window_bytes o)) ≡ true
needs-fit flags None = refl
needs-fit flags (Some w) = refl

module _ (n : ℕ) (arcs : List Arc) (low : 1 ≤ n) where
  paths-read : (f : Needs) (done : List RuleSet) (ps todo : List (List ℕ)) → All (IsPath n) todo → length (all_paths done) + length ps + length todo ≤ most_paths
      → Reads (book n arcs (done ++ with_paths f ps)) (flat_map path_field todo) (book n arcs (done ++ with_paths f (ps ++ todo)))
  unfolding flat_map all_paths
  paths-read f done ps [] proper few =
      subst (λ l. Reads (book n arcs (done ++ with_paths f ps)) [] (book n arcs (done ++ with_paths f l))) (sym (append-nil ps)) stop
  paths-read f done ps (p ∷ todo) proper few =
      let sets : List RuleSet = done ++ with_paths f ps in
      let (size, vertices) = and-true (path_length (length p)) (are_vertices n p) (unfold is_path in IsPath→is_path n p proper.0) in
      let so_far : length (all_paths sets) ≡ length (all_paths done) + length ps =
      ap length (paths_append done (with_paths f ps)) ∙ length-append (all_paths done) (ps ++ []) ∙ ap (λ l. length (all_paths done) + length l) (append-nil ps) in
      next (Some Path) p
      (record {
        order = not_none (length sets) (omega (arith, length-append done (with_paths f ps)));
        fit = size;
        value = vertices;
        season = refl;
        once = refl;
        space = lt-ltb (length (all_paths sets)) most_paths (omega (arith, so_far));
      })
      (subst (λ l. Reads (book n arcs l) (flat_map path_field todo) (book n arcs (done ++ with_paths f (ps ++ (p ∷ todo))))) (sym (path-last f done ps p))
      (subst (λ l. Reads (book n arcs (done ++ with_paths f (ps ++ (p ∷ [])))) (flat_map path_field todo) (book n arcs (done ++ with_paths f l))) (append_assoc ps (p ∷ []) todo)
      (paths-read f done (ps ++ (p ∷ [])) todo proper.1 (omega (arith, length-append ps (p ∷ []))))))

  sets-read : (done todo : List RuleSet) → length done + length todo ≤ most_sets → All (λ s. ProperNeeds s.needs) todo → All (IsPath n) (all_paths todo)
      → length (all_paths done) + length (all_paths todo) ≤ most_paths → Reads (book n arcs done) (flat_map set_fields todo) (book n arcs (done ++ todo))
  unfolding flat_map all_paths
  sets-read done [] few needs proper few-paths = subst (λ l. Reads (book n arcs done) [] (book n arcs l)) (sym (append-nil done)) stop
  sets-read done (s ∷ todo) few needs proper few-paths =
      let both = length-append s.paths (all_paths todo) in
      let so_far : length (all_paths (done ++ (s ∷ []))) ≡ length (all_paths done) + length s.paths =
      ap length (paths_append done (s ∷ [])) ∙ length-append (all_paths done) (s.paths ++ []) ∙ ap (λ l. length (all_paths done) + length l) (append-nil s.paths) in
      and-then
      (next (Some Kind.RuleSet) s.needs
      (record {
        order = not_none n low;
        fit = needs-fit s.needs.flags s.needs.window;
        value = refl;
        season = (edges-are s.needs.window).1 needs.0.edges;
        once = refl;
        space = lt-ltb (length done) most_sets (omega arith);
      })
      (paths-read s.needs done [] s.paths (all_left (IsPath n) s.paths (all_paths todo) proper) (omega arith)))
      (subst (λ l. Reads (book n arcs (done ++ (s ∷ []))) (flat_map set_fields todo) (book n arcs l)) (append_assoc done (s ∷ []) todo)
      (sets-read (done ++ (s ∷ [])) todo (omega (arith, length-append done (s ∷ []))) needs.1 (all_right (IsPath n) s.paths (all_paths todo) proper) (omega arith)))

pub book-reads : (b : Book) → Keeps b → Reads blank (bytes_of b) b
unfolding bytes_of all_paths
book-reads b keeps =
    and-then
    (and-then (count-read b.count keeps.some-vertex keeps.few-vertices) (arcs-read b.count keeps.some-vertex [] b.arcs keeps.arcs-proper keeps.pairs-once))
    (sets-read b.count b.arcs keeps.some-vertex [] b.sets (omega (arith, keeps.few-sets)) keeps.needs-proper keeps.paths-proper (omega (arith, keeps.few-paths)))
