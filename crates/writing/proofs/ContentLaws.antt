-- Laws of a content: it comes to a book exactly when the book keeps the rules and the numbers say its items.
use Rattle.std.specs.Prelude.{ℕ, zero, suc, ◌+◌, ◌≤◌, ◌≡◌, refl, Bool, true, false, cond, ◌&&◌, map, length, leb, drop}
use Rattle.std.proofs.Common.{sym, ap, ap₂, subst, ◌∙◌, arith, le-leb, leb-true, lt-ltb, ltb-true, length-append}
use Rattle.std.proofs.lemmas.Bool.{false≢true, not-true}
use Rattle.std.proofs.lemmas.List.{nil_from_length, map-append}
use Rattle.std.proofs.lemmas.Grind.{flat_map-append}
use Rattle.std.proofs.Math.Option.{none}
use mathlib.Core.List.{List, [], ◌∷◌, ◌++◌, append_assoc, append-nil, flat_map}
use Rattle.limits.specs.Limits.{longest_path, most_vertices, most_sets, most_paths}
use Rattle.lists.specs.Test.{and-true}
use Rattle.walks.specs.Graph.{Arc}
use Rattle.book.specs.declared.Needs.{Needs}
use Rattle.book.specs.Refusal.{first_failure}
use Rattle.book.specs.Book.{RuleSet, Book, blank, All, IsArc, IsPath, PairsOnce, WellFormed, all_paths, path_length, are_vertices, is_path}
use Rattle.book.specs.Reading.{Reading, accepted, and_then, outcome, with_count, count_tests, add_path}
use Rattle.book.specs.BookLaws.{bare}
use Rattle.book.proofs.BookLaws.{length-sets-path, all_snoc, all_left, all_right, vertices-below, arc-taken, not-before, IsPath→is_path, outcome-accepted, and-then-accepted, arc-well_formed, set-well_formed, path-well_formed}
use Rattle.book.proofs.RefusalLaws.{hold→none, none→hold}
use Rattle.book_bytes.specs.Bytes.{ProperNeeds, Keeps}
use Rattle.book_bytes.proofs.Adding.{edges-are}
use Rattle.book_bytes.proofs.ReadsLaws.{book, with_paths, path-last, paths_append}
use Rattle.book_bytes.proofs.Written.{needs-path}
use Rattle.content.specs.Content.{Item, an_arc, a_set, a_path, cut, arc_items, set_items, items, set_size, paths_in, needs_in, path_size, path_in, item_tests, add_item, with_item, with_items, content}
use Rattle.content.proofs.LoadingLaws.{items-append}
use Rattle.writing.specs.Contents.{set_list, book_items}

-- ---- the order of items
-- After so many rule sets: arcs before the first, paths after it; and what follows an item that is cut is not looked at.
abbrev pub InOrder : ℕ → List Item → Type 0
InOrder k [] = Unit
InOrder k (an_arc a ∷ xs) = (k ≡ 0) × InOrder k xs
InOrder k (a_set f ∷ xs) = InOrder (suc k) xs
InOrder k (a_path p ∷ xs) = (1 ≤ k) × InOrder k xs
InOrder k (cut ∷ xs) = Unit

arcs-in-order : (arcs : List ℕ) (xs : List Item) → InOrder 0 xs → InOrder 0 (arc_items arcs ++ xs)
unfolding arc_items
arcs-in-order [] xs h = h
arcs-in-order (u ∷ []) xs h = tt
arcs-in-order (u ∷ v ∷ []) xs h = tt
arcs-in-order (u ∷ v ∷ w ∷ s) xs h = (refl, arcs-in-order s xs h)

pub sets-in-order : (turns left : ℕ) (s : List ℕ) (k : ℕ) → (1 ≤ left → 1 ≤ k) → InOrder k (set_items turns left s)
unfolding set_items
sets-in-order zero left s k h = tt
sets-in-order (suc turns) zero [] k h = tt
sets-in-order (suc turns) zero (x ∷ s) k h =
    go _ (leb (set_size (x ∷ s)) (length (x ∷ s))) (sets-in-order turns (paths_in (x ∷ s)) (drop (set_size (x ∷ s)) (x ∷ s)) (suc k) (λ _. omega arith))
  where
    go : (rest : List Item) (whole : Bool) → InOrder (suc k) rest → InOrder k (cond whole (a_set (needs_in (x ∷ s)) ∷ rest) (cut ∷ []))
    go rest true r = r
    go rest false r = tt
sets-in-order (suc turns) (suc left) s k h =
    go _ (leb (path_size s) (length s)) (sets-in-order turns left (drop (path_size s) s) k (λ _. h (omega arith)))
  where
    go : (rest : List Item) (whole : Bool) → InOrder k rest → InOrder k (cond whole (a_path (path_in s) ∷ rest) (cut ∷ []))
    go rest true r = (h (omega arith), r)
    go rest false r = tt

-- ---- an item that is taken
-- The items xs, after those of b, are those of b', which keeps the rules.
pub record Taken (b : Book) (xs : List Item) (b' : Book) : Type 0 where
  pub keeps : Keeps b'
  pub count : b.count ≡ b'.count
  pub says : book_items b ++ xs ≡ book_items b'

well : (b : Book) → Keeps b → WellFormed b
well b k =
    record {
      few-vertices = k.few-vertices;
      counted = λ _. k.some-vertex;
      arcs-proper = k.arcs-proper;
      pairs-once = k.pairs-once;
      few-sets = k.few-sets;
      few-paths = k.few-paths;
      paths-proper = k.paths-proper;
    }

kept : (b : Book) → WellFormed b → 1 ≤ b.count → All (λ s. ProperNeeds s.needs) b.sets → Keeps b
kept b w low needs =
    record {
      some-vertex = low;
      few-vertices = w.few-vertices;
      arcs-proper = w.arcs-proper;
      pairs-once = w.pairs-once;
      few-sets = w.few-sets;
      needs-proper = needs;
      few-paths = w.few-paths;
      paths-proper = w.paths-proper;
    }

list-path : (ss : List RuleSet) (p : List ℕ) → 1 ≤ length ss → flat_map set_list (add_path ss p) ≡ flat_map set_list ss ++ (a_path p ∷ [])
unfolding flat_map add_path
list-path [] p h = absurd (omega arith)
list-path (s ∷ []) p h =
    append-nil _ ∙ ap (λ l. a_set s.needs ∷ l) (map-append a_path s.paths (p ∷ [])) ∙ ap (λ l. l ++ (a_path p ∷ [])) (sym (append-nil (set_list s)))
list-path (s ∷ (s' ∷ ss)) p h = ap (λ l. set_list s ++ l) (list-path (s' ∷ ss) p (omega arith)) ∙ sym (append_assoc (set_list s) _ _)

-- an item whose tests hold
item-added : (i : ℕ) (x : Item) (b : Book) → Keeps b → InOrder (length b.sets) (x ∷ []) → first_failure (item_tests b i x) ≡ none → Taken b (x ∷ []) (add_item b x)
unfolding flat_map
item-added i (an_arc a) b k place passed =
    let held = none→hold (item_tests b i (an_arc a)) passed in
    let no-sets : b.sets ≡ [] = nil_from_length b.sets place.0 in
    let arcs = map an_arc b.arcs in
    record {
      keeps = kept (add_item b (an_arc a)) (arc-well_formed a b (well b k) held.0 (not-true _ held.1.0)) k.some-vertex k.needs-proper;
      count = refl;
      says =
          ap (λ (ss : List RuleSet). arcs ++ flat_map set_list ss ++ (an_arc a ∷ [])) no-sets
          ∙ ap (λ l. l ++ (an_arc a ∷ [])) (append-nil arcs)
          ∙ sym (map-append an_arc b.arcs (a ∷ []))
          ∙ sym (append-nil _)
          ∙ ap (λ (ss : List RuleSet). map an_arc (b.arcs ++ (a ∷ [])) ++ flat_map set_list ss) (sym no-sets);
    }
item-added i (a_set f) b k place passed =
    let held = none→hold (item_tests b i (a_set f)) passed in
    record {
      keeps =
          kept (add_item b (a_set f)) (set-well_formed f b (well b k) k.some-vertex (ltb-true _ _ held.1.1.0)) k.some-vertex
          (all_snoc (λ s. ProperNeeds s.needs) b.sets _ k.needs-proper (record { flags-fit = ltb-true _ _ held.0; edges = (edges-are f.window).0 held.1.0 }));
      count = refl;
      says =
          append_assoc (map an_arc b.arcs) (flat_map set_list b.sets) (a_set f ∷ [])
          ∙ ap (λ l. map an_arc b.arcs ++ l) (sym (flat_map-append set_list b.sets (bare f)));
    }
item-added i (a_path p) b k place passed =
    let held = none→hold (item_tests b i (a_path p)) passed in
    let (low, high) = and-true (leb 2 (length p)) (leb (length p) longest_path) held.0 in
    let is : IsPath b.count p = record { two = leb-true _ _ low; eight = leb-true _ _ high; below = vertices-below b.count p held.1.0 } in
    record {
      keeps =
          kept (add_item b (a_path p)) (path-well_formed p b (well b k) place.0 is (ltb-true _ _ held.1.1.0)) k.some-vertex
          (needs-path b.sets p k.needs-proper);
      count = refl;
      says =
          append_assoc (map an_arc b.arcs) (flat_map set_list b.sets) (a_path p ∷ [])
          ∙ ap (λ l. map an_arc b.arcs ++ l) (sym (list-path b.sets p place.0));
    }
item-added i cut b k place passed = absurd (false≢true (none→hold (item_tests b i cut) passed).0)

item-taken : (i : ℕ) (x : Item) (b b' : Book) → Keeps b → InOrder (length b.sets) (x ∷ []) → with_item b i x ≡ accepted b' → Taken b (x ∷ []) b'
item-taken i x b b' k place e =
    let (passed, same) = outcome-accepted (first_failure (item_tests b i x)) (add_item b x) b' e in
    subst (Taken b (x ∷ [])) (sym same) (item-added i x b k place passed)

-- ---- items that are taken
-- The place of an item after another.
module _ (b b' : Book) where
  in-place : (x : Item) (xs : List Item) → InOrder (length b.sets) (x ∷ xs) → InOrder (length b.sets) (x ∷ [])
  in-place (an_arc a) xs h = (h.0, tt)
  in-place (a_set f) xs h = tt
  in-place (a_path p) xs h = (h.0, tt)
  in-place cut xs h = tt

  after : (i : ℕ) (x : Item) (xs : List Item) → InOrder (length b.sets) (x ∷ xs) → with_item b i x ≡ accepted b' → InOrder (length b'.sets) xs
  after i x xs h e =
      let (passed, same) = outcome-accepted (first_failure (item_tests b i x)) (add_item b x) b' e in
      subst (λ (c : Book). InOrder (length c.sets) xs) (sym same) (go x h passed)
    where
      go : (x : Item) → InOrder (length b.sets) (x ∷ xs) → first_failure (item_tests b i x) ≡ none → InOrder (length (add_item b x).sets) xs
      go (an_arc a) h passed = h.1
      go (a_set f) h passed = subst (λ k. InOrder k xs) (omega (arith, length-append b.sets (bare f))) h
      go (a_path p) h passed = subst (λ k. InOrder k xs) (sym (length-sets-path p b.sets)) h.1
      go cut h passed = absurd (false≢true (none→hold (item_tests b i cut) passed).0)

items-taken : (i : ℕ) (xs : List Item) (b b' : Book) → Keeps b → InOrder (length b.sets) xs → with_items i xs b ≡ accepted b' → Taken b xs b'
unfolding with_items
items-taken i [] b b' k h e =
    subst (Taken b []) (let same : b ≡ b' = cc in same) (record { keeps = k; count = refl; says = append-nil (book_items b) })
items-taken i (x ∷ xs) b b' k h e =
    let (b₁, here, rest) = and-then-accepted (with_item b i x) (with_items (suc i) xs) b' e in
    let first = item-taken i x b b₁ k (in-place b b₁ x xs h) here in
    let later = items-taken (suc i) xs b₁ b' first.keeps (after b b₁ i x xs h here) rest in
    record {
      keeps = later.keeps;
      count = first.count ∙ later.count;
      says = sym (append_assoc (book_items b) (x ∷ []) xs) ∙ ap (λ l. l ++ xs) first.says ∙ later.says;
    }

-- The count, before any item.
count-kept : (n : ℕ) (b : Book) → with_count blank 0 n ≡ accepted b → (b ≡ book n [] []) × Keeps (book n [] [])
unfolding all_paths
count-kept n b e =
    let (passed, same) = outcome-accepted (first_failure (count_tests 0 n)) (book n [] []) b e in
    let (low, high) = and-true (leb 1 n) (leb n most_vertices) (none→hold (count_tests 0 n) passed).0 in (
      same,
      record {
        some-vertex = leb-true _ _ low;
        few-vertices = leb-true _ _ high;
        arcs-proper = tt;
        pairs-once = tt;
        few-sets = omega arith;
        needs-proper = tt;
        few-paths = omega arith;
        paths-proper = tt;
      },
    )

-- The two parts of a content that is taken: its count, and its items from index 1 on.
pub content-items : (n : ℕ) (arcs sets : List ℕ) (b : Book) → content n arcs sets ≡ accepted b
    → (with_count blank 0 n ≡ accepted (book n [] [])) × (with_items 1 (items arcs sets) (book n [] []) ≡ accepted b) × Keeps (book n [] [])
content-items n arcs sets b e =
    let (b₁, here, rest) = and-then-accepted (with_count blank 0 n) (with_items 1 (items arcs sets)) b e in
    let (same, k) = count-kept n b₁ here in
    (here ∙ ap accepted same, sym (ap (with_items 1 (items arcs sets)) same) ∙ rest, k)

-- A content that comes to a book: the book keeps the rules, and its count and items are those that were given.
pub content-keeps : (n : ℕ) (arcs sets : List ℕ) (b : Book) → content n arcs sets ≡ accepted b → Keeps b × (n ≡ b.count) × (items arcs sets ≡ book_items b)
unfolding flat_map
content-keeps n arcs sets b e =
    let (here, rest, k) = content-items n arcs sets b e in
    let taken =
    items-taken 1 (items arcs sets) (book n [] []) b k (arcs-in-order arcs _ (sets-in-order (suc (length sets)) 0 sets 0 (λ h. absurd (omega (arith, h))))) rest in
    (taken.keeps, taken.count, taken.says)

pub content-well_formed : (n : ℕ) (arcs sets : List ℕ) (b : Book) → content n arcs sets ≡ accepted b → WellFormed b
content-well_formed n arcs sets b e = well b (content-keeps n arcs sets b e).0

-- ---- the items of a book that keeps the rules are taken
-- The items lead from b to b', wherever they stand.
record Leads (b : Book) (xs : List Item) (b' : Book) : Type 0 where
  from : (i : ℕ) → with_items i xs b ≡ accepted b'

and-then : {b b' b'' : Book} {xs ys : List Item} → Leads b xs b' → Leads b' ys b'' → Leads b (xs ++ ys) b''
and-then {b} {b'} {xs = xs} {ys = ys} r q = record { from = λ i. items-append i xs ys b b' (r.from i) ∙ q.from (i + length xs) }

next : {b b' : Book} (x : Item) {xs : List Item} → ((i : ℕ) → with_item b i x ≡ accepted (add_item b x)) → Leads (add_item b x) xs b' → Leads b (x ∷ xs) b'
unfolding with_items
next x {xs = xs} t r = record { from = λ i. ap (λ (q : Reading). and_then q (with_items (suc i) xs)) (t i) ∙ r.from (suc i) }

none-lead : {b b' : Book} → b ≡ b' → Leads b [] b'
unfolding with_items
none-lead e = record { from = λ i. ap accepted e }

module _ (n : ℕ) where
  arcs-lead : (done todo : List Arc) → All (IsArc n) todo → PairsOnce (done ++ todo) → Leads (book n done []) (map an_arc todo) (book n (done ++ todo) [])
  arcs-lead done [] proper once = none-lead (ap (λ l. book n l []) (sym (append-nil done)))
  arcs-lead done (a ∷ todo) proper once =
      let joined : (done ++ (a ∷ [])) ++ todo ≡ done ++ (a ∷ todo) = append_assoc done (a ∷ []) todo in
      next (an_arc a) (λ i. arc-taken (book n done []) i a proper.0 (not-before done a todo once))
      (subst (λ l. Leads (book n (done ++ (a ∷ [])) []) (map an_arc todo) (book n l [])) joined
      (arcs-lead (done ++ (a ∷ [])) todo proper.1 (subst PairsOnce (sym joined) once)))

paths-so-far : (f : Needs) (done : List RuleSet) (ps : List (List ℕ)) → length (all_paths (done ++ with_paths f ps)) ≡ length (all_paths done) + length ps
unfolding all_paths
paths-so-far f done ps =
    ap length (paths_append done (with_paths f ps)) ∙ length-append (all_paths done) (ps ++ []) ∙ ap (λ l. length (all_paths done) + length l) (append-nil ps)

module _ (n : ℕ) (arcs : List Arc) where
  paths-lead : (f : Needs) (done : List RuleSet) (ps todo : List (List ℕ)) → All (IsPath n) todo → length (all_paths done) + length ps + length todo ≤ most_paths
      → Leads (book n arcs (done ++ with_paths f ps)) (map a_path todo) (book n arcs (done ++ with_paths f (ps ++ todo)))
  paths-lead f done ps [] proper few = none-lead (ap (λ l. book n arcs (done ++ with_paths f l)) (sym (append-nil ps)))
  paths-lead f done ps (p ∷ todo) proper few =
      let b : Book = book n arcs (done ++ with_paths f ps) in
      let (size, vertices) = and-true (path_length (length p)) (are_vertices n p) (unfold is_path in IsPath→is_path n p proper.0) in
      next (a_path p)
      (λ i. ap (λ o. outcome o (add_item b (a_path p)))
      (hold→none (item_tests b i (a_path p)) (size, (vertices, (lt-ltb (length (all_paths (done ++ with_paths f ps))) most_paths (omega (arith, paths-so-far f done ps)), tt)))))
      (subst (λ l. Leads (book n arcs l) (map a_path todo) (book n arcs (done ++ with_paths f (ps ++ (p ∷ todo))))) (sym (path-last f done ps p))
      (subst (λ l. Leads (book n arcs (done ++ with_paths f (ps ++ (p ∷ [])))) (map a_path todo) (book n arcs (done ++ with_paths f l))) (append_assoc ps (p ∷ []) todo)
      (paths-lead f done (ps ++ (p ∷ [])) todo proper.1 (omega (arith, length-append ps (p ∷ []))))))

  sets-lead : (done todo : List RuleSet) → length done + length todo ≤ most_sets → All (λ s. ProperNeeds s.needs) todo → All (IsPath n) (all_paths todo)
      → length (all_paths done) + length (all_paths todo) ≤ most_paths → Leads (book n arcs done) (flat_map set_list todo) (book n arcs (done ++ todo))
  unfolding flat_map all_paths
  sets-lead done [] few needs proper few-paths = none-lead (ap (λ l. book n arcs l) (sym (append-nil done)))
  sets-lead done (s ∷ todo) few needs proper few-paths =
      let b : Book = book n arcs done in
      let both = length-append s.paths (all_paths todo) in
      let so_far = paths-so-far s.needs done s.paths in
      and-then
      (next (a_set s.needs)
      (λ i. ap (λ o. outcome o (add_item b (a_set s.needs)))
      (hold→none (item_tests b i (a_set s.needs)) (lt-ltb _ _ needs.0.flags-fit, ((edges-are s.needs.window).1 needs.0.edges, (lt-ltb (length done) most_sets (omega arith), tt)))))
      (paths-lead s.needs done [] s.paths (all_left (IsPath n) s.paths (all_paths todo) proper) (omega arith)))
      (subst (λ l. Leads (book n arcs (done ++ (s ∷ []))) (flat_map set_list todo) (book n arcs l)) (append_assoc done (s ∷ []) todo)
      (sets-lead (done ++ (s ∷ [])) todo (omega (arith, length-append done (s ∷ []))) needs.1 (all_right (IsPath n) s.paths (all_paths todo) proper) (omega arith)))

pub content-taken : (b : Book) (arcs sets : List ℕ) → Keeps b → items arcs sets ≡ book_items b → content b.count arcs sets ≡ accepted b
unfolding all_paths
content-taken b arcs sets k e =
    let n = b.count in
    ap (λ (r : Reading). and_then r (with_items 1 (items arcs sets)))
    (ap (λ o. outcome o (book n [] [])) (hold→none (count_tests 0 n) (ap₂ ◌&&◌ (le-leb 1 n k.some-vertex) (le-leb n most_vertices k.few-vertices), tt)))
    ∙ ap (λ xs. with_items 1 xs (book n [] [])) e
    ∙ (and-then (arcs-lead n [] b.arcs k.arcs-proper k.pairs-once)
    (sets-lead n b.arcs [] b.sets (omega (arith, k.few-sets)) k.needs-proper k.paths-proper (omega (arith, k.few-paths)))).from
    1
