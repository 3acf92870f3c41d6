-- Laws of contents whose arcs stand in another order: the same book but for the order of its arcs, and the same refusal of a rule set or path.
use Rattle.std.specs.Prelude.{ℕ, suc, ◌+◌, ◌≡◌, refl, length}
use Rattle.std.proofs.Common.{sym, ap, ap₂, subst, ◌∙◌, arith}
use Rattle.std.proofs.lemmas.List.{length-map}
use Rattle.std.proofs.Math.Option.{Option, none, some}
use mathlib.Core.List.{List, [], ◌∷◌, append-nil, flat_map, Permᴰ}
use Rattle.walks.specs.Graph.{Arc}
use Rattle.book.specs.declared.Refusal.{Refusal}
use Rattle.book.specs.Refusal.{first_failure}
use Rattle.book.specs.Book.{RuleSet, Book, IsArc, PairsOnce}
use Rattle.book.specs.Reading.{Reading, accepted, refused, and_then, outcome, add_path, add_set}
use Rattle.book.proofs.Reordered.{all_reordered, pairs_reordered}
use Rattle.book_bytes.specs.Bytes.{Keeps}
use Rattle.book_bytes.proofs.ReadsLaws.{book}
use Rattle.content.specs.Content.{Item, an_arc, a_set, a_path, cut, arc_items, set_items, items, item_tests, with_items, content}
use Rattle.content.proofs.LoadingLaws.{items-append}
use Rattle.writing.specs.Contents.{arc_numbers, SameButOrder}
use Rattle.writing.proofs.ItemsLaws.{arcs-listed, said→items}
use Rattle.writing.proofs.ContentLaws.{InOrder, sets-in-order, content-items, content-keeps, content-taken}
use Rattle.writing.proofs.SaidLaws.{said-items, arcs-same}

-- ---- arcs in another order
as-many : {as' bs : List Arc} → Permᴰ as' bs → length as' ≡ length bs
as-many Permᴰ.nil = refl
as-many (Permᴰ.cons e d) = ap suc (as-many d)
as-many (Permᴰ.swap e f) = refl
as-many (Permᴰ.trans d e) = as-many d ∙ as-many e

module _ (n : ℕ) (arcs arcs' sets : List ℕ) (same : SameButOrder arcs arcs') where
  pub reordered-accepted : (b : Book) → content n arcs sets ≡ accepted b
      → (b' : Book) × (content n arcs' sets ≡ accepted b') × (b'.count ≡ b.count) × (b'.sets ≡ b.sets) × Permᴰ b.arcs b'.arcs × PairsOnce b.arcs
  reordered-accepted b e =
      let (k, count, has) = content-keeps n arcs sets b e in
      let said = (said-items arcs sets b).0 has in
      let first : same.given ≡ b.arcs = arcs-same same.given b.arcs (sym same.first ∙ said.arcs_are) in
      let moved : Permᴰ b.arcs same.given' = subst (λ l. Permᴰ l same.given') first same.permuted in
      let b' : Book = book b.count same.given' b.sets in
      let keeps : Keeps b' =
      record {
        some-vertex = k.some-vertex;
        few-vertices = k.few-vertices;
        arcs-proper = all_reordered (IsArc b.count) moved k.arcs-proper;
        pairs-once = pairs_reordered moved k.pairs-once;
        few-sets = k.few-sets;
        needs-proper = k.needs-proper;
        few-paths = k.few-paths;
        paths-proper = k.paths-proper;
      } in (
        b',
        ap (λ m. content m arcs' sets) count ∙ content-taken b' arcs' sets keeps (said→items arcs' sets b' (record { arcs_are = same.second; sets_are = said.sets_are })),
        refl,
        refl,
        moved,
        k.pairs-once,
      )

-- The arcs of a content alone, where they are taken; then come its rule sets and paths.
after-arcs : (n : ℕ) (arcs sets : List ℕ) (c : Book) → content n arcs [] ≡ accepted c
    → content n arcs sets ≡ with_items (1 + length (arc_items arcs)) (set_items (suc (length sets)) 0 sets) c
unfolding set_items
after-arcs n arcs sets c e =
    let (here, rest, k) = content-items n arcs [] c e in
    ap (λ (r : Reading). and_then r (with_items 1 (items arcs sets))) here
    ∙ items-append 1 (arc_items arcs) (set_items (suc (length sets)) 0 sets) (book n [] []) c
    (ap (λ xs. with_items 1 xs (book n [] [])) (sym (append-nil (arc_items arcs))) ∙ rest)

-- What a rule set or a path is refused for does not depend on the arcs.
module _ (n : ℕ) (as' bs : List Arc) (x : Refusal) where
  other-arcs : (k i : ℕ) (xs : List Item) (ss : List RuleSet) → InOrder (suc k) xs → with_items i xs (book n as' ss) ≡ refused x → with_items i xs (book n bs ss) ≡ refused x
  unfolding with_items
  other-arcs k i [] ss h e = absurd (cc)
  other-arcs k i (an_arc a ∷ xs) ss h e = absurd (let no : suc k ≡ 0 = h.0 in omega arith)
  other-arcs k i (a_set f ∷ xs) ss h e =
      go (first_failure (item_tests (book n as' ss) i (a_set f))) (other-arcs (suc k) (suc i) xs (add_set (book n as' ss) f).sets h) e
    where
      go : (o : Option Refusal) → (with_items (suc i) xs (add_set (book n as' ss) f) ≡ refused x → with_items (suc i) xs (add_set (book n bs ss) f) ≡ refused x)
          → and_then (outcome o (add_set (book n as' ss) f)) (with_items (suc i) xs) ≡ refused x
          → and_then (outcome o (add_set (book n bs ss) f)) (with_items (suc i) xs) ≡ refused x
      go none later q = later q
      go (some r) later q = q
  other-arcs k i (a_path p ∷ xs) ss h e = go (first_failure (item_tests (book n as' ss) i (a_path p))) (other-arcs k (suc i) xs (add_path ss p) h.1) e
    where
      go : (o : Option Refusal)
          → (with_items (suc i) xs (book n as' (add_path ss p)) ≡ refused x → with_items (suc i) xs (book n bs (add_path ss p)) ≡ refused x)
          → and_then (outcome o (book n as' (add_path ss p))) (with_items (suc i) xs) ≡ refused x
          → and_then (outcome o (book n bs (add_path ss p))) (with_items (suc i) xs) ≡ refused x
      go none later q = later q
      go (some r) later q = q
  other-arcs k i (cut ∷ xs) ss h e = e

as_listed : (s : List ℕ) (arcs : List Arc) → s ≡ flat_map arc_numbers arcs → length (arc_items s) ≡ length arcs
as_listed s arcs is = ap (λ l. length (arc_items l)) is ∙ ap length (arcs-listed arcs) ∙ length-map arcs an_arc

-- Where the arcs are all taken, what a rule set or a path is refused for, and its index, stay.
pub reordered-refused : (n : ℕ) (arcs arcs' sets : List ℕ) → SameButOrder arcs arcs' → (c : Book) → content n arcs [] ≡ accepted c
    → (x : Refusal) → content n arcs sets ≡ refused x → content n arcs' sets ≡ refused x
reordered-refused n arcs arcs' sets same c alone x e =
    let (c', alone', count, ss, moved, once) = reordered-accepted n arcs arcs' [] same c alone in
    let as-long : length (arc_items arcs') ≡ length (arc_items arcs) =
    as_listed arcs' same.given' same.second ∙ sym (as-many same.permuted) ∙ sym (as_listed arcs same.given same.first) in
    let later : List Item = set_items (suc (length sets)) 0 sets in
    let other =
    other-arcs c.count c.arcs c'.arcs x 0 (1 + length (arc_items arcs)) later c.sets (sets-in-order (suc (length sets)) 0 sets 1 (λ h. omega arith))
    (sym (after-arcs n arcs sets c alone) ∙ e) in
    after-arcs n arcs' sets c' alone'
    ∙ ap (λ m. with_items (1 + m) later c') as-long
    ∙ ap₂ (λ m l. with_items (1 + length (arc_items arcs)) later (book m c'.arcs l)) count ss
    ∙ other
