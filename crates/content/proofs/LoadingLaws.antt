-- The laws of what specs/Loading.antt defines: one item, and from each item to the next.
use Rattle.std.specs.Prelude.{ℕ, zero, suc, ◌+◌, ◌-◌, ◌*◌, ◌/◌, ◌≤◌, ◌<◌, ◌≡◌, refl, Bool, true, false, cond, List, [], ◌∷◌, ◌++◌, eqb, leb, length, get_or, set, take, drop, Some, Result, Ok, Err}
use Rattle.std.proofs.Common.{le_refl, sym, ap, ap₂, subst, add-zero, ◌∙◌, ⊎_elim, add-one, arith, lt-ltb, le-ltb, le-leb, ltb-true, leb-true, length-append, drop_of_length-le, drop-drop, length-drop, take-suc-set}
use Rattle.std.proofs.Math.Seq.{take-suc, take_all}
use Rattle.std.proofs.lemmas.Bool.{not-true, lt-leb}
use Rattle.lists.specs.Test.{either, and-true}
use Rattle.limits.specs.Limits.{most_vertices, longest_path}
use Rattle.dates.specs.declared.Window.{Window}
use Rattle.dates.specs.Dates.{is_window, window_fits}
use Rattle.dates.proofs.CalendarLaws.{window-is}
use Rattle.dates.proofs.CalendarDays.{bounds}
use Rattle.book.specs.declared.Counts.{Counts}
use Rattle.book.specs.declared.Loaded.{Loaded}
use Rattle.book.specs.declared.Needs.{Needs}
use Rattle.book.specs.declared.Refusal.{Refusal}
use Rattle.book.specs.declared.Refusal.TheVariants.{Length, Value}
use Rattle.book.specs.Refusal.{first_failure}
use Rattle.book.specs.Book.{Book, blank, All, IsPath, WellFormed, all_paths, path_length, are_vertices}
use Rattle.book.proofs.BookLaws.{all_map, length-sets-path, blank-well_formed, count-well_formed, arc-well_formed, set-well_formed, path-well_formed, outcome-accepted, and-then-accepted, vertices-below}
use Rattle.walks.specs.Graph.{Arc}
use Rattle.book.proofs.RefusalLaws.{none→hold}
use Rattle.book.specs.BookLaws.{bare}
use Rattle.book.specs.Reading.{Reading, accepted, refused, and_then, count_tests, arc_tests, set_tests, path_tests, add_arc, add_set, with_count, with_arc, with_set, with_path}
use Rattle.book.specs.Tables.{Blank, IsLoaded, entered, owners_from, entries, AreTables, Leaves, LoadedAs, left}
use Rattle.book.proofs.Fields.{tables-well}
use Rattle.book.proofs.LoadedLaws.{leaves-accepted, leaves-refused}
use Rattle.content.specs.Content.{Item, an_arc, a_set, a_path, cut, arc_in, needs_in, path_in, item_size, next_item, to_come, whole, arc_items, set_items, items, content, item_tests, add_item, with_item, with_items}
use Rattle.content.specs.Loading.{Begun, Going, Onward}

-- ---- what an item is refused for, before the tables are asked
module _ (b : Book) (i : ℕ) where
  pub flags-refused : (f : Needs) → 65535 < f.flags → with_item b i (a_set f) ≡ refused (Value i)
  flags-refused f h = rw (le-ltb f.flags 65536 (omega arith)) refl

  pub with_flags : (f : Needs) → f.flags < 65536 → with_item b i (a_set f) ≡ with_set b i f
  with_flags f h = rw (lt-ltb f.flags 65536 h) refl

  -- no day has a number that is no byte
  pub window-refused : (f : Needs) (w : Window) → f.flags < 65536 → f.window ≡ Some w
      → (w.first.day < 256 → w.first.month < 256 → w.last.day < 256 → w.last.month < 256 → ⊥) → with_item b i (a_set f) ≡ refused (Refusal.Window i)
  window-refused f w h e no-bytes = rw (lt-ltb f.flags 65536 h, ap window_fits e, unfit) refl
    where
      unfit : is_window w ≡ false
      unfit =
          ⊎_elim
          (λ t.
          let (first, last) = (window-is w).0 t in
          let p = bounds w.first first in
          let q = bounds w.last last in
          absurd (no-bytes (omega (arith, p.last-day)) (omega (arith, p.last-month)) (omega (arith, q.last-day)) (omega (arith, q.last-month))))
          (λ t. t)
          (either (is_window w))

  pub length-refused : (p : List ℕ) → path_length (length p) ≡ false → with_item b i (a_path p) ≡ refused (Length i)
  length-refused p e = rw e refl

  pub with_length : (p : List ℕ) → path_length (length p) ≡ true → with_item b i (a_path p) ≡ with_path b i p
  with_length p e = rw e refl

  pub vertex-refused : (p : List ℕ) → b.count ≤ most_vertices → path_length (length p) ≡ true → (All (λ v. v < 256) p → ⊥)
      → with_item b i (a_path p) ≡ refused (Value i)
  vertex-refused p few e no-bytes = rw (e, foreign) refl
    where
      foreign : are_vertices b.count p ≡ false
      foreign =
          ⊎_elim (λ t. absurd (no-bytes (all_map (λ v h. omega arith) p (vertices-below b.count p t)))) (λ t. t) (either (are_vertices b.count p))

-- ---- one item stands for a book with its count, or is refused
pub refused-loaded : (x : Reading) (r : Refusal) (l : Loaded) → x ≡ refused r → LoadedAs x (left (Err r) l)
refused-loaded x r l e = rw e refl

module _ (b : Book) (i : ℕ) (l : Loaded) (begun : Begun b l) (r : Result (Unit {0}) Refusal) (l' : Loaded) where
  well : WellFormed b
  well = begun.tables.graph.well

  pub arc-loaded : (a : Arc) → Leaves AreTables (with_arc b i a) (left r l') → LoadedAs (with_item b i (an_arc a)) (left r l')
  arc-loaded a t = tables-well (with_arc b i a) formed r l' t
    where
      formed : (b' : Book) → with_arc b i a ≡ accepted b' → WellFormed b'
      formed b' e =
          let (none, is) = outcome-accepted (first_failure (arc_tests b i a)) (add_arc b a) b' e in
          let held = none→hold (arc_tests b i a) none in
          subst WellFormed (sym is) (arc-well_formed a b well held.0 (not-true _ held.1.0))

  pub set-loaded : (f : Needs) → f.flags < 65536 → Leaves AreTables (with_set b i f) (left r l') → LoadedAs (with_item b i (a_set f)) (left r l')
  set-loaded f h t = subst (λ x. LoadedAs x (left r l')) (sym (with_flags b i f h)) (tables-well (with_set b i f) formed r l' t)
    where
      formed : (b' : Book) → with_set b i f ≡ accepted b' → WellFormed b'
      formed b' e =
          let (none, is) = outcome-accepted (first_failure (set_tests b i f)) (add_set b f) b' e in
          let held = none→hold (set_tests b i f) none in
          subst WellFormed (sym is) (set-well_formed f b well begun.some-vertex (ltb-true _ _ held.1.0))

  pub path-loaded : (p : List ℕ) → 1 ≤ length b.sets → path_length (length p) ≡ true → Leaves AreTables (with_path b i p) (left r l')
      → LoadedAs (with_item b i (a_path p)) (left r l')
  path-loaded p some size t = subst (λ x. LoadedAs x (left r l')) (sym (with_length b i p size)) (tables-well (with_path b i p) formed r l' t)
    where
      formed : (b' : Book) → with_path b i p ≡ accepted b' → WellFormed b'
      formed b' e =
          let (none, is) = outcome-accepted (first_failure (path_tests b i p)) _ b' e in
          let held = none→hold (path_tests b i p) none in
          let limits = and-true (leb 2 (length p)) (leb (length p) longest_path) size in
          let proper : IsPath b.count p =
          record { two = leb-true _ _ limits.0; eight = leb-true _ _ limits.1; below = vertices-below b.count p held.0 } in
          subst WellFormed (sym is) (path-well_formed p b well some proper (ltb-true _ _ held.1.0))

-- ---- from each item to the next
items-none : (i : ℕ) (b : Book) → with_items i [] b ≡ accepted b
unfolding with_items
items-none i b = refl

items-next : (i : ℕ) (x : Item) (rest : List Item) (b : Book) → with_items i (x ∷ rest) b ≡ and_then (with_item b i x) (with_items (suc i) rest)
unfolding with_items
items-next i x rest b = refl

-- an item leaves the count
count-kept : (b : Book) (i : ℕ) (x : Item) (b' : Book) → with_item b i x ≡ accepted b' → b'.count ≡ b.count
count-kept b i x b' e = ap (λ (c : Book). c.count) (outcome-accepted (first_failure (item_tests b i x)) (add_item b x) b' e).1 ∙ kept x
  where
    kept : (x : Item) → (add_item b x).count ≡ b.count
    kept (an_arc a) = refl
    kept (a_set f) = refl
    kept (a_path p) = refl
    kept cut = refl

module _ (all : Reading) (i : ℕ) (x : Item) (rest : List Item) (l : Loaded) (g : Going all i (x ∷ rest) l) where
  pub going_on : (l' : Loaded) → LoadedAs (with_item g.so_far i x) (Ok l') → (h : Going all (i + 1) rest l') × (h.so_far ≡ add_item g.so_far x)
  going_on l' held =
      let (b, is, tables) = leaves-accepted IsLoaded (with_item g.so_far i x) l' held in
      subst (λ j. (h : Going all j rest l') × (h.so_far ≡ add_item g.so_far x)) (sym (add-one i)) (
        record {
          so_far = b;
          begun = record { tables = tables; some-vertex = omega (arith, count-kept g.so_far i x b is, g.begun.some-vertex) };
          comes_to = sym (ap (λ y. and_then y (with_items (suc i) rest)) is) ∙ sym (items-next i x rest g.so_far) ∙ g.comes_to;
        },
        (outcome-accepted (first_failure (item_tests g.so_far i x)) (add_item g.so_far x) b is).1,
      )

  pub going_off : (r : Refusal) (l' : Loaded) → LoadedAs (with_item g.so_far i x) (Err r) → LoadedAs all (left (Err r) l')
  going_off r l' held =
      refused-loaded all r l'
      (sym g.comes_to ∙ items-next i x rest g.so_far ∙ ap (λ y. and_then y (with_items (suc i) rest)) (leaves-refused IsLoaded (with_item g.so_far i x) r held))

pub as_items : {all : Reading} {i : ℕ} {xs ys : List Item} {l : Loaded} → xs ≡ ys → (g : Going all i xs l) → (h : Going all i ys l) × (h.so_far ≡ g.so_far)
as_items {all} {i} {l = l} e g = subst (λ zs. (h : Going all i zs l) × (h.so_far ≡ g.so_far)) e (g, refl)

pub going_first : (i : ℕ) (xs : List Item) (b : Book) (l : Loaded) → Begun b l → (g : Going (with_items i xs b) i xs l) × (g.so_far ≡ b)
going_first i xs b l h = (record { so_far = b; begun = h; comes_to = refl }, refl)

-- an item that is cut is refused, and nothing comes after it
pub going_cut : (all : Reading) (i : ℕ) (rest : List Item) (l : Loaded) → Going all i (cut ∷ rest) l → LoadedAs all (Err (Length i))
going_cut all i rest l g = going_off all i cut rest l g (Length i) l refl

pub going_end : (all : Reading) (i : ℕ) (l : Loaded) → Going all i [] l → LoadedAs all (Ok l)
going_end all i l g = subst (λ x. LoadedAs x (Ok l)) (sym (items-none i g.so_far) ∙ g.comes_to) g.begun.tables

-- ---- from numbers to items
-- the arcs: one more, the last, and one that is cut
arcs-first : (t : List ℕ) → 3 ≤ length t → arc_items t ≡ an_arc (arc_in t) ∷ arc_items (drop 3 t)
unfolding arc_items
arcs-first [] h = absurd (omega arith)
arcs-first (u ∷ []) h = absurd (omega arith)
arcs-first (u ∷ v ∷ []) h = absurd (omega arith)
arcs-first (u ∷ v ∷ w ∷ t) h = refl

arcs-short : (t : List ℕ) → 1 ≤ length t → length t < 3 → arc_items t ≡ cut ∷ []
unfolding arc_items
arcs-short [] h l = absurd (omega arith)
arcs-short (u ∷ []) h l = refl
arcs-short (u ∷ v ∷ []) h l = refl
arcs-short (u ∷ v ∷ w ∷ t) h l = absurd (omega arith)

pub arcs-next : (k : ℕ) (s : List ℕ) → 3 + k * 3 ≤ length s → arc_items (drop (k * 3) s) ≡ an_arc (arc_in (drop (k * 3) s)) ∷ arc_items (drop (suc k * 3) s)
arcs-next k s h =
    let next : k * 3 + 3 ≡ suc k * 3 = omega arith in
    arcs-first (drop (k * 3) s) (omega (arith, length-drop (k * 3) s))
    ∙ ap (λ t. an_arc (arc_in (drop (k * 3) s)) ∷ arc_items t) (drop-drop 3 (k * 3) s ∙ ap (λ n. drop n s) next)

pub arcs-none : (k : ℕ) (s : List ℕ) → length s ≡ k * 3 → arc_items (drop (k * 3) s) ≡ []
unfolding arc_items
arcs-none k s h = ap arc_items (drop_of_length-le s {i = k * 3} (omega arith))

pub arcs-cut : (k : ℕ) (s : List ℕ) → k * 3 < length s → length s < 3 + k * 3 → arc_items (drop (k * 3) s) ≡ cut ∷ []
arcs-cut k s h l = arcs-short (drop (k * 3) s) (omega (arith, length-drop (k * 3) s)) (omega (arith, length-drop (k * 3) s))

-- the rule sets and their paths
pub sets-none : (turns : ℕ) (s : List ℕ) → length s ≡ 0 → set_items turns 0 s ≡ []
unfolding set_items
sets-none zero s e = refl
sets-none (suc t) [] e = refl
sets-none (suc t) (x ∷ s) e = absurd (omega arith)

pub sets-next : (turns more : ℕ) (s : List ℕ) → (more ≡ 0 → 1 ≤ length s) → suc (length s) ≤ turns
    → (t : ℕ) × (turns ≡ suc t) × (set_items turns more s ≡ whole (item_size more s) s (next_item more s) (set_items t (to_come more s) (drop (item_size more s) s)))
unfolding set_items
sets-next zero more s some enough = absurd (omega arith)
sets-next (suc t) zero [] some enough = absurd (omega (arith, some refl))
sets-next (suc t) zero (x ∷ s) some enough = (t, refl, refl)
sets-next (suc t) (suc m) s some enough = (t, refl, refl)

-- every item takes a number
pub size-some : (more : ℕ) (s : List ℕ) → 1 ≤ item_size more s
size-some zero s = go (eqb (get_or s 1 0) 0)
  where
    go : (x : Bool) → 1 ≤ cond x 3 7
    go true = omega arith
    go false = omega arith
size-some (suc m) s = omega arith

-- an item that is there, and one that is cut
pub is-whole : (size : ℕ) (s : List ℕ) (x : Item) (rest : List Item) → size ≤ length s → whole size s x rest ≡ x ∷ rest
is-whole size s x rest h = rw (le-leb size (length s) h) refl

pub is-cut : (size : ℕ) (s : List ℕ) (x : Item) (rest : List Item) → length s < size → whole size s x rest ≡ cut ∷ []
is-cut size s x rest h = rw (lt-leb size (length s) h) refl

-- ---- a path's vertices, copied one by one
pub one-copied : (p bytes : List ℕ) (j : ℕ) → j < length p → j < length bytes → take j bytes ≡ take j p
    → take (j + 1) (set bytes j (get_or p j 0)) ≡ take (j + 1) p
one-copied p bytes j h room same =
    ap (λ n. take n (set bytes j (get_or p j 0))) (add-one j)
    ∙ take-suc-set bytes j (get_or p j 0) room
    ∙ ap (λ l. l ++ (get_or p j 0 ∷ [])) same
    ∙ sym (take-suc p j 0 h)
    ∙ ap (λ n. take n p) (sym (add-one j))

-- the numbers from one on, as the code lends them
pub lent-is : (n : ℕ) (s : List ℕ) → take (length s - n) (drop n s) ≡ drop n s
lent-is n s = take_all (length s - n) (drop n s) (omega (arith, length-drop n s))

-- ---- an arc of the numbers
module _ (all : Reading) (k : ℕ) (s : List ℕ) (l : Loaded) (g : Going all (1 + k) (arc_items (drop (k * 3) s)) l) (h : 3 + k * 3 ≤ length s)
    (a : Arc) (read : a ≡ arc_in (drop (k * 3) s)) where
  -- what its entering answers, whichever book the tables are
  abbrev Entering : Result Loaded Refusal → Type 0
  Entering r = (b : Book) → IsLoaded b l → Leaves AreTables (with_arc b (1 + k) a) r

  ready : (g' : Going all (1 + k) (an_arc a ∷ arc_items (drop (suc k * 3) s)) l) × (g'.so_far ≡ g.so_far)
  ready = as_items (arcs-next k s h ∙ ap (λ x. an_arc x ∷ arc_items (drop (suc k * 3) s)) (sym read)) g

  pub arc_off : (r : Refusal) (l' : Loaded) → Entering (Err r) → LoadedAs all (left (Err r) l')
  arc_off r l' enters =
      let (g', is) = ready in
      going_off all (1 + k) (an_arc a) (arc_items (drop (suc k * 3) s)) l g' r l'
      (arc-loaded g'.so_far (1 + k) l g'.begun (Err r) l' a (enters g'.so_far g'.begun.tables))

  pub arc_on : (l' : Loaded) → Entering (Ok l')
      → (g' : Going all (1 + (k + 1)) (arc_items (drop ((k + 1) * 3) s)) l') × (length g'.so_far.arcs ≤ length g.so_far.arcs + 1)
  arc_on l' enters =
      let (g', is) = ready in
      let (g'', next) =
      going_on all (1 + k) (an_arc a) (arc_items (drop (suc k * 3) s)) l g' l' (arc-loaded g'.so_far (1 + k) l g'.begun (Ok tt) l' a (enters g'.so_far g'.begun.tables)) in
      let index : 1 + k + 1 ≡ 1 + (k + 1) = omega arith in
      let rest : suc k ≡ k + 1 = omega arith in
      let more : length g''.so_far.arcs ≤ length g.so_far.arcs + 1 =
      omega (arith, ap (λ (b : Book). length b.arcs) next, ap (λ (b : Book). length b.arcs) is, length-append g'.so_far.arcs (a ∷ [])) in
      subst (λ n. (x : Going all n (arc_items (drop ((k + 1) * 3) s)) l') × (length x.so_far.arcs ≤ length g.so_far.arcs + 1)) index
      (subst (λ m. (x : Going all (1 + k + 1) (arc_items (drop (m * 3) s)) l') × (length x.so_far.arcs ≤ length g.so_far.arcs + 1)) rest (g'', more))

-- ---- a rule set or a path of the numbers
module _ (all : Reading) (i more : ℕ) (s : List ℕ) (l : Loaded) (o : Onward all i l more s) (some : more ≡ 0 → 1 ≤ length s) where
  abbrev After : ℕ → List Item
  After t = set_items t (to_come more s) (drop (item_size more s) s)

  pub set_cut : length s < item_size more s → LoadedAs all (Err (Length i))
  set_cut short =
      let (turns, enough, g, _) = o in
      let (t, _, turn) = sets-next turns more s some enough in
      let (g', _) = as_items (turn ∙ is-cut (item_size more s) s (next_item more s) (After t) short) g in
      going_cut all i [] l g'

  module _ (held : item_size more s ≤ length s) where
    pub set_off : (r : Refusal) (l' : Loaded) → ((b : Book) → Begun b l → (1 ≤ more → 1 ≤ length b.sets) → with_item b i (next_item more s) ≡ refused r)
        → LoadedAs all (left (Err r) l')
    set_off r l' refuses =
        let (turns, enough, g, some-set) = o in
        let (t, _, turn) = sets-next turns more s some enough in
        let (g', is) = as_items (turn ∙ is-whole (item_size more s) s (next_item more s) (After t) held) g in
        let e = ap (λ b. with_item b i (next_item more s)) is ∙ refuses g.so_far g.begun some-set in
        going_off all i (next_item more s) (After t) l g' r l' (rw e refl)

    pub set_on : (l' : Loaded) → ((b : Book) → Begun b l → (1 ≤ more → 1 ≤ length b.sets) → LoadedAs (with_item b i (next_item more s)) (Ok l'))
        → Onward all (i + 1) l' (to_come more s) (drop (item_size more s) s)
    set_on l' taken =
        let (turns, enough, g, some-set) = o in
        let (t, used, turn) = sets-next turns more s some enough in
        let (g', is) = as_items (turn ∙ is-whole (item_size more s) s (next_item more s) (After t) held) g in
        let (g'', next) =
        going_on all i (next_item more s) (After t) l g' l'
        (subst (λ b. LoadedAs (with_item b i (next_item more s)) (Ok l')) (sym is) (taken g.so_far g.begun some-set)) in (
          t,
          omega (arith, enough, used, length-drop (item_size more s) s, size-some more s, held),
          g'',
          λ _. subst (λ (b : Book). 1 ≤ length b.sets) (sym (next ∙ ap (λ b. add_item b (next_item more s)) is)) (has-set more g.so_far some-set),
        )
      where
        has-set : (m : ℕ) (b : Book) → (1 ≤ m → 1 ≤ length b.sets) → 1 ≤ length (add_item b (next_item m s)).sets
        has-set zero b h = omega (arith, length-append b.sets (bare (needs_in s)))
        has-set (suc m) b h = omega (arith, h (omega arith), length-sets-path (path_in s) b.sets)

pub set_first : (i : ℕ) (s : List ℕ) (b : Book) (l : Loaded) → Begun b l → Onward (with_items i (set_items (suc (length s)) 0 s) b) i l 0 s
set_first i s b l h =
    let (g, is) = going_first i (set_items (suc (length s)) 0 s) b l h in
    (suc (length s), le_refl (suc (length s)), g, λ some. absurd (omega (arith, some)))

pub set_same : {all : Reading} {i : ℕ} {l : Loaded} {n m : ℕ} {s t : List ℕ} → n ≡ m → s ≡ t → Onward all i l m t → Onward all i l n s
set_same {all} {i} {l} {n} {m} {s} {t} e d o = subst (λ k. Onward all i l k s) (sym e) (subst (λ r. Onward all i l m r) (sym d) o)

pub set_last : (all : Reading) (i more : ℕ) (s : List ℕ) (l : Loaded) → Onward all i l more s → more ≡ 0 → length s ≡ 0 → LoadedAs all (Ok l)
set_last all i more s l o none done =
    let (turns, _, g, _) = o in
    let (g', _) = as_items (ap (λ m. set_items turns m s) none ∙ sets-none turns s done) g in
    going_end all i l g'

-- ---- the whole content
pub items-append : (i : ℕ) (xs ys : List Item) (b c : Book) → with_items i xs b ≡ accepted c → with_items i (xs ++ ys) b ≡ with_items (i + length xs) ys c
unfolding with_items
items-append i [] ys b c e = let same : b ≡ c = cc in ap₂ (λ j d. with_items j ys d) (sym (add-zero i)) same
items-append i (x ∷ xs) ys b c e =
    let (b', here, rest) = and-then-accepted (with_item b i x) (with_items (suc i) xs) c e in
    let index : suc i + length xs ≡ i + suc (length xs) = omega arith in
    ap (λ y. and_then y (with_items (suc i) (xs ++ ys))) here ∙ items-append (suc i) xs ys b' c rest ∙ ap (λ j. with_items j ys c) index

pub items-refused : (i : ℕ) (xs ys : List Item) (b : Book) (r : Refusal) → with_items i xs b ≡ refused r → with_items i (xs ++ ys) b ≡ refused r
unfolding with_items
items-refused i [] ys b r e = absurd (cc)
items-refused i (x ∷ xs) ys b r e = go (with_item b i x) e (items-refused (suc i) xs ys)
  where
    go : (y : Reading) → and_then y (with_items (suc i) xs) ≡ refused r
        → ((c : Book) (q : Refusal) → with_items (suc i) xs c ≡ refused q → with_items (suc i) (xs ++ ys) c ≡ refused q)
        → and_then y (with_items (suc i) (xs ++ ys)) ≡ refused r
    go (accepted c) q later = later c r q
    go (refused q) p later = p

pub arcs-counted : (i : ℕ) (s : List ℕ) (b c : Book) → with_items i (arc_items s) b ≡ accepted c → length (arc_items s) ≡ length s / 3
unfolding arc_items with_items
arcs-counted i [] b c e = refl
arcs-counted i (u ∷ []) b c e = absurd (cc)
arcs-counted i (u ∷ v ∷ []) b c e = absurd (cc)
arcs-counted i (u ∷ v ∷ w ∷ s) b c e =
    let (b', _, rest) = and-then-accepted (with_item b i (an_arc (arc_in (u ∷ v ∷ w ∷ s)))) (with_items (suc i) (arc_items s)) c e in
    omega (arith, arcs-counted (suc i) s b' c rest)

-- nothing taken yet
pub blank-loaded : (l : Loaded) → Blank l → IsLoaded blank l
unfolding all_paths entered owners_from entries
blank-loaded l clean =
    record {
      counted = clean.nothing_counted;
      graph = record { well = blank-well_formed; vertices_are = ap (λ (c : Counts). c.vertices) clean.nothing_counted; weights_are = clean.no_arcs };
      sets =
          record {
            well = blank-well_formed;
            counted = ap (λ (c : Counts). c.paths) clean.nothing_counted;
            needs_are = clean.no_needs;
            owners_are = clean.no_owners;
            paths_are = clean.no_paths;
          };
    }

-- the count: a book that has it, or its refusal
module _ (n : ℕ) (l : Loaded) (nothing : Blank l) where
  pub count-begun : (l' : Loaded) → ((b : Book) → IsLoaded b l → Leaves AreTables (with_count b 0 n) (Ok l'))
      → (b : Book) × (with_count blank 0 n ≡ accepted b) × Begun b l' × (b.arcs ≡ [])
  count-begun l' takes =
      let (b, e, tables) = leaves-accepted IsLoaded (with_count blank 0 n) l' (tables-well (with_count blank 0 n) formed (Ok tt) l' (takes blank (blank-loaded l nothing))) in
      let (is, low, _) = held b e in
      (b, e, record { tables = tables; some-vertex = omega (arith, low, ap (λ (c : Book). c.count) is) }, ap (λ (c : Book). c.arcs) is)
    where
      held : (b : Book) → with_count blank 0 n ≡ accepted b → (b ≡ record { count = n; arcs = []; sets = [] }) × (1 ≤ n) × (n ≤ most_vertices)
      held b e =
          let (none, is) = outcome-accepted (first_failure (count_tests 0 n)) (record { count = n; arcs = []; sets = [] }) b e in
          let limits = and-true (leb 1 n) (leb n most_vertices) (none→hold (count_tests 0 n) none).0 in
          (is, leb-true _ _ limits.0, leb-true _ _ limits.1)

      formed : (b : Book) → with_count blank 0 n ≡ accepted b → WellFormed b
      formed b e =
          let (is, low, high) = held b e in
          subst WellFormed (sym is) (count-well_formed n blank blank-well_formed refl low high)

  pub count-refused : (arcs sets : List ℕ) (r : Refusal) → ((b : Book) → IsLoaded b l → Leaves AreTables (with_count b 0 n) (Err r)) → LoadedAs (content n arcs sets) (Err r)
  count-refused arcs sets r refuses =
      let e = ap (λ x. and_then x (with_items 1 (items arcs sets))) (leaves-refused AreTables (with_count blank 0 n) r (refuses blank (blank-loaded l nothing))) in
      rw e refl

module _ (n : ℕ) (arcs sets : List ℕ) (b : Book) (e : with_count blank 0 n ≡ accepted b) where
  after-count : content n arcs sets ≡ with_items 1 (items arcs sets) b
  after-count = ap (λ x. and_then x (with_items 1 (items arcs sets))) e

  pub content-arcs : (r : Refusal) → LoadedAs (with_items 1 (arc_items arcs) b) (Err r) → LoadedAs (content n arcs sets) (Err r)
  content-arcs r held =
      let refuses = after-count ∙ items-refused 1 (arc_items arcs) _ b r (leaves-refused IsLoaded (with_items 1 (arc_items arcs) b) r held) in
      rw refuses refl

  pub content-sets : (c : Book) → with_items 1 (arc_items arcs) b ≡ accepted c → (r : Result Loaded Refusal)
      → LoadedAs (with_items (1 + length arcs / 3) (set_items (suc (length sets)) 0 sets) c) r → LoadedAs (content n arcs sets) r
  content-sets c d r held =
      let is = after-count ∙ items-append 1 (arc_items arcs) _ b c d ∙ ap (λ k. with_items (1 + k) (set_items (suc (length sets)) 0 sets) c) (arcs-counted 1 arcs b c d) in
      subst (λ x. LoadedAs x r) (sym is) held

-- the arcs leave a book with its count
items-count : (i : ℕ) (xs : List Item) (b c : Book) → with_items i xs b ≡ accepted c → c.count ≡ b.count
unfolding with_items
items-count i [] b c e = let same : b ≡ c = cc in ap (λ (d : Book). d.count) (sym same)
items-count i (x ∷ xs) b c e =
    let (b', here, rest) = and-then-accepted (with_item b i x) (with_items (suc i) xs) c e in
    items-count (suc i) xs b' c rest ∙ count-kept b i x b' here

pub arcs-begun : (i : ℕ) (xs : List Item) (b : Book) (l : Loaded) → 1 ≤ b.count → LoadedAs (with_items i xs b) (Ok l) → (c : Book) × (with_items i xs b ≡ accepted c) × Begun c l
arcs-begun i xs b l low held =
    let (c, e, tables) = leaves-accepted IsLoaded (with_items i xs b) l held in
    (c, e, record { tables = tables; some-vertex = omega (arith, items-count i xs b c e, low) })
