-- 02, order 6, proved: which numbers are taken, what is written of them, and that the order of their changeovers decides nothing of it.
use Rattle.std.specs.Prelude.{ℕ, suc, ◌≤◌, ◌<◌, ◌≡◌, refl, ◌↔◌, ◌⊎◌, map, leb, length, take, drop, Option as Maybe, Some, None, Result, Ok, Err}
use Rattle.std.proofs.Common.{sym, ap, ap₂, subst, ◌∙◌, inl, inr, arith, length-append, length-drop}
use Rattle.std.proofs.Math.Option.{Option, none, some}
use Rattle.std.proofs.Math.Seq.{take-append_seam, drop-append_seam}
use mathlib.Core.List.Permᴰ
use mathlib.Core.List.{List, [], ◌∷◌, ◌++◌, append_assoc, flat_map, Permᴰ}
use Rattle.limits.specs.Limits.{most_vertices, most_paths}
use Rattle.dates.specs.declared.Window.{Window}
use Rattle.dates.specs.Calendar.{IsWindow}
use Rattle.dates.proofs.CalendarDays.{bounds}
use Rattle.walks.specs.Graph.{Arc}
use Rattle.book.specs.declared.Needs.{Needs}
use Rattle.book.specs.declared.Refusal.{Refusal}
use Rattle.book.specs.declared.Refusal.TheVariants.{NoRoom}
use Rattle.book.specs.Refusal.{test, number_of, refusal_by}
use Rattle.book.specs.Book.{RuleSet, Book, All, IsArc, IsPath, all_paths}
use Rattle.book.specs.Reading.{Reading, accepted, refused, reading, refusal_of, count_tests}
use Rattle.book.proofs.BookLaws.{all_map, all_append, all_left, all_right}
use Rattle.book_bytes.specs.Bytes.{AreBytes, ProperNeeds, Keeps, bytes_of}
use Rattle.book_bytes.proofs.ReadsLaws.{book}
use Rattle.book_bytes.proofs.RoundTrip.{round_trip}
use Rattle.content.specs.Content.{Item, an_arc, a_set, a_path, cut, set_items, items, content}
use Rattle.writing.specs.Contents.{set_list, book_items, arc_numbers, window_numbers, path_numbers, set_numbers, SetsSaid, EndInArc, EndInSet, EndInPaths, SameButOrder}
use Rattle.writing.specs.Rising.{Rising, rising, in_order}
use Rattle.writing.specs.Writing.{bytes_in_order, write_tests, answer_by, area_by, length_written, area_after, WritingOf}
use Rattle.writing.proofs.ContentLaws.{content-keeps, content-taken}
use Rattle.writing.proofs.ItemsLaws.{arcs-listed, said→items}
use Rattle.writing.proofs.SaidLaws.{numbers-said, said-items, one-said}
use Rattle.writing.proofs.CutLaws.{arcs-cut, sets-cut, paths-cut}
use Rattle.writing.proofs.RisingLaws.{rising-is, rising-permuted, rising-same, rising-kept, short_in_order, read-in_order}
use Rattle.writing.proofs.SameContents.{reordered-accepted, reordered-refused}
use Rattle.rewriting.specs.Rewriting.{rewritten as rewrite, rewritten_as}
use Rattle.text.specs.Text.{refusal_text}
use Rattle.demands.specs.Conditions.{AllHold, FirstFails}
use Rattle.demands.proofs.Conditions.{decided, zero_one}
use Rattle.demands.specs.Fields.{count_conditions, grown, BadItem, bad_item, good_item, counted_book, BadFrom}
use Rattle.demands.proofs.Fields.{count-decides, bad_content}
use Rattle.demands.specs.Asked.{write_conditions}
use Rattle.demands.proofs.Asked.{conditions}
use Rattle.demands.specs.Demands.{Says, InRisingOrder, BookWritten, Anew}

-- ---- the contents that are taken
pub taken : (n : ℕ) (arcs sets : List ℕ) (b : Book) → (content n arcs sets ≡ accepted b) ↔ (Keeps b × Says n arcs sets b)
taken n arcs sets b = (to, from)
  where
    to : content n arcs sets ≡ accepted b → Keeps b × Says n arcs sets b
    to e = let (keeps, count, has) = content-keeps n arcs sets b e in (keeps, (count, (said-items arcs sets b).0 has))

    from : Keeps b × Says n arcs sets b → content n arcs sets ≡ accepted b
    from (keeps, (count, said)) = ap (λ m. content m arcs sets) count ∙ content-taken b arcs sets keeps (said→items arcs sets b said)

-- A book's numbers have 32 bits.
abbrev Words : List ℕ → Type 0
Words s = All (λ x. x < 4294967296) s

all-words : {A : Type 0} (P : A → Type 0) (f : A → List ℕ) → ((a : A) → P a → Words (f a)) → (xs : List A) → All P xs → Words (flat_map f xs)
unfolding flat_map
all-words P f each [] h = tt
all-words P f each (x ∷ xs) h = all_append (λ n. n < 4294967296) (f x) (flat_map f xs) (each x h.0) (all-words P f each xs h.1)

window-words : (w : Maybe Window) → ((v : Window) → w ≡ Some v → IsWindow v) → Words (window_numbers w)
window-words None edges = (omega arith, tt)
window-words (Some w) edges =
    let (first, last) = edges w refl in
    let p = bounds w.first first in
    let q = bounds w.last last in
    (omega arith, (omega (arith, p.last-day), (omega (arith, p.last-month), (omega (arith, q.last-day), (omega (arith, q.last-month), tt)))))

module _ (n : ℕ) (few : n ≤ most_vertices) where
  arc-words : (a : Arc) → IsArc n a → Words (arc_numbers a)
  arc-words a h = (omega (arith, h.tail-below), (omega (arith, h.head-below), (omega (arith, h.light), tt)))

  path-words : (p : List ℕ) → IsPath n p → Words (path_numbers p)
  path-words p h = (omega (arith, h.eight), all_map (λ v l. omega arith) p h.below)

  set-words : (s : RuleSet) → ProperNeeds s.needs → length s.paths ≤ most_paths → All (IsPath n) s.paths → Words (set_numbers s)
  set-words s needs many paths = (
    omega (arith, needs.flags-fit),
    all_append (λ x. x < 4294967296) (window_numbers s.needs.window) (length s.paths ∷ flat_map path_numbers s.paths) (window-words s.needs.window needs.edges)
        (omega arith, all-words (IsPath n) path_numbers path-words s.paths paths),
  )

  sets-words : (ss : List RuleSet) → All (λ s. ProperNeeds s.needs) ss → length (all_paths ss) ≤ most_paths → All (IsPath n) (all_paths ss) → Words (flat_map set_numbers ss)
  unfolding flat_map all_paths
  sets-words [] needs many paths = tt
  sets-words (s ∷ ss) needs many paths =
      let both = length-append s.paths (all_paths ss) in
      all_append (λ x. x < 4294967296) (set_numbers s) (flat_map set_numbers ss)
      (set-words s needs.0 (omega arith) (all_left (IsPath n) s.paths (all_paths ss) paths))
      (sets-words ss needs.1 (omega arith) (all_right (IsPath n) s.paths (all_paths ss) paths))

pub in_32_bits : (b : Book) → Keeps b → Words (flat_map arc_numbers b.arcs) × Words (flat_map set_numbers b.sets)
in_32_bits b keeps = (
  all-words (IsArc b.count) arc_numbers (arc-words b.count keeps.few-vertices) b.arcs keeps.arcs-proper,
  sets-words b.count keeps.few-vertices b.sets keeps.needs-proper keeps.few-paths keeps.paths-proper,
)

pub every_book : (b : Book) → Says b.count (flat_map arc_numbers b.arcs) (flat_map set_numbers b.sets) b
every_book b = (refl, numbers-said b)

-- ---- what a content is refused for
-- Numbers with these items are refused for the first bad one of them.
refused_for : (n : ℕ) (arcs sets : List ℕ) (xs : List Item) → items arcs sets ≡ xs → (x : Refusal) → (content n arcs sets ≡ refused x) ↔ BadFrom 1 n xs x
refused_for n arcs sets xs e x = subst (λ ys. (content n arcs sets ≡ refused x) ↔ BadFrom 1 n ys x) e (bad_content n arcs sets x)

pub whole : (n : ℕ) (arcs sets : List ℕ) (b : Book) → Says n arcs sets b → (x : Refusal) → (content n arcs sets ≡ refused x) ↔ BadFrom 1 n (book_items b) x
whole n arcs sets b says = refused_for n arcs sets (book_items b) (said→items arcs sets b says.1)

-- What follows an item that is cut is not looked at.
after-cut : (x : Refusal) (i : ℕ) (xs ys : List Item) (b : Book) → BadItem i (xs ++ (cut ∷ ys)) b x ↔ BadItem i (xs ++ (cut ∷ [])) b x
after-cut x i xs ys b = (to i xs ys [] b, to i xs [] ys b)
  where
    to : (i : ℕ) (xs ys zs : List Item) (b : Book) → BadItem i (xs ++ (cut ∷ ys)) b x → BadItem i (xs ++ (cut ∷ zs)) b x
    to i [] ys zs b (bad_item f) = bad_item f
    to i [] ys zs b (good_item h rest) = absurd h.0
    to i (y ∷ xs) ys zs b (bad_item f) = bad_item f
    to i (y ∷ xs) ys zs b (good_item h rest) = good_item h (to (suc i) xs ys zs (grown b y) rest)

pub cut_changeover : (n : ℕ) (given : List Arc) (rest sets : List ℕ) → EndInArc rest
    → (x : Refusal) → (content n (flat_map arc_numbers given ++ rest) sets ≡ refused x) ↔ BadFrom 1 n (map an_arc given ++ (cut ∷ [])) x
cut_changeover n given rest sets ends x = (λ e. to (all.0 e), λ h. all.1 (from h))
  where
    later : List Item
    later = set_items (suc (length sets)) 0 sets

    all : (content n (flat_map arc_numbers given ++ rest) sets ≡ refused x) ↔ BadFrom 1 n (map an_arc given ++ (cut ∷ later)) x
    all =
        refused_for n (flat_map arc_numbers given ++ rest) sets (map an_arc given ++ (cut ∷ later))
        (ap (λ l. l ++ later) (arcs-cut given rest ends) ∙ append_assoc (map an_arc given) (cut ∷ []) later)
        x

    to : BadFrom 1 n (map an_arc given ++ (cut ∷ later)) x → BadFrom 1 n (map an_arc given ++ (cut ∷ [])) x
    to (inl f) = inl f
    to (inr (h, bad)) = inr (h, (after-cut x 1 (map an_arc given) later (counted_book n)).0 bad)

    from : BadFrom 1 n (map an_arc given ++ (cut ∷ [])) x → BadFrom 1 n (map an_arc given ++ (cut ∷ later)) x
    from (inl f) = inl f
    from (inr (h, bad)) = inr (h, (after-cut x 1 (map an_arc given) later (counted_book n)).1 bad)

module _ (n : ℕ) (given : List Arc) (ss : List RuleSet) (front rest : List ℕ) (said : SetsSaid ss front) where
  pub cut_sheet : EndInSet rest
      → (x : Refusal) → (content n (flat_map arc_numbers given) (front ++ rest) ≡ refused x) ↔ BadFrom 1 n (map an_arc given ++ (flat_map set_list ss ++ (cut ∷ []))) x
  cut_sheet ends = refused_for n (flat_map arc_numbers given) (front ++ rest) _ (ap₂ ◌++◌ (arcs-listed given) (sets-cut ss front rest said ends))

  pub cut_run : (f : Needs) (runs : List (List ℕ)) → EndInPaths f runs rest
      → (x : Refusal)
      → (content n (flat_map arc_numbers given) (front ++ rest) ≡ refused x)
      ↔ BadFrom 1 n (map an_arc given ++ (flat_map set_list ss ++ (a_set f ∷ (map a_path runs ++ (cut ∷ []))))) x
  cut_run f runs ends = refused_for n (flat_map arc_numbers given) (front ++ rest) _ (ap₂ ◌++◌ (arcs-listed given) (paths-cut ss front rest said f runs ends))

pub one_book : (n : ℕ) (arcs sets : List ℕ) (b c : Book) → Says n arcs sets b → Says n arcs sets c → b ≡ c
one_book n arcs sets b c (count, p) (count', q) =
    let (as', ss) = one-said arcs sets b c p q in
    ap₂ (λ m l. book m l b.sets) (sym count ∙ count') as' ∙ ap (book c.count c.arcs) ss

-- ---- what is written of a content that is taken
ordered-is : (b : Book) → Keeps b → InRisingOrder b (in_order b)
ordered-is b keeps =
    record {
      count_is = refl;
      sets_are = refl;
      rising = rising-is b.arcs;
      permuted = rising-permuted b.count b.arcs keeps.few-vertices keeps.arcs-proper keeps.pairs-once;
    }

module _ (n : ℕ) (arcs sets : List ℕ) (b : Book) (e : content n arcs sets ≡ accepted b) (area : List ℕ) where
  -- by what it is refused for
  by : (o : Option Refusal) → refusal_of (accepted b) (write_tests area) ≡ o → (r : Result ℕ Refusal) (new : List ℕ) → WritingOf (content n arcs sets) area r new
      → (r ≡ answer_by o b) × (new ≡ area_by o b area)
  by o d r new w = (
    w.0 ∙ ap (λ x. length_written x area) e ∙ ap (λ y. answer_by y b) d,
    w.1 ∙ ap (λ x. area_after x area) e ∙ ap (λ y. area_by y b area) d,
  )

  filled : length (bytes_in_order b) ≤ length area → (r : Result ℕ Refusal) (new : List ℕ) → WritingOf (content n arcs sets) area r new
      → (r ≡ Ok (length (bytes_in_order b))) × (new ≡ bytes_in_order b ++ drop (length (bytes_in_order b)) area)
  filled room = by none (((conditions (accepted b)).write area).accepts.1 (b, refl, (room, tt)))

  pub written : length (bytes_in_order b) ≤ length area → (r : Result ℕ Refusal) (new : List ℕ) → WritingOf (content n arcs sets) area r new → BookWritten b area r new
  written room r new w =
      let (keeps, _, _) = content-keeps n arcs sets b e in
      let bytes = bytes_in_order b in
      let rest = drop (length bytes) area in
      let (answer, left) = filled room r new w in
      let front : take (length bytes) new ≡ bytes = ap (λ l. take (length bytes) l) left ∙ take-append_seam bytes rest in
      record {
        written = in_order b;
        ordered = ordered-is b keeps;
        answer = answer;
        bytes = front;
        untouched = ap (λ l. drop (length bytes) l) left ∙ drop-append_seam bytes rest;
        same_length = ap length left ∙ omega (arith, length-append bytes rest, length-drop (length bytes) area);
        read = ap reading front ∙ read-in_order b keeps;
        no_longer = short_in_order b keeps;
      }

  pub no_room : length area < length (bytes_in_order b) → (r : Result ℕ Refusal) (new : List ℕ) → WritingOf (content n arcs sets) area r new
      → ((x : Refusal) × (number_of x ≡ 18) × (r ≡ Err x)) × (new ≡ area)
  no_room short r new w =
      let fails : FirstFails 0 (write_conditions area b) NoRoom = inl (λ room. omega arith, (refl, refl)) in
      let (answer, left) = by (some NoRoom) ((((conditions (accepted b)).write area).refuses NoRoom).1 (inr (b, refl, fails))) r new w in
      ((NoRoom, refl, answer), left)

-- ---- the same arcs in another order
in-order-same : (b b' : Book) → b'.count ≡ b.count → b'.sets ≡ b.sets → rising b.arcs ≡ rising b'.arcs → bytes_in_order b ≡ bytes_in_order b'
in-order-same b b' count ss arcs =
    ap (λ m. bytes_of (book m (rising b.arcs) b.sets)) (sym count) ∙ ap₂ (λ l s. bytes_of (book b'.count l s)) arcs (sym ss)

-- What is answered and left of a book goes by its bytes in order.
by-bytes : (b b' : Book) → bytes_in_order b ≡ bytes_in_order b' → (area : List ℕ)
    → (length_written (accepted b) area ≡ length_written (accepted b') area) × (area_after (accepted b) area ≡ area_after (accepted b') area)
by-bytes b b' same area =
    let told = ap (λ s. refusal_by (test 18 (leb (length s) (length area)) ∷ [])) same in
    let (answers, areas) = go (refusal_of (accepted b) (write_tests area)) in
    (answers ∙ ap (λ o. answer_by o b') told, areas ∙ ap (λ o. area_by o b' area) told)
  where
    go : (o : Option Refusal) → (answer_by o b ≡ answer_by o b') × (area_by o b area ≡ area_by o b' area)
    go none = (ap (λ s. Ok (length s)) same, ap (λ s. s ++ drop (length s) area) same)
    go (some x) = (refl, refl)

pub bad_in_any_order : (n : ℕ) (arcs arcs' sets : List ℕ) → SameButOrder arcs arcs' → (x : Refusal) → content n arcs sets ≡ refused x
    → (y : Refusal) × (content n arcs' sets ≡ refused y)
bad_in_any_order n arcs arcs' sets same x e = go (content n arcs' sets) refl
  where
    back : SameButOrder arcs' arcs
    back = record { given = same.given'; given' = same.given; first = same.second; second = same.first; permuted = Permᴰ.symm same.permuted }

    go : (r : Reading) → content n arcs' sets ≡ r → (y : Refusal) × (content n arcs' sets ≡ refused y)
    go (refused y) e' = (y, e')
    go (accepted b') e' =
        let (b, taken, _, _, _, _) = reordered-accepted n arcs' arcs sets back b' e' in
        let both : accepted b ≡ refused x = sym taken ∙ e in
        zero_one (cc)

-- Where both are taken, answers and areas are the same.
taken-alike : (n : ℕ) (arcs arcs' sets : List ℕ) → SameButOrder arcs arcs' → (b : Book) → content n arcs sets ≡ accepted b → (area : List ℕ)
    → (length_written (content n arcs sets) area ≡ length_written (content n arcs' sets) area) × (area_after (content n arcs sets) area ≡ area_after (content n arcs' sets) area)
taken-alike n arcs arcs' sets same b e area =
    let (b', e', count, ss, moved, once) = reordered-accepted n arcs arcs' sets same b e in
    let (answers, areas) = by-bytes b b' (in-order-same b b' count ss (rising-same moved once)) area in (
      ap (λ y. length_written y area) e ∙ answers ∙ sym (ap (λ y. length_written y area) e'),
      ap (λ y. area_after y area) e ∙ areas ∙ sym (ap (λ y. area_after y area) e'),
    )

pub any_order_bytes : (n : ℕ) (arcs arcs' sets : List ℕ) → SameButOrder arcs arcs' → (area : List ℕ)
    → (r r' : Result ℕ Refusal) (new new' : List ℕ) → WritingOf (content n arcs sets) area r new → WritingOf (content n arcs' sets) area r' new' → new ≡ new'
any_order_bytes n arcs arcs' sets same area r r' new new' w w' = w.1 ∙ go (content n arcs sets) refl ∙ sym w'.1
  where
    go : (x : Reading) → content n arcs sets ≡ x → area_after (content n arcs sets) area ≡ area_after (content n arcs' sets) area
    go (accepted b) e = (taken-alike n arcs arcs' sets same b e area).1
    go (refused x) e =
        let (y, e') = bad_in_any_order n arcs arcs' sets same x e in
        ap (λ q. area_after q area) e ∙ sym (ap (λ q. area_after q area) e')

-- A bad count is refused with whatever changeovers and sheets.
bad-count : (n : ℕ) → (AllHold (count_conditions n) → ⊥) → (arcs arcs' sets : List ℕ) → content n arcs sets ≡ content n arcs' sets
bad-count n bad arcs arcs' sets = go (decided 0 (count_tests 0 n) (count_conditions n) (count-decides n))
  where
    go : AllHold (count_conditions n) ⊎ ((x : Refusal) × FirstFails 0 (count_conditions n) x) → content n arcs sets ≡ content n arcs' sets
    go (inl good) = absurd (bad good)
    go (inr (x, f)) = (bad_content n arcs sets x).1 (inl f) ∙ sym ((bad_content n arcs' sets x).1 (inl f))

pub any_order : (n : ℕ) (arcs arcs' sets : List ℕ) → SameButOrder arcs arcs'
    → ((c : Book) × (content n arcs [] ≡ accepted c)) ⊎ (AllHold (count_conditions n) → ⊥) → (area : List ℕ)
    → (r r' : Result ℕ Refusal) (new new' : List ℕ) → WritingOf (content n arcs sets) area r new → WritingOf (content n arcs' sets) area r' new' → r ≡ r'
any_order n arcs arcs' sets same one area r r' new new' w w' = w.0 ∙ go one (content n arcs sets) refl ∙ sym w'.0
  where
    go : ((c : Book) × (content n arcs [] ≡ accepted c)) ⊎ (AllHold (count_conditions n) → ⊥) → (x : Reading) → content n arcs sets ≡ x
        → length_written (content n arcs sets) area ≡ length_written (content n arcs' sets) area
    go (inr bad) x e = ap (λ y. length_written y area) (bad-count n bad arcs arcs' sets)
    go (inl (c, alone)) (accepted b) e = (taken-alike n arcs arcs' sets same b e area).0
    go (inl (c, alone)) (refused x) e =
        let both = e ∙ sym (reordered-refused n arcs arcs' sets same c alone x e) in
        ap (λ y. length_written y area) both

-- ---- a book that is read with rising arcs
in-order-kept : (s : List ℕ) (b : Book) → AreBytes s → reading s ≡ accepted b → Rising b.arcs → bytes_in_order b ≡ s
in-order-kept s b bytes read rises =
    let (keeps, is) = (round_trip s bytes b).0 read in
    ap (λ l. bytes_of (book b.count l b.sets)) (rising-kept b.count b.arcs keeps.few-vertices keeps.arcs-proper keeps.pairs-once rises) ∙ sym is

pub any_read : (s : List ℕ) (b : Book) → AreBytes s → reading s ≡ accepted b → Rising b.arcs → (n : ℕ) (arcs sets : List ℕ) → Says n arcs sets b
    → (area : List ℕ) → length s ≤ length area → (r : Result ℕ Refusal) (new : List ℕ) → WritingOf (content n arcs sets) area r new
    → (r ≡ Ok (length s)) × (take (length s) new ≡ s)
any_read s b bytes read rises n arcs sets says area long r new w =
    let keeps = ((round_trip s bytes b).0 read).0 in
    let same = in-order-kept s b bytes read rises in
    let (answer, left) = filled n arcs sets b ((taken n arcs sets b).1 (keeps, says)) area (omega (arith, ap length same)) r new w in (
      answer ∙ ap (λ l. Ok (length l)) same,
      ap (λ l. take (length s) l) (left ∙ ap (λ l. l ++ drop (length l) area) same) ∙ take-append_seam s (drop (length s) area),
    )

-- ---- what the program `rewrite` writes
module _ (s : List ℕ) (b : Book) (bytes : AreBytes s) (read : reading s ≡ accepted b) where
  -- the bytes of the book in rising order
  is-in-order : rewrite s ≡ bytes_in_order b
  is-in-order = ap rewritten_as read

  keeps : Keeps b
  keeps = ((round_trip s bytes b).0 read).0

  pub rewritten : Anew b (rewrite s)
  rewritten =
      record { written = in_order b; ordered = ordered-is b keeps; bytes = is-in-order; read = ap reading is-in-order ∙ read-in_order b keeps }

  pub rewritten_as_written : (n : ℕ) (arcs sets : List ℕ) → Says n arcs sets b
      → (area : List ℕ) → length (rewrite s) ≤ length area → (r : Result ℕ Refusal) (new : List ℕ) → WritingOf (content n arcs sets) area r new
      → (r ≡ Ok (length (rewrite s))) × (take (length (rewrite s)) new ≡ rewrite s)
  rewritten_as_written n arcs sets says area room r new w =
      let is-taken = (taken n arcs sets b).1 (keeps, says) in
      let (answer, left) = filled n arcs sets b is-taken area (subst (λ l. length l ≤ length area) is-in-order room) r new w in
      subst (λ l. (r ≡ Ok (length l)) × (take (length l) new ≡ l)) (sym is-in-order)
      (answer, ap (λ l. take (length (bytes_in_order b)) l) left ∙ take-append_seam (bytes_in_order b) (drop (length (bytes_in_order b)) area))

  pub rewritten_as_it_is : Rising b.arcs → rewrite s ≡ s
  rewritten_as_it_is rises = is-in-order ∙ in-order-kept s b bytes read rises

pub rewritten-refused : (s : List ℕ) (x : Refusal) → reading s ≡ refused x → rewrite s ≡ refusal_text x
rewritten-refused s x e = ap rewritten_as e
