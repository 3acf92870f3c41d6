-- The numbers that are looked at come to what all of them come to: before the first that is not looked at, an item is bad.
use Rattle.std.specs.Prelude.{ℕ, zero, suc, ◌+◌, ◌-◌, ◌*◌, ◌/◌, ◌≤◌, ◌<◌, ◌≡◌, refl, Bool, true, false, cond, eqb, leb, length, get_or, take, drop}
use Rattle.std.proofs.Common.{sym, ap, ap₂, subst, ◌∙◌, arith, le-leb, leb-true, ltb-true, length-append, length-take, length-drop}
use Rattle.std.proofs.Math.Seq.{take_all}
use Rattle.std.proofs.lemmas.Bool.{lt-leb, leb-false}
use Rattle.std.proofs.lemmas.List.{length-map, get_or-take, drop-take}
use mathlib.Core.List.{List, [], ◌∷◌, ◌++◌, append_assoc, append-nil}
use Rattle.limits.specs.Limits.{longest_path, most_sets, most_paths}
use Rattle.lists.specs.Test.{and-true}
use Rattle.book.specs.declared.Refusal.{Refusal}
use Rattle.book.specs.declared.Refusal.TheVariants.{Length}
use Rattle.book.specs.Refusal.{first_failure}
use Rattle.book.specs.Book.{Book, blank, all_paths, path_length}
use Rattle.book.specs.BookLaws.{paths-set}
use Rattle.book.specs.Reading.{Reading, accepted, refused, and_then, with_count}
use Rattle.book.proofs.BookLaws.{length-sets-path, paths-path, outcome-accepted, and-then-accepted}
use Rattle.book.proofs.RefusalLaws.{none→hold}
use Rattle.book_bytes.proofs.BookSize.{few-arcs}
use Rattle.content.specs.Content.{Item, an_arc, a_set, a_path, cut, arc_items, set_items, whole, set_size, paths_in, needs_in, path_size, path_in, item_tests, add_item, with_item, with_items, content, item_size, next_item, to_come}
use Rattle.content.proofs.LoadingLaws.{arcs-counted, items-append, items-refused, sets-none, is-whole, is-cut, size-some, length-refused}
use Rattle.writing.proofs.ContentLaws.{content-keeps}
use Rattle.writing.proofs.SaidLaws.{items-arcs}
use Rattle.write_cases.specs.Kept.{most_numbers}

-- ---- arcs
-- The first k of them, and the others.
arcs-front : (k : ℕ) (s : List ℕ) → k * 3 ≤ length s → arc_items s ≡ arc_items (take (k * 3) s) ++ arc_items (drop (k * 3) s)
unfolding arc_items
arcs-front zero s h = refl
arcs-front (suc k) [] h = absurd (omega arith)
arcs-front (suc k) (u ∷ []) h = absurd (omega arith)
arcs-front (suc k) (u ∷ (v ∷ [])) h = absurd (omega arith)
arcs-front (suc k) (u ∷ (v ∷ (w ∷ s))) h =
    let three : suc (suc (suc (k * 3))) ≡ suc k * 3 = omega arith in
    subst (λ n. arc_items (u ∷ (v ∷ (w ∷ s))) ≡ arc_items (take n (u ∷ (v ∷ (w ∷ s)))) ++ arc_items (drop n (u ∷ (v ∷ (w ∷ s))))) three
    (ap (λ l. an_arc (record { tail = u; head = v; weight = w }) ∷ l) (arcs-front k s (omega arith)))

module _ (n : ℕ) where
  -- what the items come to, after the count
  abbrev from_items : List Item → Reading
  from_items xs = and_then (with_count blank 0 n) (with_items 1 xs)

  still-refused : (xs ys : List Item) (r : Refusal) → from_items xs ≡ refused r → from_items (xs ++ ys) ≡ refused r
  still-refused xs ys r e = go (with_count blank 0 n) e
    where
      go : (x : Reading) → and_then x (with_items 1 xs) ≡ refused r → and_then x (with_items 1 (xs ++ ys)) ≡ refused r
      go (accepted b) e = items-refused 1 xs ys b r e
      go (refused q) e = e

  no-sets : (arcs : List ℕ) → content n arcs [] ≡ from_items (arc_items arcs)
  unfolding set_items
  no-sets arcs = ap from_items (append-nil (arc_items arcs))

  -- a book has at most 4,032
  few-taken : (arcs : List ℕ) (c : Book) → content n arcs [] ≡ accepted c → length arcs / 3 ≤ 4032
  few-taken arcs c e =
      let (keeps, _, says) = content-keeps n arcs [] c e in
      let (b, _, rest) = and-then-accepted (with_count blank 0 n) (with_items 1 (arc_items arcs)) c (sym (no-sets arcs) ∙ e) in
      omega (
        arith,
        ap length (items-arcs arcs [] c says).0,
        arcs-counted 1 arcs b c rest,
        length-map c.arcs an_arc,
        few-arcs c.count keeps.few-vertices c.arcs keeps.arcs-proper keeps.pairs-once,
      )

  arcs-enough : (k : ℕ) (arcs sets : List ℕ) → 4032 < k → content n (take (k * 3) arcs) sets ≡ content n arcs sets
  arcs-enough k arcs sets many = go (leb (length arcs) (k * 3)) refl
    where
      S : List Item
      S = set_items (suc (length sets)) 0 sets

      decided : (x : Reading) → content n (take (k * 3) arcs) [] ≡ x → k * 3 < length arcs → content n (take (k * 3) arcs) sets ≡ content n arcs sets
      decided (accepted c) e h = absurd (omega (arith, many, h, few-taken (take (k * 3) arcs) c e, length-take (k * 3) arcs))
      decided (refused r) e h =
          let front = sym (no-sets (take (k * 3) arcs)) ∙ e in
          still-refused (arc_items (take (k * 3) arcs)) S r front
          ∙ sym (still-refused (arc_items (take (k * 3) arcs)) (arc_items (drop (k * 3) arcs) ++ S) r front)
          ∙ ap from_items
          (sym (append_assoc (arc_items (take (k * 3) arcs)) (arc_items (drop (k * 3) arcs)) S) ∙ ap (λ l. l ++ S) (sym (arcs-front k arcs (omega (arith, h)))))

      go : (x : Bool) → leb (length arcs) (k * 3) ≡ x → content n (take (k * 3) arcs) sets ≡ content n arcs sets
      go true e = ap (λ l. content n l sets) (take_all (k * 3) arcs (leb-true _ _ e))
      go false e = decided (content n (take (k * 3) arcs) []) refl (leb-false _ _ e)

-- ---- rule sets
-- The first m of some numbers say the same of an item that lies within these.
module _ (m : ℕ) (s : List ℕ) where
  at-front : (i : ℕ) → i < m → get_or (take m s) i 0 ≡ get_or s i 0
  at-front i h = get_or-take m s i 0 h

  same-set-size : 2 ≤ m → set_size (take m s) ≡ set_size s
  same-set-size h = ap (λ x. cond (eqb x 0) 3 7) (at-front 1 (omega arith))

  same-size : (left : ℕ) → 2 ≤ m → item_size left (take m s) ≡ item_size left s
  same-size zero h = same-set-size h
  same-size (suc left) h = ap (λ x. 1 + x) (at-front 0 (omega arith))

  same-needs : 7 ≤ m → needs_in (take m s) ≡ needs_in s
  same-needs h =
      rw (at-front 0 (omega arith), at-front 1 (omega arith), at-front 2 (omega arith), at-front 3 (omega arith), at-front 4 (omega arith), at-front 5 (omega arith)) refl

  small-set : set_size s ≤ 7
  small-set = go (eqb (get_or s 1 0) 0)
    where
      go : (x : Bool) → cond x 3 7 ≤ 7
      go true = omega arith
      go false = omega arith

  same-paths : 7 ≤ m → paths_in (take m s) ≡ paths_in s
  same-paths h =
      ap (λ k. get_or (take m s) (k - 1) 0) (same-set-size (omega arith)) ∙ at-front (set_size s - 1) (omega (arith, h, small-set, size-some 0 s))

take-shorter : (p q : ℕ) (l : List ℕ) → p ≤ q → take p (take q l) ≡ take p l
take-shorter zero q l h = refl
take-shorter (suc p) zero l h = absurd (omega arith)
take-shorter (suc p) (suc q) [] h = refl
take-shorter (suc p) (suc q) (x ∷ l) h = ap (λ r. x ∷ r) (take-shorter p q l (omega arith))

rest-after : (k m : ℕ) (s : List ℕ) → k ≤ m → drop k (take m s) ≡ take (m - k) (drop k s)
rest-after k m s h = let sum : m ≡ k + (m - k) = omega arith in ap (λ n. drop k (take n s)) sum ∙ drop-take k (m - k) s

same-path : (m : ℕ) (s : List ℕ) → 2 ≤ m → path_size s ≤ m → path_in (take m s) ≡ path_in s
same-path m s two h =
    ap₂ take (at-front m s 0 (omega arith)) (rest-after 1 m s (omega arith)) ∙ take-shorter (get_or s 0 0) (m - 1) (drop 1 s) (omega arith)

same-item : (left m : ℕ) (s : List ℕ) → 7 ≤ m → item_size left s ≤ m → next_item left (take m s) ≡ next_item left s
same-item zero m s h size = ap a_set (same-needs m s h)
same-item (suc left) m s h size = ap a_path (same-path m s (omega arith) size)

same-to_come : (left m : ℕ) (s : List ℕ) → 7 ≤ m → to_come left (take m s) ≡ to_come left s
same-to_come zero m s h = same-paths m s h
same-to_come (suc left) m s h = refl

-- what is still to come of a book's rule sets at most: rule sets of 7 numbers, paths of 9
abbrev room : Book → ℕ
room b = (most_sets - length b.sets) * 7 + (most_paths - length (all_paths b.sets)) * 9

-- An item that is taken leaves so much less room.
item-taken : (left i : ℕ) (s : List ℕ) (b b' : Book) → (1 ≤ left → 1 ≤ length b.sets) → item_size left s ≤ length s → with_item b i (next_item left s) ≡ accepted b'
    → (room b' + item_size left s ≤ room b) × (1 ≤ length b'.sets) × (item_size left s ≤ 9)
item-taken zero i s b b' some held e =
    let (passed, is) = outcome-accepted (first_failure (item_tests b i (a_set (needs_in s)))) (add_item b (a_set (needs_in s))) b' e in
    let few = ltb-true _ _ (none→hold (item_tests b i (a_set (needs_in s))) passed).1.1.0 in
    let sets : length b'.sets ≡ length b.sets + 1 = ap (λ (c : Book). length c.sets) is ∙ length-append b.sets _ in
    let paths = ap (λ (c : Book). length (all_paths c.sets)) is ∙ ap length (paths-set (needs_in s) b.sets) in
    (omega (arith, few, sets, paths, small-set 0 s), omega (arith, sets), omega (arith, small-set 0 s))
item-taken (suc left) i s b b' some held e =
    let p = path_in s in
    let (passed, is) = outcome-accepted (first_failure (item_tests b i (a_path p))) (add_item b (a_path p)) b' e in
    let tests = none→hold (item_tests b i (a_path p)) passed in
    let (_, short) = and-true (leb 2 (length p)) (leb (length p) longest_path) tests.0 in
    let few = ltb-true _ _ tests.1.1.0 in
    let sets = ap (λ (c : Book). length c.sets) is ∙ length-sets-path p b.sets in
    let paths = ap (λ (c : Book). length (all_paths c.sets)) is ∙ ap length (paths-path p b.sets (some (omega arith))) ∙ length-append (all_paths b.sets) (p ∷ []) in
    let size : length p ≡ get_or s 0 0 = length-take (get_or s 0 0) (drop 1 s) ∙ omega (arith, length-drop 1 s, held) in
    (omega (arith, few, sets, paths, size, leb-true _ _ short), omega (arith, sets, some (omega arith)), omega (arith, size, leb-true _ _ short))

-- A path of more than 8 vertices is refused as one that is cut.
cut-refused : (i : ℕ) (b : Book) → with_items i (cut ∷ []) b ≡ refused (Length i)
unfolding with_items
cut-refused i b = refl

long-refused : (left i : ℕ) (s : List ℕ) (rest : List Item) (b : Book) → 9 < item_size left s
    → with_items i (whole (item_size left s) s (next_item left s) rest) b ≡ refused (Length i)
unfolding with_items
long-refused zero i s rest b long = absurd (omega (arith, long, small-set 0 s))
long-refused (suc left) i s rest b long = go (leb (path_size s) (length s)) refl
  where
    go : (x : Bool) → leb (path_size s) (length s) ≡ x → with_items i (cond x (a_path (path_in s) ∷ rest) (cut ∷ [])) b ≡ refused (Length i)
    go true held =
        let size : length (path_in s) ≡ get_or s 0 0 = length-take (get_or s 0 0) (drop 1 s) ∙ omega (arith, length-drop 1 s, leb-true _ _ held) in
        let two = le-leb 2 (length (path_in s)) (omega (arith, size, long)) in
        let nine = lt-leb (length (path_in s)) longest_path (omega (arith, size, long)) in
        let improper : path_length (length (path_in s)) ≡ false = rw (two, nine) refl in
        ap (λ x. and_then x (with_items (suc i) rest)) (length-refused b i (path_in s) improper)
    go false ends = refl

-- one item, where there is one
set-step : (turns left : ℕ) (s : List ℕ) → (left ≡ 0 → 1 ≤ length s)
    → set_items (suc turns) left s ≡ whole (item_size left s) s (next_item left s) (set_items turns (to_come left s) (drop (item_size left s) s))
unfolding set_items
set-step turns zero [] some = absurd (omega (arith, some refl))
set-step turns zero (x ∷ s) some = refl
set-step turns (suc left) s some = refl

-- The numbers s and the first m of them, after a book that leaves room for less.
abbrev Same : ℕ → ℕ → Type 0
Same turns turns' =
    (left i m : ℕ) (s : List ℕ) (b : Book) → (1 ≤ left → 1 ≤ length b.sets) → room b + 9 ≤ m → length s < turns → length (take m s) < turns'
    → with_items i (set_items turns' left (take m s)) b ≡ with_items i (set_items turns left s) b

module _ (t t' : ℕ) (later : Same t t') (left i m : ℕ) (s : List ℕ) (b : Book) (some : left ≡ 0 → 1 ≤ length s) (some-set : 1 ≤ left → 1 ≤ length b.sets)
    (enough : room b + 9 ≤ m) (turns : length s < suc t) (turns' : length (take m s) < suc t') where
  abbrev rest : List Item
  rest = set_items t (to_come left s) (drop (item_size left s) s)

  abbrev rest' : List Item
  rest' = set_items t' (to_come left s) (take (m - item_size left s) (drop (item_size left s) s))

  rest-same : item_size left s ≤ m → item_size left s ≤ length s → (b' : Book) → with_item b i (next_item left s) ≡ accepted b'
      → with_items (suc i) rest' b' ≡ with_items (suc i) rest b'
  rest-same fits held b' e =
      let (less, has-set, small) = item-taken left i s b b' some-set held e in
      later (to_come left s) (suc i) (m - item_size left s) (drop (item_size left s) s) b' (λ _. has-set) (omega (arith, less, enough, fits))
      (omega (arith, turns, length-drop (item_size left s) s, size-some left s, held))
      (omega (
        arith,
        turns',
        length-take m s,
        length-take (m - item_size left s) (drop (item_size left s) s),
        length-drop (item_size left s) s,
        size-some left s,
        held,
        fits,
      ))

  taken-same : item_size left s ≤ m → item_size left s ≤ length s → with_items i (next_item left s ∷ rest') b ≡ with_items i (next_item left s ∷ rest) b
  unfolding with_items
  taken-same fits held = go (with_item b i (next_item left s)) refl
    where
      go : (x : Reading) → with_item b i (next_item left s) ≡ x → and_then x (with_items (suc i) rest') ≡ and_then x (with_items (suc i) rest)
      go (accepted b') e = rest-same fits held b' e
      go (refused r) e = refl

  some-first : left ≡ 0 → 1 ≤ length (take m s)
  some-first none-left = omega (arith, some none-left, enough, length-take m s)

  all-step : with_items i (set_items (suc t) left s) b ≡ with_items i (whole (item_size left s) s (next_item left s) rest) b
  all-step = ap (λ l. with_items i l b) (set-step t left s some)

  first-step : item_size left s ≤ m
      → with_items i (set_items (suc t') left (take m s)) b ≡ with_items i (whole (item_size left s) (take m s) (next_item left s) rest') b
  first-step fits =
      ap (λ l. with_items i l b)
      (set-step t' left (take m s) some-first
      ∙ ap (λ k. whole k (take m s) (next_item left (take m s)) (set_items t' (to_come left (take m s)) (drop k (take m s)))) (same-size m s left (omega (arith, enough)))
      ∙ ap (λ x. whole (item_size left s) (take m s) x (set_items t' (to_come left (take m s)) (drop (item_size left s) (take m s))))
      (same-item left m s (omega (arith, enough)) fits)
      ∙ ap₂ (λ k l. whole (item_size left s) (take m s) (next_item left s) (set_items t' k l)) (same-to_come left m s (omega (arith, enough)))
      (rest-after (item_size left s) m s fits))

  step-same : with_items i (set_items (suc t') left (take m s)) b ≡ with_items i (set_items (suc t) left s) b
  step-same = go (leb (item_size left s) m) (leb (item_size left s) (length s)) refl refl
    where
      x : Item
      x = next_item left s

      inside : item_size left s ≤ m → {l l' : List Item} → whole (item_size left s) s x rest ≡ l → whole (item_size left s) (take m s) x rest' ≡ l'
          → with_items i l' b ≡ with_items i l b → with_items i (set_items (suc t') left (take m s)) b ≡ with_items i (set_items (suc t) left s) b
      inside fits all first same =
          first-step fits ∙ ap (λ l. with_items i l b) first ∙ same ∙ sym (all-step ∙ ap (λ l. with_items i l b) all)

      go : (fits held : Bool) → leb (item_size left s) m ≡ fits → leb (item_size left s) (length s) ≡ held
          → with_items i (set_items (suc t') left (take m s)) b ≡ with_items i (set_items (suc t) left s) b
      go true true e h =
          let fits = leb-true (item_size left s) m e in
          let held = leb-true (item_size left s) (length s) h in
          inside fits (is-whole (item_size left s) s x rest held) (is-whole (item_size left s) (take m s) x rest' (omega (arith, fits, held, length-take m s)))
          (taken-same fits held)
      go true false e h =
          let fits = leb-true (item_size left s) m e in
          let short = leb-false (item_size left s) (length s) h in
          inside fits (is-cut (item_size left s) s x rest short) (is-cut (item_size left s) (take m s) x rest' (omega (arith, short, length-take m s))) refl
      go false held e h =
          let long : 9 < item_size left s = omega (arith, enough, leb-false (item_size left s) m e) in
          let longer : item_size left (take m s) ≡ item_size left s = same-size m s left (omega (arith, enough)) in
          ap (λ l. with_items i l b) (set-step t' left (take m s) some-first)
          ∙ long-refused left i (take m s) _ b (omega (arith, long, longer))
          ∙ sym (all-step ∙ long-refused left i s rest b long)

take_nil : (m : ℕ) → take {A = ℕ} m [] ≡ []
take_nil zero = refl
take_nil (suc m) = refl

sets-same : (turns turns' : ℕ) → Same turns turns'
sets-same zero turns' left i m s b some enough all first = absurd (omega (arith, all))
sets-same (suc t) zero left i m s b some enough all first = absurd (omega (arith, first))
sets-same (suc t) (suc t') zero i m [] b some enough all first =
    ap (λ l. with_items i l b) (sets-none (suc t') (take m []) (ap length (take_nil m)) ∙ sym (sets-none (suc t) [] refl))
sets-same (suc t) (suc t') zero i m (x ∷ s) b some enough all first =
    step-same t t' (sets-same t t') zero i m (x ∷ s) b (λ _. omega arith) some enough all first
sets-same (suc t) (suc t') (suc left) i m s b some enough all first =
    step-same t t' (sets-same t t') (suc left) i m s b (λ e. absurd (omega (arith, e))) some enough all first

sets-enough : (n m : ℕ) (arcs sets : List ℕ) → 2425 ≤ m → content n arcs (take m sets) ≡ content n arcs sets
sets-enough n m arcs sets many = counted (with_count blank 0 n)
  where
    S : List ℕ → List Item
    S l = set_items (suc (length l)) 0 l

    after-arcs : (b : Book) (x : Reading) → with_items 1 (arc_items arcs) b ≡ x → with_items 1 (arc_items arcs ++ S (take m sets)) b ≡ with_items 1 (arc_items arcs ++ S sets) b
    after-arcs b (accepted c) e =
        items-append 1 (arc_items arcs) (S (take m sets)) b c e
        ∙ sets-same (suc (length sets)) (suc (length (take m sets))) 0 (1 + length (arc_items arcs)) m sets c (λ h. absurd (omega (arith, h)))
        (omega (arith, many)) (omega arith) (omega arith)
        ∙ sym (items-append 1 (arc_items arcs) (S sets) b c e)
    after-arcs b (refused r) e = items-refused 1 (arc_items arcs) (S (take m sets)) b r e ∙ sym (items-refused 1 (arc_items arcs) (S sets) b r e)

    counted : (x : Reading) → and_then x (with_items 1 (arc_items arcs ++ S (take m sets))) ≡ and_then x (with_items 1 (arc_items arcs ++ S sets))
    counted (accepted b) = after-arcs b (with_items 1 (arc_items arcs) b) refl
    counted (refused r) = refl

-- ---- both
pub kept-enough : (n : ℕ) (arcs sets : List ℕ) → content n (take most_numbers arcs) (take most_numbers sets) ≡ content n arcs sets
kept-enough n arcs sets =
    arcs-enough n 4100 arcs (take most_numbers sets) (omega arith) ∙ sets-enough n most_numbers arcs sets (omega arith)
