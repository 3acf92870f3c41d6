-- Laws of what an input says.
use Rattle.std.specs.Prelude.{ℕ, zero, suc, ◌+◌, ◌-◌, ◌*◌, ◌≤◌, ◌<◌, ◌≡◌, refl, Bool, true, false, cond, List, [], ◌∷◌, ◌++◌, leb, length, get_or, take, drop, Some, None}
use Rattle.std.proofs.Common.{sym, ap, ap₂, ◌∙◌, arith, le-leb, leb-true, leb-false, append_assoc, append-nil, drop-drop}
use Rattle.std.proofs.lemmas.Bool.{lt-leb}
use Rattle.std.proofs.lemmas.List.{get_or-drop}
use Rattle.book.specs.Reading.{u16_at, u32_at}
use Rattle.write_cases.specs.Inputs.{held, arc_numbers, arcs_numbers, path_size, paths_size, paths_numbers, paths_count, window_size, head_size, set_size, set_numbers, sets_size, sets_numbers, sets_from, sets_count, room_from, input_size, said}
use Rattle.write_cases.specs.Kept.{most_numbers, KeptOf}

-- ---- a size that is there, and one that is not
pub is_held : (size : ℕ) (s : List ℕ) → size ≤ length s → held size s ≡ Some size
is_held size s h = rw (le-leb size (length s) h) refl

pub not_held : (size : ℕ) (s : List ℕ) → length s < size → held size s ≡ None
not_held size s h = rw (lt-leb size (length s) h) refl

some-inj : {a b : ℕ} → Some a ≡ Some b → a ≡ b
some-inj e = cc

none-some : {a : ℕ} → None ≡ Some a → ⊥
none-some e = absurd (cc)

pub held-some : (size k : ℕ) (s : List ℕ) → Some k ≡ held size s → (size ≤ length s) × (k ≡ size)
held-some size k s e = go (leb size (length s)) refl e
  where
    go : (x : Bool) → leb size (length s) ≡ x → Some k ≡ cond x (Some size) None → (size ≤ length s) × (k ≡ size)
    go true h e = (leb-true _ _ h, some-inj e)
    go false h e = absurd (none-some (sym e))

pub held-none : (size : ℕ) (s : List ℕ) → None ≡ held size s → length s < size
held-none size s e = go (leb size (length s)) refl e
  where
    go : (x : Bool) → leb size (length s) ≡ x → None ≡ cond x (Some size) None → length s < size
    go true h e = absurd (none-some e)
    go false h e = leb-false size (length s) h

-- ---- one more of several
paths-next : (n : ℕ) (s : List ℕ) → paths_size (suc n) s ≡ path_size s + paths_size n (drop (path_size s) s)
unfolding paths_size
paths-next n s = refl

-- a path has a byte at least
pub paths-some : (n : ℕ) (s : List ℕ) → n ≤ paths_size n s
unfolding paths_size
paths-some zero s = omega arith
paths-some (suc n) s = omega (arith, paths-some n (drop (path_size s) s))

sets-next : (n : ℕ) (s : List ℕ) → sets_size (suc n) s ≡ set_size s + sets_size n (drop (set_size s) s)
unfolding sets_size
sets-next n s = refl

numbers-next : (n : ℕ) (s : List ℕ) → sets_numbers (suc n) s ≡ set_numbers s ++ sets_numbers n (drop (set_size s) s)
unfolding sets_numbers
numbers-next n s = refl

arcs-next : (n : ℕ) (s : List ℕ) → arcs_numbers (suc n) s ≡ arc_numbers s ++ arcs_numbers n (drop 6 s)
unfolding arcs_numbers
arcs-next n s = refl

-- ---- the first i of n stand before byte `at`, and what is next has k bytes
one-less : (n i : ℕ) → i < n → n - i ≡ suc (n - (i + 1))
one-less n i h = omega arith

module _ (n i at k : ℕ) (s : List ℕ) (h : i < n) where
  pub paths_on : (all : ℕ) → k ≡ path_size (drop at s) → all ≡ at + paths_size (n - i) (drop at s) → all ≡ at + k + paths_size (n - (i + 1)) (drop (at + k) s)
  paths_on all is e =
      let next = ap (λ m. paths_size m (drop at s)) (one-less n i h) ∙ paths-next (n - (i + 1)) (drop at s) in
      let rest : paths_size (n - (i + 1)) (drop (path_size (drop at s)) (drop at s)) ≡ paths_size (n - (i + 1)) (drop (at + k) s) =
      ap (λ m. paths_size (n - (i + 1)) (drop m (drop at s))) (sym is) ∙ ap (paths_size (n - (i + 1))) (drop-drop k at s) in
      omega (arith, e, next, rest, is)

  pub sets_on : (all : ℕ) → k ≡ set_size (drop at s) → all ≡ at + sets_size (n - i) (drop at s) → all ≡ at + k + sets_size (n - (i + 1)) (drop (at + k) s)
  sets_on all is e =
      let next = ap (λ m. sets_size m (drop at s)) (one-less n i h) ∙ sets-next (n - (i + 1)) (drop at s) in
      let rest : sets_size (n - (i + 1)) (drop (set_size (drop at s)) (drop at s)) ≡ sets_size (n - (i + 1)) (drop (at + k) s) =
      ap (λ m. sets_size (n - (i + 1)) (drop m (drop at s))) (sym is) ∙ ap (sets_size (n - (i + 1))) (drop-drop k at s) in
      omega (arith, e, next, rest, is)

  pub numbers_on : (all before : List ℕ) → k ≡ set_size (drop at s) → all ≡ before ++ sets_numbers (n - i) (drop at s)
      → all ≡ (before ++ set_numbers (drop at s)) ++ sets_numbers (n - (i + 1)) (drop (at + k) s)
  numbers_on all before is e =
      e ∙ ap (λ m. before ++ sets_numbers m (drop at s)) (one-less n i h)
      ∙ ap (λ l. before ++ l) (numbers-next (n - (i + 1)) (drop at s))
      ∙ sym (append_assoc before (set_numbers (drop at s)) _)
      ∙ ap (λ l. (before ++ set_numbers (drop at s)) ++ sets_numbers (n - (i + 1)) l) (ap (λ m. drop m (drop at s)) (sym is) ∙ drop-drop k at s)

pub arcs_on : (n i : ℕ) (s all before : List ℕ) → i < n → all ≡ before ++ arcs_numbers (n - i) (drop (i * 6) s)
    → all ≡ (before ++ arc_numbers (drop (i * 6) s)) ++ arcs_numbers (n - (i + 1)) (drop ((i + 1) * 6) s)
arcs_on n i s all before h e =
    let next : i * 6 + 6 ≡ (i + 1) * 6 = omega arith in
    e ∙ ap (λ m. before ++ arcs_numbers m (drop (i * 6) s)) (one-less n i h)
    ∙ ap (λ l. before ++ l) (arcs-next (n - (i + 1)) (drop (i * 6) s))
    ∙ sym (append_assoc before (arc_numbers (drop (i * 6) s)) _)
    ∙ ap (λ l. (before ++ arc_numbers (drop (i * 6) s)) ++ arcs_numbers (n - (i + 1)) l) (drop-drop 6 (i * 6) s ∙ ap (λ m. drop m s) next)

-- none so far
all-left : (n : ℕ) → n ≡ n - 0
all-left n = omega arith

pub sets-first : (n : ℕ) (s : List ℕ) → sets_size n s ≡ 0 + sets_size (n - 0) s
sets-first n s = omega (arith, ap (λ m. sets_size m s) (all-left n))

pub numbers-first : (n : ℕ) (s : List ℕ) → sets_numbers n s ≡ [] ++ sets_numbers (n - 0) s
numbers-first n s = ap (λ m. sets_numbers m s) (all-left n)

pub arcs-first : (n : ℕ) (s : List ℕ) → arcs_numbers n s ≡ [] ++ arcs_numbers (n - 0) s
arcs-first n s = ap (λ m. arcs_numbers m s) (all-left n)

-- one at least is left
pub set-left : (n i : ℕ) (s : List ℕ) → i < n → set_size s ≤ sets_size (n - i) s
set-left n i s h = omega (arith, ap (λ m. sets_size m s) (one-less n i h) ∙ sets-next (n - (i + 1)) s)

-- none is left
pub paths-last : (n i : ℕ) (s : List ℕ) → n ≤ i → paths_size (n - i) s ≡ 0
unfolding paths_size
paths-last n i s h = let none : n - i ≡ 0 = omega arith in ap (λ m. paths_size m s) none

pub sets-last : (n i : ℕ) (s : List ℕ) → n ≤ i → sets_size (n - i) s ≡ 0
unfolding sets_size
sets-last n i s h = let none : n - i ≡ 0 = omega arith in ap (λ m. sets_size m s) none

pub numbers-last : (n i : ℕ) (s all before : List ℕ) → n ≤ i → all ≡ before ++ sets_numbers (n - i) s → before ≡ all
unfolding sets_numbers
numbers-last n i s all before h e =
    let none : n - i ≡ 0 = omega arith in sym (e ∙ ap (λ m. before ++ sets_numbers m s) none ∙ append-nil before)

pub arcs-last : (n i : ℕ) (s all before : List ℕ) → n ≤ i → all ≡ before ++ arcs_numbers (n - i) s → before ≡ all
unfolding arcs_numbers
arcs-last n i s all before h e =
    let none : n - i ≡ 0 = omega arith in sym (e ∙ ap (λ m. before ++ arcs_numbers m s) none ∙ append-nil before)

-- ---- an arc's numbers, where its six bytes are there
pub two_first : (s : List ℕ) → 2 ≤ length s → take 2 s ≡ get_or s 0 0 ∷ (get_or s 1 0 ∷ [])
two_first [] h = absurd (omega arith)
two_first (x ∷ []) h = absurd (omega arith)
two_first (x ∷ (y ∷ s)) h = refl

-- ---- the parts of a rule set
pub set-parts : (s : List ℕ) (head flags n size : ℕ) → head ≡ head_size s → flags ≡ u16_at s 0 → n ≡ get_or s (head - 2) 0 * 256 + get_or s (head - 1) 0
    → size ≡ paths_size n (drop head s) → flags ∷ (take (head - 2 - 2) (drop 2 s) ++ (n ∷ take (head + size - head) (drop head s))) ≡ set_numbers s
set-parts s head flags n size head-is flags-are n-is size-is =
    ap₂ (λ x l. x ∷ l) flags-are (ap₂ (λ l m. l ++ m) (ap (λ k. take k (drop 2 s)) window) (ap₂ (λ x l. x ∷ l) count paths))
  where
    window : head - 2 - 2 ≡ 1 + window_size s
    window = omega (arith, head-is)

    high : head - 2 ≡ 3 + window_size s
    high = omega (arith, head-is)

    low : head - 1 ≡ 3 + window_size s + 1
    low = omega (arith, head-is)

    count : n ≡ paths_count s
    count = n-is ∙ ap₂ (λ x y. x * 256 + y) (ap (λ i. get_or s i 0) high) (ap (λ i. get_or s i 0) low)

    taken : head + size - head ≡ paths_size (paths_count s) (drop head s)
    taken = omega (arith, size-is ∙ ap (λ m. paths_size m (drop head s)) count)

    paths : take (head + size - head) (drop head s) ≡ paths_numbers (paths_count s) (drop (head_size s) s)
    paths = ap (λ k. take k (drop head s)) taken ∙ ap (λ h. paths_numbers (paths_count s) (drop h s)) head-is

-- ---- the parts of a whole input
pub input-parts : (s : List ℕ) (n k count m vertices room : ℕ) (arcs sets : List ℕ) → vertices ≡ get_or s 0 0 → n ≡ u16_at s 1 → k ≡ n * 6
    → count ≡ get_or s (3 + k) 0 → m ≡ sets_size count (drop (3 + k + 1) s) → arcs ≡ take most_numbers (arcs_numbers n (drop 3 s))
    → sets ≡ take most_numbers (sets_numbers count (drop (3 + k + 1) s)) → room ≡ u32_at s (3 + k + 1 + m) → 3 + k + 1 + m + 4 ≤ length s
    → KeptOf (said s) vertices arcs sets room
input-parts s n k count m vertices room arcs sets v n-is k-is count-is m-is arcs-are sets-are room-is whole =
    rw (le-leb (input_size s) (length s) (omega (arith, end, whole))) (
      v,
      arcs-are ∙ ap (λ i. take most_numbers (arcs_numbers i (drop 3 s))) n-is,
      sets-are ∙ ap₂ (λ i l. take most_numbers (sets_numbers i l)) counted rest,
      room-is ∙ ap (u32_at s) end,
    )
  where
    size : k ≡ u16_at s 1 * 6
    size = k-is ∙ ap (λ i. i * 6) n-is

    counted : count ≡ sets_count s
    counted = count-is ∙ ap (λ i. get_or s (3 + i) 0) size

    rest : drop (3 + k + 1) s ≡ drop (sets_from s) s
    rest = let from : 3 + k + 1 ≡ sets_from s = omega (arith, size) in ap (λ i. drop i s) from

    end : 3 + k + 1 + m ≡ room_from s
    end = omega (arith, size, m-is ∙ ap₂ sets_size counted rest)

-- four bytes as a number
abbrev pub four : List ℕ → ℕ
four s = get_or s 0 0 * 16777216 + get_or s 1 0 * 65536 + get_or s 2 0 * 256 + get_or s 3 0

pub four_from : (s : List ℕ) (at : ℕ) → four (drop at s) ≡ u32_at s at
four_from s at = omega (arith, byte 0 at (omega arith), byte 1 (at + 1) (omega arith), byte 2 (at + 2) (omega arith), byte 3 (at + 2 + 1) (omega arith))
  where
    byte : (i j : ℕ) → at + i ≡ j → get_or (drop at s) i 0 ≡ get_or s j 0
    byte i j is = get_or-drop at s i 0 ∙ ap (λ k. get_or s k 0) is
