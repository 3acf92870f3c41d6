-- The laws of arcs in rising order.
use Rattle.std.specs.Prelude.{ℕ, zero, suc, ◌+◌, ◌*◌, ◌/◌, ◌%◌, ◌≤◌, ◌<◌, ◌≢◌, ◌≡◌, refl, Bool, true, false, cond, ◌&&◌, eqb, length, get_or}
use Rattle.std.proofs.Common.{sym, ap, ap₂, ◌∙◌, inl, inr, ⊎_elim, true≢false, arith, eqb-true, eq-eqb, eq-or-lt_of_le}
use mathlib.Core.List.Permᴰ
use mathlib.Core.List.{List, [], ◌∷◌, Permᴰ}
use Rattle.std.proofs.Math.Option
use Rattle.std.proofs.Math.Option.{Option, none, some}
use Rattle.limits.specs.Limits.{most_vertices, pairs, heaviest, no_arc}
use Rattle.lists.specs.Test.{and-true}
use Rattle.walks.specs.Graph.{Graph, Arc, is_some, weight_in}
use Rattle.book.specs.Book.{Book, All, IsArc, PairsOnce, WellFormed, given}
use Rattle.book.specs.Reading.{accepted, reading}
use Rattle.book.specs.Tables.{weight_table}
use Rattle.book.proofs.BookLaws.{all_map}
use Rattle.book.proofs.Reordered.{all_reordered, pairs_reordered, graph_reordered}
use Rattle.book.proofs.TableLaws.{table-weight, book-weights}
use Rattle.book_bytes.specs.Bytes.{Keeps, bytes_of, longest_book}
use Rattle.book_bytes.proofs.RoundTrip.{every_book_read, longest-bytes}
use Rattle.writing.specs.Rising.{put, read_off, rising, in_order, Before, Rising}

-- the index of an arc's pair
abbrev index : Arc → ℕ
index a = a.tail * most_vertices + a.head

-- ---- what is read off rises
before : (a b : Arc) → b.head < most_vertices → index a < index b → Before a b
before a b fits h = ⊎_elim (λ e. inr (e, omega (arith, e))) inl (eq-or-lt_of_le {n = a.tail} {m = b.tail} (omega arith))

-- the arc of pair k with a weight
abbrev arc_of : ℕ → ℕ → Arc
arc_of k x = record { tail = k / most_vertices; head = k % most_vertices; weight = x }

module _ (w : ℕ → ℕ → Option ℕ) where
  pub read_off-next : (n k : ℕ) → read_off w (suc n) k
      ≡ put (k / most_vertices) (k % most_vertices) (w (k / most_vertices) (k % most_vertices)) (read_off w n (suc k))
  unfolding read_off
  read_off-next n k = refl

  -- An arc whose pair stands before pair k is before all that is read off from k on.
  before-off : (a : Arc) (n k : ℕ) → index a < k → All (Before a) (read_off w n k)
  unfolding read_off
  before-off a zero k h = tt
  before-off a (suc n) k h = go (w (k / most_vertices) (k % most_vertices)) (before-off a n (suc k) (omega arith))
    where
      go : (o : Option ℕ) → All (Before a) (read_off w n (suc k)) → All (Before a) (put (k / most_vertices) (k % most_vertices) o (read_off w n (suc k)))
      go none later = later
      go (some x) later = (before a (arc_of k x) (omega arith) (omega arith), later)

  off-rises : (n k : ℕ) → Rising (read_off w n k)
  unfolding read_off
  off-rises zero k = tt
  off-rises (suc n) k = go (w (k / most_vertices) (k % most_vertices)) (off-rises n (suc k))
    where
      go : (o : Option ℕ) → Rising (read_off w n (suc k)) → Rising (put (k / most_vertices) (k % most_vertices) o (read_off w n (suc k)))
      go none later = later
      go (some x) later = (before-off (arc_of k x) n (suc k) (omega arith), later)

pub rising-is : (arcs : List Arc) → Rising (rising arcs)
rising-is arcs = off-rises (weight_in arcs) pairs 0

-- ---- no arc, and one arc more
off-none : (n k : ℕ) → read_off (weight_in []) n k ≡ []
unfolding read_off
off-none zero k = refl
off-none (suc n) k = off-none n (suc k)

-- the weight of pair k
abbrev at : List Arc → ℕ → Option ℕ
at arcs k = weight_in arcs (k / most_vertices) (k % most_vertices)

module _ (a : Arc) (rest : List Arc) where
  at-other : (k : ℕ) → k ≢ index a → at (a ∷ rest) k ≡ at rest k
  at-other k ne = go (eqb a.tail (k / most_vertices) && eqb a.head (k % most_vertices)) refl
    where
      go : (x : Bool) → eqb a.tail (k / most_vertices) && eqb a.head (k % most_vertices) ≡ x → cond x (some a.weight) (at rest k) ≡ at rest k
      go true p =
          let (tail-is, head-is) = and-true (eqb a.tail (k / most_vertices)) (eqb a.head (k % most_vertices)) p in
          absurd (ne (omega (arith, eqb-true _ _ tail-is, eqb-true _ _ head-is)))
      go false p = refl

  off-past : (n k : ℕ) → index a < k → read_off (weight_in (a ∷ rest)) n k ≡ read_off (weight_in rest) n k
  unfolding read_off
  off-past zero k h = refl
  off-past (suc n) k h = ap₂ (put (k / most_vertices) (k % most_vertices)) (at-other k (omega arith)) (off-past n (suc k) (omega arith))

  module _ (fits : a.head < most_vertices) (k : ℕ) (e : k ≡ index a) where
    tail-is : k / most_vertices ≡ a.tail
    tail-is = omega arith

    head-is : k % most_vertices ≡ a.head
    head-is = omega arith

    at-index : at (a ∷ rest) k ≡ some a.weight
    at-index = rw (tail-is, head-is, eq-eqb a.tail a.tail refl, eq-eqb a.head a.head refl)

    -- At its own pair the arc is read off first.
    off-first : (n : ℕ) → read_off (weight_in (a ∷ rest)) (suc n) k ≡ a ∷ read_off (weight_in rest) n (suc k)
    off-first n =
        read_off-next (weight_in (a ∷ rest)) n k
        ∙ ap₂ (put (k / most_vertices) (k % most_vertices)) at-index (off-past n (suc k) (omega arith))
        ∙ ap₂ (λ u v. put u v (some a.weight) (read_off (weight_in rest) n (suc k))) tail-is head-is

  -- What is read off with one more arc is that arc and what is read off without it, in some order.
  module _ (free : given rest a.tail a.head ≡ false) (fits : a.head < most_vertices) where
    off-more : (n k : ℕ) → k ≤ index a → index a < k + n → Permᴰ (a ∷ read_off (weight_in rest) n k) (read_off (weight_in (a ∷ rest)) n k)
    unfolding read_off
    off-more zero k low high = absurd (omega arith)
    off-more (suc n) k low high =
        ⊎_elim
        (λ e. rw (off-first fits k e n) (here e (at rest k) refl))
        (λ l. rw (at-other k (omega arith)) (there (at rest k) (off-more n (suc k) l (omega arith))))
        (eq-or-lt_of_le low)
      where
        here : k ≡ index a → (o : Option ℕ) → at rest k ≡ o
            → Permᴰ (a ∷ put (k / most_vertices) (k % most_vertices) o (read_off (weight_in rest) n (suc k))) (a ∷ read_off (weight_in rest) n (suc k))
        here e none p = Permᴰ.refl _
        here e (some x) p =
            absurd (true≢false (ap is_some (sym p ∙ ap₂ (weight_in rest) (tail-is fits k e) (head-is fits k e)) ∙ free))

        there : (o : Option ℕ) → Permᴰ (a ∷ read_off (weight_in rest) n (suc k)) (read_off (weight_in (a ∷ rest)) n (suc k))
            → Permᴰ (a ∷ put (k / most_vertices) (k % most_vertices) o (read_off (weight_in rest) n (suc k)))
            (put (k / most_vertices) (k % most_vertices) o (read_off (weight_in (a ∷ rest)) n (suc k)))
        there none d = d
        there (some x) d = Permᴰ.trans (Permᴰ.swap refl refl) (Permᴰ.cons refl d)

-- ---- the same arcs in rising order
pub rising-permuted : (n : ℕ) (arcs : List Arc) → n ≤ most_vertices → All (IsArc n) arcs → PairsOnce arcs → Permᴰ arcs (rising arcs)
rising-permuted n [] few proper once = rw (off-none pairs 0) Permᴰ.nil
rising-permuted n (a ∷ rest) few proper once =
    Permᴰ.trans (Permᴰ.cons refl (rising-permuted n rest few proper.1 once.1))
    (off-more a rest once.0 (omega (arith, proper.0.head-below)) pairs 0 (omega arith) (omega (arith, proper.0.tail-below, proper.0.head-below)))

pub rising-same : {as' bs : List Arc} → Permᴰ as' bs → PairsOnce as' → rising as' ≡ rising bs
rising-same d once = ap (λ (g : Graph). read_off g.weight pairs 0) (graph_reordered d once 0)

-- ---- arcs that rise already
-- an arc whose pair is one of the n pairs from k on
record Among (k n : ℕ) (a : Arc) : Type 0 where
  fits : a.head < most_vertices
  low : k ≤ index a
  high : index a < k + n

-- Arcs after one from pair k on are from pair k + 1 on.
after-among : (a : Arc) (k n : ℕ) (arcs : List Arc) → Among k (suc n) a → All (Before a) arcs → All (Among k (suc n)) arcs → All (Among (suc k) n) arcs
after-among a k n [] here after among = tt
after-among a k n (b ∷ rest) here after among = (omega (arith, here.fits, after.0), after-among a k n rest here after.1 among.1)

at-none : (k n : ℕ) (arcs : List Arc) → All (Among (suc k) n) arcs → at arcs k ≡ none
at-none k n [] among = refl
at-none k n (a ∷ rest) among = at-other a rest k (omega (arith, among.0.low)) ∙ at-none k n rest among.1

off-later : (k n : ℕ) (arcs : List Arc) → All (Among (suc k) n) arcs → read_off (weight_in arcs) (suc n) k ≡ read_off (weight_in arcs) n (suc k)
off-later k n arcs among =
    read_off-next (weight_in arcs) n k ∙ ap (λ o. put (k / most_vertices) (k % most_vertices) o (read_off (weight_in arcs) n (suc k))) (at-none k n arcs among)

off-kept : (n k : ℕ) (arcs : List Arc) → All (Among k n) arcs → Rising arcs → read_off (weight_in arcs) n k ≡ arcs
off-kept n k [] among rises = off-none n k
off-kept zero k (a ∷ rest) among rises = absurd (omega (arith, among.0.low, among.0.high))
off-kept (suc n) k (a ∷ rest) among rises =
    let later : All (Among (suc k) n) rest = after-among a k n rest among.0 rises.0 among.1 in
    ⊎_elim
    (λ e. off-first a rest among.0.fits k e n ∙ ap (λ (l : List Arc). a ∷ l) (off-kept n (suc k) rest later rises.1))
    (λ l.
    let all-later : All (Among (suc k) n) (a ∷ rest) = (omega (arith, among.0), later) in
    off-later k n (a ∷ rest) all-later ∙ off-kept n (suc k) (a ∷ rest) all-later rises)
    (eq-or-lt_of_le among.0.low)

pub rising-kept : (n : ℕ) (arcs : List Arc) → n ≤ most_vertices → All (IsArc n) arcs → PairsOnce arcs → Rising arcs → rising arcs ≡ arcs
rising-kept n arcs few proper once rises =
    off-kept pairs 0 arcs (all_map (λ a h. omega (arith, h.tail-below, h.head-below)) arcs proper) rises

-- ---- a book in order
length_reordered : {A : Type 0} {xs ys : List A} → Permᴰ xs ys → length xs ≡ length ys
length_reordered Permᴰ.nil = refl
length_reordered (Permᴰ.cons e d) = ap suc (length_reordered d)
length_reordered (Permᴰ.swap e f) = refl
length_reordered (Permᴰ.trans d e) = length_reordered d ∙ length_reordered e

module _ (b : Book) (keeps : Keeps b) where
  permuted : Permᴰ b.arcs (rising b.arcs)
  permuted = rising-permuted b.count b.arcs keeps.few-vertices keeps.arcs-proper keeps.pairs-once

  pub keeps_in_order : Keeps (in_order b)
  keeps_in_order = record {
    some-vertex = keeps.some-vertex;
    few-vertices = keeps.few-vertices;
    arcs-proper = all_reordered (IsArc b.count) permuted keeps.arcs-proper;
    pairs-once = pairs_reordered permuted keeps.pairs-once;
    few-sets = keeps.few-sets;
    needs-proper = keeps.needs-proper;
    few-paths = keeps.few-paths;
    paths-proper = keeps.paths-proper;
  }

  pub length_in_order : length (rising b.arcs) ≡ length b.arcs
  length_in_order = sym (length_reordered permuted)

  pub short_in_order : length (bytes_of (in_order b)) ≤ longest_book
  short_in_order = longest-bytes (in_order b) keeps_in_order

  pub read-in_order : reading (bytes_of (in_order b)) ≡ accepted (in_order b)
  read-in_order = every_book_read (in_order b) keeps_in_order

-- ---- the table of weights, pair by pair
module _ (b : Book) (w : WellFormed b) where
  pub table-off : (k : ℕ) → k < pairs
      → get_or (weight_table b.arcs) k 0 ≡ Option.get_or (weight_in b.arcs (k / most_vertices) (k % most_vertices)) no_arc
  table-off k h =
      let pair : k ≡ k / most_vertices * most_vertices + k % most_vertices = omega arith in
      ap (λ i. get_or (weight_table b.arcs) i 0) pair ∙ table-weight b w (k / most_vertices) (k % most_vertices) (omega arith) (omega arith)

  pub weight-light : (u v x : ℕ) → weight_in b.arcs u v ≡ some x → x ≤ heaviest
  weight-light = (book-weights b w).light
