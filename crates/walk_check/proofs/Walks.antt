-- The test of a walk, a pair at a time, with the table of a book's weights.
use Rattle.std.proofs.Common.{◌≡◌, ℕ, ◌+◌, ◌*◌, ◌≤◌, ◌<◌, Bool, false, ◌&&◌, List, [], ◌∷◌, length, get_or, drop, sym, ap, ◌∙◌, arith, le-leb, length-drop, get_or-drop}
use borrow.Author.Tests.{lt-ltb, le-ltb}
use Rattle.std.proofs.Math.Bool.{and-false}
use Rattle.walks.specs.Graph.{is_arc}
use Rattle.walks.specs.Walk.{is_walk}
use Rattle.book.specs.Book.{Book, graph}
use Rattle.book.specs.Tables.{IsGraph}
use Rattle.book.proofs.TableLaws.{marked→free, unmarked→given}
use Rattle.limits.specs.Limits.{no_arc, longest}
use Rattle.walk_check.specs.Checking.{checkable}

-- what is left of w begins with a vertex, and is a walk exactly if w is
pub record Left (b : Book) (w rest : List ℕ) : Type 0 where
  pub some : 0 < length rest
  pub low : get_or rest 0 0 < b.count
  pub as_whole : is_walk (graph b) rest ≡ is_walk (graph b) w

module _ {b : Book} {w rest weights : List ℕ} {vertices u v : ℕ} (left : Left b w rest) (g : IsGraph b vertices weights) (two : 2 ≤ length rest) (first : u ≡ get_or rest 0 0) (second : v ≡ get_or rest 1 0) where
  split : is_walk (graph b) w ≡ is_arc (graph b) u v && is_walk (graph b) (drop 1 rest)
  split = sym left.as_whole ∙ go rest left.low two ∙ rw (first, second)
    where
      go : (l : List ℕ) → get_or l 0 0 < b.count → 2 ≤ length l → is_walk (graph b) l ≡ is_arc (graph b) (get_or l 0 0) (get_or l 1 0) && is_walk (graph b) (drop 1 l)
      go [] low two = absurd (omega arith)
      go (u ∷ []) low two = absurd (omega arith)
      go (u ∷ v ∷ l) low two = rw (lt-ltb _ _ low)

  pub not-vertex : vertices ≤ v → is_walk (graph b) w ≡ false
  not-vertex high = split ∙ ap (λ x. is_arc (graph b) u v && x) (go rest two (omega (arith, g.vertices_are))) ∙ and-false (is_arc (graph b) u v)
    where
      go : (l : List ℕ) → 2 ≤ length l → b.count ≤ get_or l 1 0 → is_walk (graph b) (drop 1 l) ≡ false
      go [] two high = absurd (omega arith)
      go (u ∷ []) two high = absurd (omega arith)
      go (u ∷ v ∷ l) two high = rw (le-ltb _ _ high)

  module _ (low : v < vertices) where
    tail-fits : u < 64
    tail-fits = omega (arith, g.well.few-vertices, left.low)

    head-fits : v < 64
    head-fits = omega (arith, g.well.few-vertices, g.vertices_are)

    pub not_arc : get_or weights (u * 64 + v) 0 ≡ no_arc → is_walk (graph b) w ≡ false
    not_arc marked =
        split ∙ rw (marked→free b g.well u v tail-fits head-fits (ap (λ l. get_or l (u * 64 + v) 0) (sym g.weights_are) ∙ marked))

    pub left-next : (get_or weights (u * 64 + v) 0 ≡ no_arc → ⊥) → Left b w (drop 1 rest)
    left-next ne = record {
      some = omega (arith, length-drop 1 rest);
      low = omega (arith, g.vertices_are, get_or-drop 1 rest 0 0);
      as_whole = sym (split ∙ rw (unmarked→given b g.well u v tail-fits head-fits (λ e. ne (ap (λ l. get_or l (u * 64 + v) 0) g.weights_are ∙ e))));
    }

pub as_checked : (b : Book) (w : List ℕ) {x : Bool} → length w ≤ longest → is_walk (graph b) w ≡ x → x ≡ checkable (graph b) w
as_checked b w few is = sym (ap (λ y. y && is_walk (graph b) w) (le-leb _ _ few) ∙ is)
