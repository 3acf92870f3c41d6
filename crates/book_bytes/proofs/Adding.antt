-- Laws of a field that is added to a book: when it is taken, and that it adds its bytes to the book's.
use Rattle.std.specs.Prelude.{ℕ, ◌+◌, ◌≡◌, ◌↔◌, refl, Bool, true, not, ◌&&◌, List, ◌++◌, leb, length, Option, Some, None}
use Rattle.std.proofs.Common.{ap, ap₂, subst, ◌∙◌, arith, le-leb, length-append}
use Rattle.limits.specs.Limits.{most_vertices}
use Rattle.dates.specs.declared.Window.{Window}
use Rattle.dates.specs.Dates.{window_fits}
use Rattle.dates.specs.Calendar.{IsWindow}
use Rattle.dates.proofs.CalendarLaws.{window-is}
use Rattle.book.specs.declared.Kind.{Kind}
use Rattle.book.specs.declared.Kind.TheVariants.{VertexCount, Path}
use Rattle.book.proofs.RefusalLaws.{hold→none}
use Rattle.book.specs.Book.{Book, given, proper_arc, are_vertices}
use Rattle.book.specs.BookLaws.{bare}
use Rattle.book.specs.Reading.{accepted, kind_at, length_at, end_at, follows, fits, proper, seasonal, fresh, room, framing, content, extended, add_path, add_arc, outcome, field}
use Rattle.book_bytes.proofs.Field.{Value, value_at, body_of, written, length-written, kind_moved, length_moved, value_moved, kind-first, length-first, value-first}

-- ---- a value added to a book, and its tests
abbrev pub added : (k : Option Kind) → Book → Value k → Book
added (Some VertexCount) b n = record { count = n; arcs = b.arcs; sets = b.sets }
added (Some Kind.Arc) b a = add_arc b a
added (Some Kind.RuleSet) b f = record { count = b.count; arcs = b.arcs; sets = b.sets ++ bare f }
added (Some Path) b p = record { count = b.count; arcs = b.arcs; sets = add_path b.sets p }
added None b v = b

abbrev pub proper_value : (k : Option Kind) → Book → Value k → Bool
proper_value (Some VertexCount) b n = leb 1 n && leb n most_vertices
proper_value (Some Kind.Arc) b a = proper_arc b.count a
proper_value (Some Kind.RuleSet) b f = true
proper_value (Some Path) b p = are_vertices b.count p
proper_value None b v = true

abbrev pub seasonal_value : (k : Option Kind) → Value k → Bool
seasonal_value (Some VertexCount) n = true
seasonal_value (Some Kind.Arc) a = true
seasonal_value (Some Kind.RuleSet) f = window_fits f.window
seasonal_value (Some Path) p = true
seasonal_value None v = true

abbrev pub fresh_value : (k : Option Kind) → Book → Value k → Bool
fresh_value (Some VertexCount) b n = true
fresh_value (Some Kind.Arc) b a = not (given b.arcs a.tail a.head)
fresh_value (Some Kind.RuleSet) b f = true
fresh_value (Some Path) b p = true
fresh_value None b v = true

-- The test of a window says what the rules do.
pub edges-are : (o : Option Window) → (window_fits o ≡ true) ↔ ((w : Window) → o ≡ Some w → IsWindow w)
edges-are None = (λ e w p. absurd (cc), λ h. refl)
edges-are (Some w) = (λ e v p. subst IsWindow (cc) ((window-is w).0 e), λ h. (window-is w).1 (h w refl))

-- What a field adds, and its tests, are told by its value.
pub record Told (s : List ℕ) (b : Book) (at : ℕ) (k : Option Kind) (v : Value k) : Type 0 where
  pub adds : extended k s b at ≡ added k b v
  pub value : proper k s b at ≡ proper_value k b v
  pub season : seasonal k s at ≡ seasonal_value k v
  pub once : fresh k s b at ≡ fresh_value k b v

pub told : (s : List ℕ) (b : Book) (at : ℕ) (k : Option Kind) (v : Value k) → value_at k s at ≡ v → Told s b at k v
told s b at k v e = subst (Told s b at k) e (own k)
  where
    own : (k : Option Kind) → Told s b at k (value_at k s at)
    own (Some VertexCount) = record { adds = refl; value = refl; season = refl; once = refl }
    own (Some Kind.Arc) = record { adds = refl; value = refl; season = refl; once = refl }
    own (Some Kind.RuleSet) = record { adds = refl; value = refl; season = refl; once = refl }
    own (Some Path) = record { adds = refl; value = refl; season = refl; once = refl }
    own None = record { adds = refl; value = refl; season = refl; once = refl }

-- ---- a field whose tests hold is read
pub record Takes (k : Option Kind) (b : Book) (v : Value k) : Type 0 where
  pub order : follows b.count (length b.sets) k ≡ true
  pub fit : fits k (length (body_of k v)) ≡ true
  pub value : proper_value k b v ≡ true
  pub season : seasonal_value k v ≡ true
  pub once : fresh_value k b v ≡ true
  pub space : room k b ≡ true

module _ (front rest : List ℕ) (b : Book) (k : Option Kind) (v : Value k) where
  abbrev all : List ℕ
  all = front ++ (written k v ++ rest)

  abbrev at : ℕ
  at = length front

  kind-read : kind_at all at ≡ k
  kind-read = kind_moved front (written k v ++ rest) ∙ kind-first rest k v

  length-read : length_at all at ≡ length (body_of k v)
  length-read = length_moved front (written k v ++ rest) ∙ length-first rest k v

  value_read : value_at k all at ≡ v
  value_read = value_moved front (written k v ++ rest) k ∙ value-first rest k v

  pub end_read : end_at all at ≡ length (front ++ written k v)
  end_read = omega (arith, length-read, length-written k v, length-append front (written k v))

  pub field-read : Takes k b v → field all b at ≡ accepted (added k b v)
  field-read takes =
      let size : length all ≡ at + (3 + length (body_of k v) + length rest) =
      omega (arith, length-append front (written k v ++ rest), length-append (written k v) rest, length-written k v) in
      let says = told all b at k v value_read in
      let order = ap (follows b.count (length b.sets)) kind-read ∙ takes.order in
      let fit = ap₂ fits kind-read length-read ∙ takes.fit in
      let value = ap (λ x. proper x all b at) kind-read ∙ says.value ∙ takes.value in
      let season = ap (λ x. seasonal x all at) kind-read ∙ says.season ∙ takes.season in
      let once = ap (λ x. fresh x all b at) kind-read ∙ says.once ∙ takes.once in
      let space = ap (λ x. room x b) kind-read ∙ takes.space in
      let head = le-leb (at + 3) (length all) (omega arith) in
      let body = le-leb (end_at all at) (length all) (omega (arith, length-read)) in
      ap (λ o. outcome o (extended (kind_at all at) all b at))
      (hold→none (framing all b.count (length b.sets) at ++ content (kind_at all at) all b at) (head, (order, (fit, (body, (value, (season, (once, (space, tt)))))))))
      ∙ ap accepted (ap (λ x. extended x all b at) kind-read ∙ says.adds)
