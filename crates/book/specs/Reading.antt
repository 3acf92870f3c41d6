-- The reading of bytes as a book: field by field, each a tag, a length of two bytes (high byte first) and that many bytes.
use Rattle.std.specs.Prelude
use Rattle.std.specs.Prelude.{ℕ, zero, suc, ◌+◌, ◌*◌, Bool, true, false, cond, not, ◌&&◌, ◌||◌, List, [], ◌∷◌, ◌++◌, length, get_or, eqb, leb, ltb, Some, None, Result, Ok, Err}
use Rattle.std.proofs.Math.Option.{Option, none, some}
use Rattle.std.proofs.Math.Seq.{slice}
use Rattle.book.specs.declared.Arc.{Arc as Read}
use Rattle.book.specs.declared.Refusal.{Refusal}
use Rattle.book.specs.declared.Counts.{Counts}
use Rattle.book.specs.declared.Needs.{Needs}
use Rattle.book.specs.declared.Kind.{Kind}
use Rattle.book.specs.declared.Kind.TheVariants.{VertexCount, Path}
use Rattle.book.specs.Refusal.{Test, test_at, numbered, first_failure, refusal_by}
use Rattle.dates.specs.declared.MonthDay.{MonthDay}
use Rattle.dates.specs.declared.Window.{Window}
use Rattle.dates.specs.Dates.{window_fits}
use Rattle.limits.specs.Limits.{most_sets, most_paths}
use Rattle.walks.specs.Graph.{Arc}
use Rattle.book.specs.Book.{RuleSet, Book, blank, all_paths, counts, given, is_count, proper_arc, path_length, are_vertices}

-- A byte string is a book, or is refused.
pub data Reading : Type 0 where
  accepted : Book → Reading
  refused : Refusal → Reading

-- an answer, unless a test fails
abbrev pub verdict : {A : Type 0} → Option Refusal → A → Result A Refusal
verdict none a = Ok a
verdict (some r) a = Err r

-- what the reader answers
abbrev pub read_as : Reading → Result Counts Refusal
read_as (accepted b) = Ok (counts b)
read_as (refused r) = Err r

-- The field that starts at byte `at` of s: its kind, if its tag is known.
abbrev pub kind_of : ℕ → Prelude.Option Kind
kind_of tag =
    cond (eqb tag 1) (Some VertexCount) (cond (eqb tag 2) (Some Kind.Arc) (cond (eqb tag 3) (Some Kind.RuleSet) (cond (eqb tag 4) (Some Path) None)))

abbrev pub kind_at : List ℕ → ℕ → Prelude.Option Kind
kind_at s at = kind_of (get_or s at 0)

-- numbers, high byte first
abbrev pub u16_at : List ℕ → ℕ → ℕ
u16_at s i = get_or s i 0 * 256 + get_or s (i + 1) 0

abbrev pub u32_at : List ℕ → ℕ → ℕ
u32_at s i = u16_at s i * 65536 + u16_at s (i + 2)

abbrev pub length_at : List ℕ → ℕ → ℕ
length_at s at = u16_at s (at + 1)

abbrev pub end_at : List ℕ → ℕ → ℕ
end_at s at = at + 3 + length_at s at

-- its value, by its kind
abbrev pub count_at : List ℕ → ℕ → ℕ
count_at s at = get_or s (at + 3) 0

abbrev pub arc_at : List ℕ → ℕ → Arc
arc_at s at = record { tail = get_or s (at + 3) 0; head = get_or s (at + 4) 0; weight = u32_at s (at + 5) }

abbrev pub day_at : List ℕ → ℕ → MonthDay
day_at s i = record { day = get_or s i 0; month = get_or s (i + 1) 0 }

-- a window, unless the field has the short form
abbrev pub window_at : List ℕ → ℕ → Prelude.Option Window
window_at s at = cond (eqb (length_at s at) 2) None (Some (record { first = day_at s (at + 5); last = day_at s (at + 7) }))

abbrev pub needs_at : List ℕ → ℕ → Needs
needs_at s at = record { flags = u16_at s (at + 3); window = window_at s at }

abbrev pub path_at : List ℕ → ℕ → List ℕ
path_at s at = slice (at + 3) (end_at s at) s

-- 2: the tag is known, and stands where the order lets it: the count once and first, then arcs, then rule sets, each followed by its
-- paths. What has been read says where we are: the count of vertices (0 where none was read) and the number of rule sets.
abbrev pub follows : ℕ → ℕ → Prelude.Option Kind → Bool
follows vertices sets (Some VertexCount) = eqb vertices 0
follows vertices sets (Some Kind.Arc) = not (eqb vertices 0) && eqb sets 0
follows vertices sets (Some Kind.RuleSet) = not (eqb vertices 0)
follows vertices sets (Some Path) = not (eqb sets 0)
follows vertices sets None = false

-- 3: the length is one that the tag has
abbrev pub fits : Prelude.Option Kind → ℕ → Bool
fits (Some VertexCount) n = eqb n 1
fits (Some Kind.Arc) n = eqb n 6
fits (Some Kind.RuleSet) n = eqb n 2 || eqb n 6
fits (Some Path) n = path_length n
fits None n = false

-- 4: the value is within its limits
abbrev pub proper : Prelude.Option Kind → List ℕ → Book → ℕ → Bool
proper (Some VertexCount) s b at = is_count (count_at s at)
proper (Some Kind.Arc) s b at = proper_arc b.count (arc_at s at)
proper (Some Kind.RuleSet) s b at = true
proper (Some Path) s b at = are_vertices b.count (path_at s at)
proper None s b at = true

-- 14: the edges of a window are days that some year has
abbrev pub seasonal : Prelude.Option Kind → List ℕ → ℕ → Bool
seasonal (Some VertexCount) s at = true
seasonal (Some Kind.Arc) s at = true
seasonal (Some Kind.RuleSet) s at = window_fits (window_at s at)
seasonal (Some Path) s at = true
seasonal None s at = true

-- 5: an arc's pair has not been given
abbrev pub fresh : Prelude.Option Kind → List ℕ → Book → ℕ → Bool
fresh (Some VertexCount) s b at = true
fresh (Some Kind.Arc) s b at = not (given b.arcs (arc_at s at).tail (arc_at s at).head)
fresh (Some Kind.RuleSet) s b at = true
fresh (Some Path) s b at = true
fresh None s b at = true

-- 6: at most 16 rule sets, and at most 256 paths in all
abbrev pub set_room : Book → Bool
set_room b = ltb (length b.sets) most_sets

abbrev pub path_room : Book → Bool
path_room b = ltb (length (all_paths b.sets)) most_paths

abbrev pub room : Prelude.Option Kind → Book → Bool
room (Some VertexCount) b = true
room (Some Kind.Arc) b = true
room (Some Kind.RuleSet) b = set_room b
room (Some Path) b = path_room b
room None b = true

-- the tests of a field, in 01's order: 1 for the head, 2, 3, 1 for the body; then 4, 5, 6, and 14 (02) in the place of 4
abbrev pub framing : List ℕ → ℕ → ℕ → ℕ → List Test
framing s vertices sets at =
    test_at at 1 (leb (at + 3) (length s))
    ∷ test_at at 2 (follows vertices sets (kind_at s at))
    ∷ test_at at 3 (fits (kind_at s at) (length_at s at))
    ∷ test_at at 1 (leb (end_at s at) (length s))
    ∷ []

abbrev pub content : Prelude.Option Kind → List ℕ → Book → ℕ → List Test
content kind s b at =
    test_at at 4 (proper kind s b at)
    ∷ test_at at 14 (seasonal kind s at)
    ∷ test_at at 5 (fresh kind s b at)
    ∷ test_at at 6 (room kind b)
    ∷ []

-- a path belongs to the last rule set
unfoldable pub add_path : List RuleSet → List ℕ → List RuleSet
add_path [] p = []
add_path (s ∷ []) p = record { needs = s.needs; paths = s.paths ++ (p ∷ []) } ∷ []
add_path (s ∷ (s' ∷ ss)) p = s ∷ add_path (s' ∷ ss) p

abbrev pub add_arc : Book → Arc → Book
add_arc b a = record { count = b.count; arcs = b.arcs ++ (a ∷ []); sets = b.sets }

abbrev pub add_set : Book → Needs → Book
add_set b f = record { count = b.count; arcs = b.arcs; sets = b.sets ++ (record { needs = f; paths = [] } ∷ []) }

-- the book with the field at byte `at` added to it
abbrev pub extended : Prelude.Option Kind → List ℕ → Book → ℕ → Book
extended (Some VertexCount) s b at = record { count = count_at s at; arcs = b.arcs; sets = b.sets }
extended (Some Kind.Arc) s b at = add_arc b (arc_at s at)
extended (Some Kind.RuleSet) s b at = add_set b (needs_at s at)
extended (Some Path) s b at = record { count = b.count; arcs = b.arcs; sets = add_path b.sets (path_at s at) }
extended None s b at = b

abbrev pub outcome : Option Refusal → Book → Reading
outcome none b = accepted b
outcome (some r) b = refused r

-- the arc that the code's `Arc` means
abbrev pub arc_of : Read → Arc
arc_of a = record { tail = a.tail; head = a.head; weight = a.weight }

-- ---- what a book takes, whether a field of bytes says it or an item of a list: its tests, each told with its place
-- 4 of a count
abbrev pub count_tests : ℕ → ℕ → List Test
count_tests at n = test_at at 4 (is_count n) ∷ []

abbrev pub with_count : Book → ℕ → ℕ → Reading
with_count b at n = outcome (first_failure (count_tests at n)) (record { count = n; arcs = b.arcs; sets = b.sets })

-- 4 and 5 of an arc
abbrev pub arc_tests : Book → ℕ → Arc → List Test
arc_tests b at a =
    test_at at 4 (proper_arc b.count a) ∷ test_at at 5 (not (given b.arcs a.tail a.head)) ∷ []

abbrev pub with_arc : Book → ℕ → Arc → Reading
with_arc b at a = outcome (first_failure (arc_tests b at a)) (add_arc b a)

-- 14 and 6 of a rule set
abbrev pub set_tests : Book → ℕ → Needs → List Test
set_tests b at f =
    test_at at 14 (window_fits f.window) ∷ test_at at 6 (set_room b) ∷ []

abbrev pub with_set : Book → ℕ → Needs → Reading
with_set b at f = outcome (first_failure (set_tests b at f)) (add_set b f)

-- 4 and 6 of a path
abbrev pub path_tests : Book → ℕ → List ℕ → List Test
path_tests b at p =
    test_at at 4 (are_vertices b.count p) ∷ test_at at 6 (path_room b) ∷ []

abbrev pub with_path : Book → ℕ → List ℕ → Reading
with_path b at p = outcome (first_failure (path_tests b at p)) (record { count = b.count; arcs = b.arcs; sets = add_path b.sets p })

-- what a reading comes to
abbrev pub verdict_of : Reading → Result Unit Refusal
verdict_of (accepted b) = Ok tt
verdict_of (refused r) = Err r

-- a field of a known kind whose frame is whole
abbrev pub taken : Prelude.Option Kind → List ℕ → Book → ℕ → Reading
taken kind s b at = outcome (first_failure (content kind s b at)) (extended kind s b at)

-- the book so far: a field that is refused adds nothing
abbrev pub kept : Book → Reading → Book
kept b (accepted b') = b'
kept b (refused r) = b

-- what the tests of a field's frame answer, after the counts so far: its kind
abbrev pub framed : List ℕ → ℕ → Counts → Result (Prelude.Option Kind) Refusal
framed s at c = verdict (first_failure (framing s c.vertices c.sets at)) (kind_at s at)

-- one field
abbrev pub field : List ℕ → Book → ℕ → Reading
field s b at =
    outcome (first_failure (framing s b.count (length b.sets) at ++ content (kind_at s at) s b at)) (extended (kind_at s at) s b at)

-- The fields from byte `at` on; the first bad one decides. Each takes more than one byte, so with as many turns as there are bytes
-- the turns never run out first.
abbrev pub and_then : Reading → (Book → Reading) → Reading
and_then (accepted b) next = next b
and_then (refused r) next = refused r

unfoldable pub fields : ℕ → List ℕ → Book → ℕ → Reading
fields zero s b at = accepted b
fields (suc turns) s b at =
    cond (ltb at (length s)) (and_then (field s b at) (λ b'. fields turns s b' (end_at s at))) (accepted b)

-- The empty book is refused as a field's head that is cut off.
unfoldable pub reading : List ℕ → Reading
reading [] = refused (numbered 1 0)
reading (x ∷ s) = fields (length (x ∷ s)) (x ∷ s) blank 0

-- What an operation on a book is refused for: the book's refusal, or the first of the tests that it makes in the book that fails.
abbrev pub refusal_of : Reading → (Book → List Test) → Option Refusal
refusal_of (accepted b) tests = refusal_by (tests b)
refusal_of (refused r) tests = some r

-- The book that was read; the blank one where the bytes are refused.
abbrev pub book_in : Reading → Book
book_in r = kept blank r
