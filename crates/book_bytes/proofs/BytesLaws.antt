-- Laws of a book's bytes: each is a byte, and how many they are.
use Rattle.std.specs.Prelude.{ℕ, ◌+◌, ◌*◌, ◌≤◌, ◌<◌, ◌≡◌, refl, length, Option, Some, None}
use mathlib.Core.List.{List, [], ◌∷◌, ◌++◌, flat_map}
use native.Mathlib.Omega.{arith}
use Rattle.std.proofs.Common.{length-append}
use Rattle.limits.specs.Limits.{most_vertices}
use Rattle.dates.specs.declared.Window.{Window}
use Rattle.dates.specs.Calendar.{IsWindow}
use Rattle.dates.proofs.CalendarDays.{bounds}
use Rattle.walks.specs.Graph.{Arc}
use Rattle.book.specs.declared.Needs.{Needs}
use Rattle.book.specs.Book.{RuleSet, Book, All, IsArc, IsPath, all_paths}
use Rattle.book.proofs.BookLaws.{all_map, all_append, all_left, all_right}
use Rattle.book_bytes.specs.Bytes.{AreBytes, count_field, arc_field, window_bytes, needs_field, path_field, set_fields, bytes_of, ProperNeeds, Keeps}

-- ---- every byte is below 256
module _ {A : Type 0} (P : A → Type 0) (f : A → List ℕ) (each : (x : A) → P x → AreBytes (f x)) where
  flat_bytes : (xs : List A) → All P xs → AreBytes (flat_map f xs)
  unfolding flat_map
  flat_bytes [] h = tt
  flat_bytes (x ∷ xs) h = all_append (λ y. y < 256) (f x) (flat_map f xs) (each x h.0) (flat_bytes xs h.1)

module _ (n : ℕ) (few : n ≤ most_vertices) where
  arc-bytes : (a : Arc) → IsArc n a → AreBytes (arc_field a)
  arc-bytes a is = (
    omega arith,
    (
      omega arith,
      (
        omega arith,
        (omega (arith, is.tail-below), (omega (arith, is.head-below), (omega (arith, is.light), (omega arith, (omega arith, (omega arith, tt)))))),
      ),
    ),
  )

  path_bytes : (p : List ℕ) → IsPath n p → AreBytes (path_field p)
  path_bytes p is = (omega arith, (omega (arith, is.eight), (omega arith, all_map (λ v h. omega arith) p is.below)))

  needs-bytes : (f : Needs) → ProperNeeds f → AreBytes (needs_field f)
  needs-bytes f is = go f.window is.edges
    where
      go : (o : Option Window) → ((w : Window) → o ≡ Some w → IsWindow w) → AreBytes (needs_field (record { flags = f.flags; window = o }))
      go None edges = (omega arith, (omega arith, (omega arith, (omega (arith, is.flags-fit), (omega arith, tt)))))
      go (Some w) edges =
          let first = bounds w.first (edges w refl).0 in
          let last = bounds w.last (edges w refl).1 in
          (omega arith, (omega arith, (omega arith, (omega (arith, is.flags-fit), (omega arith, (omega arith, (omega arith, (omega arith, (omega arith, tt)))))))))

  sets-bytes : (ss : List RuleSet) → All (λ s. ProperNeeds s.needs) ss → All (IsPath n) (all_paths ss) → AreBytes (flat_map set_fields ss)
  unfolding flat_map all_paths
  sets-bytes [] needs paths = tt
  sets-bytes (s ∷ ss) needs paths =
      all_append (λ y. y < 256) (set_fields s) (flat_map set_fields ss)
      (all_append (λ y. y < 256) (needs_field s.needs) (flat_map path_field s.paths)
      (needs-bytes s.needs needs.0)
      (flat_bytes (IsPath n) path_field path_bytes s.paths (all_left (IsPath n) s.paths (all_paths ss) paths)))
      (sets-bytes ss needs.1 (all_right (IsPath n) s.paths (all_paths ss) paths))

-- The bytes of a book that keeps the rules are bytes.
pub bytes_below : (b : Book) → Keeps b → AreBytes (bytes_of b)
unfolding bytes_of
bytes_below b keeps =
    let few = keeps.few-vertices in
    all_append (λ y. y < 256) (count_field b.count ++ flat_map arc_field b.arcs) (flat_map set_fields b.sets)
    (all_append (λ y. y < 256) (count_field b.count) (flat_map arc_field b.arcs)
    (omega arith, (omega arith, (omega arith, (omega arith, tt))))
    (flat_bytes (IsArc b.count) arc_field (arc-bytes b.count few) b.arcs keeps.arcs-proper))
    (sets-bytes b.count few b.sets keeps.needs-proper keeps.paths-proper)

-- ---- their number
-- of the windows, four bytes each
abbrev pub windows_size : List RuleSet → ℕ
windows_size [] = 0
windows_size (s ∷ ss) = length (window_bytes s.needs.window) + windows_size ss

-- of paths, a head of three bytes and a byte a vertex
abbrev pub paths_size : List (List ℕ) → ℕ
paths_size [] = 0
paths_size (p ∷ ps) = 3 + length p + paths_size ps

arcs-length : (xs : List Arc) → length (flat_map arc_field xs) ≡ length xs * 9
unfolding flat_map
arcs-length [] = refl
arcs-length (a ∷ xs) = omega (arith, arcs-length xs)

paths-length : (ps : List (List ℕ)) → length (flat_map path_field ps) ≡ paths_size ps
unfolding flat_map
paths-length [] = refl
paths-length (p ∷ ps) = omega (arith, length-append p (flat_map path_field ps), paths-length ps)

paths_size-append : (ps qs : List (List ℕ)) → paths_size (ps ++ qs) ≡ paths_size ps + paths_size qs
paths_size-append [] qs = omega arith
paths_size-append (p ∷ ps) qs = omega (arith, paths_size-append ps qs)

sets-length : (ss : List RuleSet) → length (flat_map set_fields ss) ≡ length ss * 5 + windows_size ss + paths_size (all_paths ss)
unfolding flat_map all_paths
sets-length [] = refl
sets-length (s ∷ ss) =
    omega (
      arith,
      length-append (set_fields s) (flat_map set_fields ss),
      length-append (needs_field s.needs) (flat_map path_field s.paths),
      paths-length s.paths,
      paths_size-append s.paths (all_paths ss),
      sets-length ss,
    )

-- The length of a book's bytes as a sum: 4 for the count, 9 for each arc, 5 for each rule set, and those of the windows and of the paths.
pub length-bytes : (b : Book) → length (bytes_of b) ≡ 4 + length b.arcs * 9 + length b.sets * 5 + windows_size b.sets + paths_size (all_paths b.sets)
unfolding bytes_of
length-bytes b =
    omega (
      arith,
      length-append (count_field b.count ++ flat_map arc_field b.arcs) (flat_map set_fields b.sets),
      length-append (count_field b.count) (flat_map arc_field b.arcs),
      arcs-length b.arcs,
      sets-length b.sets,
    )
