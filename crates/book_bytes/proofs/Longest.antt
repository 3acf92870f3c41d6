-- A longest book: 64 vertices, an arc for each ordered pair of different ones, and 16 rule sets with a window, of 16 paths of 8 vertices.
use Rattle.std.specs.Prelude.{ℕ, zero, suc, ◌+◌, ◌*◌, ◌<◌, ◌≡◌, refl, Bool, true, false, cond, ◌&&◌, ◌||◌, eqb, leb, ltb, length, replicate, Some}
use Rattle.std.proofs.Common.{ap₂, ◌∙◌, ⊎_elim, arith, ltb-true, leb-true, eqb-true}
use mathlib.Core.List.{List, [], ◌∷◌, flat_map}
use Rattle.limits.specs.Limits.{most_vertices, most_sets, longest_path}
use Rattle.lists.specs.Test.{all, and-true, either}
use Rattle.dates.specs.declared.Window.{Window}
use Rattle.dates.specs.Dates.{window_fits}
use Rattle.walks.specs.Graph.{Arc}
use Rattle.book.specs.declared.Needs.{Needs}
use Rattle.book.specs.Book.{Book, All, PairsOnce, all_paths, given, proper_arc, are_vertices, is_path}
use Rattle.book.proofs.BookLaws.{is-arc, is_path→IsPath, given_cons}
use Rattle.book.specs.Reading.{accepted, reading}
use Rattle.book_bytes.specs.Bytes.{AreBytes, bytes_of, ProperNeeds, Keeps, longest_book}
use Rattle.book_bytes.proofs.Adding.{edges-are}
use Rattle.book_bytes.proofs.BytesLaws.{bytes_below, length-bytes}
use Rattle.book_bytes.proofs.RoundTrip.{every_book_read}

-- n numbers from u on
abbrev pub up_from : ℕ → ℕ → List ℕ
up_from u zero = []
up_from u (suc n) = u ∷ up_from (suc u) n

abbrev pub vertices : List ℕ
vertices = up_from 0 most_vertices

-- the arcs from u to every other vertex
abbrev pub arcs_from : ℕ → List Arc
arcs_from u = flat_map (λ v. cond (eqb u v) [] (record { tail = u; head = v; weight = 0 } ∷ [])) vertices

-- from 1 January to 31 December
abbrev pub all_year : Window
all_year = record { first = record { day = 1; month = 1 }; last = record { day = 31; month = 12 } }

unfoldable pub full_book : Book
full_book = record {
  count = most_vertices;
  arcs = flat_map arcs_from vertices;
  sets = replicate most_sets (record { needs = record { flags = 0; window = Some all_year }; paths = replicate 16 (up_from 0 longest_path) });
}

-- ---- it keeps the rules: by computed tests, each in one pass
tested : {A : Type 0} {P : A → Type 0} (p : A → Bool) → ((x : A) → p x ≡ true → P x) → (xs : List A) → all p xs ≡ true → All P xs
tested p is [] e = tt
tested p is (x ∷ xs) e =
    let both = and-true (p x) (all p xs) e in
    (is x both.0, tested p is xs both.1)

-- pairs in rising order are given once
abbrev number : Arc → ℕ
number a = a.tail * 64 + a.head

rising : ℕ → List Arc → Bool
rising n [] = true
rising n (a ∷ xs) = leb n (number a) && rising (suc (number a)) xs

rising-given : (n : ℕ) (xs : List Arc) → rising n xs ≡ true → (t h : ℕ) → t * 64 + h < n → given xs t h ≡ false
unfolding rising
rising-given n [] e t h l = refl
rising-given n (a ∷ xs) e t h l =
    let both = and-true (leb n (number a)) (rising (suc (number a)) xs) e in
    let low = leb-true n (number a) both.0 in
    given_cons a xs t h ∙ ap₂ ◌||◌
    (⊎_elim
    (λ y.
    let same = and-true (eqb a.tail t) (eqb a.head h) y in
    absurd (omega (arith, eqb-true a.tail t same.0, eqb-true a.head h same.1)))
    (λ n. n)
    (either (eqb a.tail t && eqb a.head h)))
    (rising-given (suc (number a)) xs both.1 t h (omega arith))

rising-once : (n : ℕ) (xs : List Arc) → rising n xs ≡ true → PairsOnce xs
unfolding rising
rising-once n [] e = tt
rising-once n (a ∷ xs) e =
    let rest = (and-true (leb n (number a)) (rising (suc (number a)) xs) e).1 in
    (rising-given (suc (number a)) xs rest a.tail a.head (omega arith), rising-once (suc (number a)) xs rest)

arcs_rise : rising 0 full_book.arcs ≡ true
unfolding full_book flat_map rising
arcs_rise = refl

arcs-all-proper : all (proper_arc most_vertices) full_book.arcs ≡ true
unfolding full_book flat_map
arcs-all-proper = refl

paths-all-proper : all (is_path most_vertices) (all_paths full_book.sets) ≡ true
unfolding full_book all_paths is_path are_vertices
paths-all-proper = refl

paths-few : leb (length (all_paths full_book.sets)) 256 ≡ true
unfolding full_book all_paths
paths-few = refl

proper-needs : (f : Needs) → (ltb f.flags 65536 ≡ true) × (window_fits f.window ≡ true) → ProperNeeds f
proper-needs f e = record { flags-fit = ltb-true f.flags 65536 e.0; edges = (edges-are f.window).0 e.1 }

pub full_keeps : Keeps full_book
unfolding full_book
full_keeps = record {
  some-vertex = omega arith;
  few-vertices = omega arith;
  arcs-proper = tested (proper_arc most_vertices) (is-arc most_vertices) full_book.arcs arcs-all-proper;
  pairs-once = rising-once 0 full_book.arcs arcs_rise;
  few-sets = leb-true _ _ refl;
  needs-proper = tested (λ s. ltb s.needs.flags 65536 && window_fits s.needs.window) (λ s e. proper-needs s.needs (and-true _ _ e)) full_book.sets refl;
  few-paths = leb-true _ _ paths-few;
  paths-proper = tested (is_path most_vertices) (is_path→IsPath most_vertices) (all_paths full_book.sets) paths-all-proper;
}

-- Its bytes are read, and are as many as any book's that is read.
pub full_length : length (bytes_of full_book) ≡ longest_book
unfolding full_book flat_map all_paths
full_length = length-bytes full_book

pub longest-attained : (s : List ℕ) × AreBytes s × (reading s ≡ accepted full_book) × (length s ≡ longest_book)
longest-attained = (bytes_of full_book, bytes_below full_book full_keeps, every_book_read full_book full_keeps, full_length)
