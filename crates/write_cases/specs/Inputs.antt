-- The input of write_book, which says a book's content in bytes and how long the area for the book is (02, order 6). Numbers stand high byte first. The
-- definitions read 0 behind the last byte: an input is cut short where it has fewer bytes than its counts say.
use Rattle.std.specs.Prelude.{ℕ, zero, suc, ◌+◌, ◌*◌, cond, List, [], ◌∷◌, ◌++◌, eqb, leb, length, get_or, take, drop, Option, Some, None}
use Rattle.book.specs.Reading.{u16_at, u32_at}

-- a size, where so many bytes are there
abbrev pub held : ℕ → List ℕ → Option ℕ
held size s = cond (leb size (length s)) (Some size) None

-- ---- arcs: tail, head, and the weight in four bytes
abbrev pub arc_numbers : List ℕ → List ℕ
arc_numbers s = get_or s 0 0 ∷ get_or s 1 0 ∷ u32_at s 2 ∷ []

unfoldable pub arcs_numbers : ℕ → List ℕ → List ℕ
arcs_numbers zero s = []
arcs_numbers (suc n) s = arc_numbers s ++ arcs_numbers n (drop 6 s)

-- ---- paths: the length, and as many vertices; these bytes are their numbers
abbrev pub path_size : List ℕ → ℕ
path_size s = 1 + get_or s 0 0

unfoldable pub paths_size : ℕ → List ℕ → ℕ
paths_size zero s = 0
paths_size (suc n) s = path_size s + paths_size n (drop (path_size s) s)

abbrev pub paths_numbers : ℕ → List ℕ → List ℕ
paths_numbers n s = take (paths_size n s) s

-- ---- rule sets: the flags in two bytes; 0, or another byte and the four of a window; the number of its paths in two bytes; and the paths
abbrev pub window_size : List ℕ → ℕ
window_size s = cond (eqb (get_or s 2 0) 0) 0 4

abbrev pub head_size : List ℕ → ℕ
head_size s = 5 + window_size s

abbrev pub paths_count : List ℕ → ℕ
paths_count s = u16_at s (3 + window_size s)

abbrev pub set_size : List ℕ → ℕ
set_size s = head_size s + paths_size (paths_count s) (drop (head_size s) s)

abbrev pub set_numbers : List ℕ → List ℕ
set_numbers s =
    u16_at s 0 ∷ (take (1 + window_size s) (drop 2 s) ++ (paths_count s ∷ paths_numbers (paths_count s) (drop (head_size s) s)))

unfoldable pub sets_size : ℕ → List ℕ → ℕ
sets_size zero s = 0
sets_size (suc n) s = set_size s + sets_size n (drop (set_size s) s)

unfoldable pub sets_numbers : ℕ → List ℕ → List ℕ
sets_numbers zero s = []
sets_numbers (suc n) s = set_numbers s ++ sets_numbers n (drop (set_size s) s)

-- ---- the whole: the count; how many arcs in two bytes, and the arcs; how many rule sets, and these; and the area's length in four bytes
abbrev pub sets_from : List ℕ → ℕ
sets_from s = 4 + u16_at s 1 * 6

abbrev pub sets_count : List ℕ → ℕ
sets_count s = get_or s (3 + u16_at s 1 * 6) 0

abbrev pub room_from : List ℕ → ℕ
room_from s = sets_from s + sets_size (sets_count s) (drop (sets_from s) s)

abbrev pub input_size : List ℕ → ℕ
input_size s = room_from s + 4

-- What an input says: a content in numbers, and the length of the area; none where it is cut short. What comes after that decides nothing.
pub record Said : Type 0 where
  pub vertices : ℕ
  pub arcs : List ℕ
  pub sets : List ℕ
  pub room : ℕ

abbrev pub said : List ℕ → Option Said
said s =
    cond (leb (input_size s) (length s))
    (Some
    (record {
      vertices = get_or s 0 0;
      arcs = arcs_numbers (u16_at s 1) (drop 3 s);
      sets = sets_numbers (sets_count s) (drop (sets_from s) s);
      room = u32_at s (room_from s);
    }))
    None
