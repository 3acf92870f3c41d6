-- The runs area (01): 256 entries of nine bytes, a length and eight vertices each, unused bytes 0. Bytes after them are not judged.
use Rattle.std.specs.Prelude.{ℕ, zero, suc, Bool, ◌&&◌, List, [], ◌∷◌, map, leb, get_or, take, drop}
use Rattle.lists.specs.Test.{all}
use Rattle.limits.specs.Limits.{most_paths, entry_size, area_size, longest_path}
use Rattle.walks.specs.Avoid.{same}
use Rattle.book.specs.Book.{is_path}
use Rattle.book.specs.Tables.{padded, entries}
use Rattle.rules.specs.Binding.{once}

-- The bytes that hold the paths of F.
abbrev pub written : List (List ℕ) → List ℕ
written F = padded area_size (entries F)

-- The first n entries of an area.
unfoldable pub blocks : ℕ → List ℕ → List (List ℕ)
blocks zero t = []
blocks (suc n) t = take entry_size t ∷ blocks n (drop entry_size t)

-- The path that an entry spells: as many of its vertices as its length says.
abbrev pub path_of : List ℕ → List ℕ
path_of e = take (get_or e 0 0) (drop 1 e)

-- The forbidden set that an area and a count of paths spell.
abbrev pub spelled : ℕ → List ℕ → List (List ℕ)
spelled count area = map path_of (blocks count area)

-- An entry that spells a path that the book's rules take.
abbrev pub is_entry : ℕ → List ℕ → Bool
is_entry vertices e = leb (get_or e 0 0) longest_path && is_path vertices (path_of e)

-- 9: at most 256 paths, each by the book's rules, none repeated, and every unused byte 0.
abbrev pub valid : ℕ → List ℕ → ℕ → Bool
valid vertices area count =
    leb count most_paths && all (is_entry vertices) (blocks count area) && once (spelled count area) && same (take area_size area) (written (spelled count area))
