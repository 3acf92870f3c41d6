-- The laws of what specs/ValidLaws.antt defines.
use Rattle.std.specs.Prelude.{ℕ, ◌-◌, ◌≤◌, Bool, ◌&&◌, List, [], ◌∷◌, ◌++◌, map, ◌≡◌, refl, leb, length, get_or, replicate}
use Rattle.std.proofs.Math.Bool.{true}
use Rattle.std.proofs.Common.{append_assoc, sym, ap₂, ◌∙◌, arith, leb-true, le-leb}
use Rattle.std.proofs.Math.Path.{ap}
use Rattle.std.proofs.Math.ListN.{take}
use Rattle.std.proofs.Math.Seq.{take_at}
use Rattle.lists.specs.Test.{all, and-true}
use Rattle.walks.specs.Avoid.{same}
use Rattle.book.specs.Book.{All, IsPath, is_path}
use Rattle.book.proofs.BookLaws.{IsPath→is_path, all_map}
use Rattle.book.specs.Tables.{entry, entries}
use Rattle.rules.specs.Binding.{once}
use Rattle.rules.specs.Area.{written, blocks, path_of, spelled, is_entry, valid}
use Rattle.limits.specs.Limits.{area_size, longest_path, most_paths}
use Rattle.book.specs.EntryLaws.{Short}
use Rattle.book.proofs.EntryLaws.{length-padded, length-entries}
use Rattle.rules.proofs.AreaLaws.{path-of-entry, blocks-entries, spelled-entries}
use Rattle.rules.proofs.Sets.{same_true, true_same}
use Rattle.rules.specs.ValidLaws.{Valid}
use Rattle.rules.proofs.EntryPath.{entry-path}

-- ---- entries
pub entry-fits : (v : ℕ) (e : List ℕ) → is_entry v e ≡ true → get_or e 0 0 ≤ longest_path
entry-fits v e h = leb-true _ _ (and-true (leb (get_or e 0 0) longest_path) _ h).0

path-entry : (v : ℕ) (p : List ℕ) → IsPath v p → is_entry v (entry p) ≡ true
path-entry v p h = ap (λ q. leb (length p) longest_path && is_path v q) (path-of-entry p) ∙ rw (le-leb _ _ h.eight, IsPath→is_path v p h)

module _ (v : ℕ) where
  pub entries_fit : (es : List (List ℕ)) → all (is_entry v) es ≡ true → All (λ e. get_or e 0 0 ≤ longest_path) es
  entries_fit [] h = tt
  entries_fit (e ∷ es) h =
      let both = and-true (is_entry v e) (all (is_entry v) es) h in
      (entry-fits v e both.0, entries_fit es both.1)

  paths-of : (es : List (List ℕ)) → all (is_entry v) es ≡ true → All (IsPath v) (map path_of es)
  paths-of [] h = tt
  paths-of (e ∷ es) h =
      let both = and-true (is_entry v e) (all (is_entry v) es) h in
      (entry-path v e both.0, paths-of es both.1)

  all-entries : (F : List (List ℕ)) → All (IsPath v) F → all (is_entry v) (map entry F) ≡ true
  all-entries [] h = refl
  all-entries (p ∷ F) h = ap₂ (λ x y. x && y) (path-entry v p h.0) (all-entries F h.1)

-- ---- the four tests
module _ (v : ℕ) (area : List ℕ) (count : ℕ) where
  four : valid v area count ≡ true
      → (count ≤ most_paths) × (all (is_entry v) (blocks count area) ≡ true) × (once (spelled count area) ≡ true) × (take area_size area ≡ written (spelled count area))
  four h =
      let (abc, d) = and-true (leb count most_paths && all (is_entry v) (blocks count area) && once (spelled count area)) (same (take area_size area) (written (spelled count area))) h in
      let (ab, c) = and-true (leb count most_paths && all (is_entry v) (blocks count area)) (once (spelled count area)) abc in
      let (a, b) = and-true (leb count most_paths) (all (is_entry v) (blocks count area)) ab in
      (leb-true _ _ a, b, c, same_true _ _ d)

  pub valid-fits : valid v area count ≡ true → (count ≤ most_paths) × All (λ e. get_or e 0 0 ≤ longest_path) (blocks count area)
  valid-fits h =
      let (few, every, _, _) = four h in
      (few, entries_fit v (blocks count area) every)

  pub valid→Valid : valid v area count ≡ true → Valid v area count
  valid→Valid h =
      let (few, every, different, bytes) = four h in
      record { few = few; paths = paths-of v (blocks count area) every; different = different; bytes = bytes }

-- An area written with different paths by the book's rules is valid, and spells them.
module _ (v : ℕ) (F : List (List ℕ)) (few : length F ≤ most_paths) (proper : All (IsPath v) F) (different : once F ≡ true) (rest : List ℕ) where
  short : All Short F
  short = all_map (λ p h. h.eight) F proper

  pub written-length : length (written F) ≡ area_size
  written-length = length-padded area_size (entries F) (omega (arith, length-entries F short))

  after : List ℕ
  after = replicate (area_size - length (entries F)) 0 ++ rest

  pub written-spells : spelled (length F) (written F ++ rest) ≡ F
  unfolding after
  written-spells = ap (spelled (length F)) (append_assoc (entries F) _ rest) ∙ spelled-entries F after short

  pub written-valid : valid v (written F ++ rest) (length F) ≡ true
  unfolding after
  written-valid =
      let every : all (is_entry v) (blocks (length F) (written F ++ rest)) ≡ true =
      ap (λ t. all (is_entry v) (blocks (length F) t)) (append_assoc (entries F) _ rest) ∙ ap (all (is_entry v)) (blocks-entries F after short) ∙ all-entries v F proper in
      let front : take area_size (written F ++ rest) ≡ written (spelled (length F) (written F ++ rest)) =
      take_at (written F) rest area_size written-length ∙ ap written (sym written-spells) in
      four_hold (leb (length F) most_paths) _ _ _ (le-leb _ _ few) every (ap once written-spells ∙ different) (true_same _ _ front)
    where
      four_hold : (a b c d : Bool) → a ≡ true → b ≡ true → c ≡ true → d ≡ true → a && b && c && d ≡ true
      four_hold a b c d p q r s = rw (p, q, r, s)
