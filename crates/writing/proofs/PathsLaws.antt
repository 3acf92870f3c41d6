-- The paths of a rule set, one by one of the tables.
use Rattle.std.specs.Prelude.{ℕ, zero, suc, ◌+◌, ◌-◌, ◌*◌, ◌≤◌, ◌<◌, ◌≢◌, ◌≡◌, refl, length, get_or, take, drop}
use Rattle.std.proofs.Common.{sym, ap, ap₂, subst, ◌∙◌, ⊎_elim, eq-or-lt_of_le, arith, take_at, drop-cons, drop_of_length-le}
use mathlib.Core.List.{List, [], ◌∷◌, ◌++◌, append_assoc, flat_map}
use Rattle.std.proofs.Math.Seq.{drop-append-add}
use Rattle.limits.specs.Limits.{entry_size}
use Rattle.book.specs.declared.Loaded.{Loaded}
use Rattle.book.specs.Book.{Book, All, all_paths}
use Rattle.book.specs.Tables.{entry, entries, owners_from}
use Rattle.book.specs.EntryLaws.{Short}
use Rattle.book.proofs.EntryLaws.{length-entry}
use Rattle.book.proofs.LoadedLaws.{get_or-padding, sets-short}
use Rattle.book_bytes.specs.Bytes.{field_of, path_field}
use Rattle.writing.specs.Kept.{set_at, first_path, PathsFrom}
use Rattle.writing.proofs.Pieces.{Left, left_none, left_next, left_room}
use Rattle.writing.proofs.SetsLaws.{first_next, last_within, path_inside, owner_inside, owner_after}

-- the entry of the path with an index
entry-at : (F : List (List ℕ)) (rest : List ℕ) (j : ℕ) → All Short F → j < length F
    → Short (get_or F j []) × (take entry_size (drop (j * entry_size) (entries F ++ rest)) ≡ entry (get_or F j []))
unfolding entries
entry-at [] rest j short h = absurd (omega arith)
entry-at (p ∷ F) rest zero short h =
    (short.0, ap (take entry_size) (append_assoc (entry p) (entries F) rest) ∙ take_at (entry p) _ entry_size (length-entry p short.0))
entry-at (p ∷ F) rest (suc j) short h =
    let (fits, is) = entry-at F rest j short.1 (omega arith) in
    let further : suc j * entry_size ≡ length (entry p) + j * entry_size = omega (arith, length-entry p short.0) in (
      fits,
      ap₂ (λ n t. take entry_size (drop n t)) further (append_assoc (entry p) (entries F) rest)
          ∙ ap (take entry_size) (drop-append-add (entry p) (entries F ++ rest) (j * entry_size))
          ∙ is,
    )

-- Of the paths of a rule set, those before the path j of the book are written.
pub record PathsTo (b : Book) (k from : ℕ) (old : List ℕ) (j : ℕ) (new : List ℕ) : Type 0 where
  pub low : from ≤ j
  pub high : j ≤ from + length (set_at b k).paths
  pub left : Left (flat_map path_field (set_at b k).paths) old (flat_map path_field (drop (j - from) (set_at b k).paths)) new

module _ {b : Book} {l : Loaded} {k from : ℕ} (p : PathsFrom b l k from) {old new : List ℕ} {j : ℕ} (t : PathsTo b k from old j new) where
  abbrev paths : List (List ℕ)
  paths = (set_at b k).paths

  owner : get_or l.owners j 0 ≡ get_or (owners_from 0 b.sets) j 0
  owner = ap (λ os. get_or os j 0) p.kept.tables.sets.owners_are ∙ get_or-padding 0 (owners_from 0 b.sets) _ j

  -- At a path that isn't its own all its paths are written.
  pub paths_done : (j < l.counts.paths → get_or l.owners j 0 ≢ k) → (j ≡ first_path b (k + 1)) × (new ≡ old ++ flat_map path_field paths)
  unfolding flat_map
  paths_done other = (omega (arith, last, p.first, first_next b.sets k p.listed), left_none t.left (ap (flat_map path_field) (drop_of_length-le paths (omega (arith, last)))))
    where
      last : j ≡ from + length paths
      last =
          ⊎_elim (λ e. e)
          (λ below.
          let index : j ≡ first_path b k + (j - from) = omega (arith, p.first, t.low) in
          absurd (other (omega (arith, p.first, last_within b.sets k p.listed, p.kept.tables.sets.counted)) (owner ∙ ap (λ i. get_or (owners_from 0 b.sets) i 0) index ∙ owner_inside b.sets k p.listed (j - from) (omega (arith, t.low)))))
          (eq-or-lt_of_le t.high)

  module _ (more : j < l.counts.paths) (own : get_or l.owners j 0 ≡ k) where
    abbrev path : List ℕ
    path = get_or paths (j - from) []

    inside : j < from + length paths
    inside =
        ⊎_elim
        (λ e.
        let end : j ≡ first_path b k + length paths = omega (arith, p.first) in
        absurd (owner_after b.sets k p.listed (omega (arith, p.kept.tables.sets.counted)) (ap (λ i. get_or (owners_from 0 b.sets) i 0) (sym end) ∙ sym owner ∙ own)))
        (λ below. below)
        (eq-or-lt_of_le t.high)

    path_is : get_or (all_paths b.sets) j [] ≡ path
    path_is =
        let index : j ≡ first_path b k + (j - from) = omega (arith, p.first, t.low) in
        ap (λ i. get_or (all_paths b.sets) i []) index ∙ path_inside b.sets k p.listed (j - from) (omega (arith, t.low, inside))

    -- the entry that is read
    abbrev read : List ℕ
    read = take ((j + 1) * 9 - j * 9) (drop (j * 9) l.entries)

    read_is : Short path × (read ≡ entry path)
    read_is =
        let nine : (j + 1) * 9 - j * 9 ≡ 9 = omega arith in
        let (fits, is) = entry-at (all_paths b.sets) _ j (sets-short p.kept.tables.sets) (omega (arith, p.kept.tables.sets.counted)) in
        (subst Short path_is fits, ap₂ (λ n t. take n (drop (j * 9) t)) nine p.kept.tables.sets.paths_are ∙ is ∙ ap entry path_is)

    path_here : flat_map path_field (drop (j - from) paths) ≡ path_field path ++ flat_map path_field (drop (j + 1 - from) paths)
    unfolding flat_map
    path_here =
        let next : suc (j - from) ≡ j + 1 - from = omega (arith, t.low) in
        ap (flat_map path_field) (drop-cons paths (j - from) [] (omega (arith, t.low, inside)) ∙ ap (λ i. path ∷ drop i paths) next)

    -- Its first byte says how many vertices follow.
    module _ {n : ℕ} (size : n ≡ get_or read 0 0) where
      size_is : n ≡ length path
      size_is = size ∙ ap (λ e. get_or e 0 0) read_is.1

      pub entry_room : 1 + n ≤ length read
      entry_room = omega (arith, size_is, read_is.0, ap length read_is.1, length-entry path read_is.0)

      body_is : take (1 + n - 1) (drop 1 read) ≡ path
      body_is =
          let same : 1 + n - 1 ≡ length path = omega (arith, size_is) in
          ap₂ (λ m e. take m (drop 1 e)) same read_is.1 ∙ take_at path _ (length path) refl

      pub body_room : (m : ℕ) → length old + length (flat_map path_field paths) ≤ m → length new + 3 + length (take (1 + n - 1) (drop 1 read)) ≤ m
      body_room m room = omega (arith, ap length body_is, left_room (path_field path) _ t.left path_here m room)

      pub path_next : {new' : List ℕ} → new' ≡ new ++ field_of 4 (take (1 + n - 1) (drop 1 read)) → PathsTo b k from old (j + 1) new'
      path_next e = record {
        low = omega (arith, t.low);
        high = omega (arith, inside);
        left = left_next (path_field path) _ t.left path_here (e ∙ ap (λ body. new ++ field_of 4 body) body_is);
      }
