-- The laws of what specs/AreaLaws.antt defines.
use Rattle.std.specs.Prelude.{ℕ, zero, suc, ◌+◌, ◌-◌, ◌*◌, ◌≤◌, ◌<◌, ◌||◌, List, [], ◌∷◌, ◌++◌, map, ◌≡◌, refl, length, get_or, take, drop}
use Rattle.std.proofs.Common.{append_assoc, sym, ap, ap₂, ◌∙◌, add-zero, zero-add, arith, length-append, length-drop, take_at, drop_at, drop-drop, take-take, get_or-take, get_or-drop, length-take-le}
use Rattle.std.proofs.lemmas.List.{map-append, length-replicate, replicate-append-replicate}
use Rattle.std.proofs.Math.Seq.{paste, take-append_seam, drop-append-add}
use borrow.Rule.Slice.PartMut.{put_mid}
use Rattle.limits.specs.Limits.{entry_size, longest_path}
use Rattle.book.specs.Book.{All}
use Rattle.book.specs.Tables.{padded, entry, entries}
use Rattle.book.specs.EntryLaws.{Short}
use Rattle.book.proofs.EntryLaws.{length-entry}
use Rattle.rules.specs.Binding.{member}
use Rattle.rules.specs.Area.{blocks, path_of, spelled}
use Rattle.rules.proofs.Sets.{same-iff}
use Rattle.rules.specs.AreaLaws.{zeros}

-- ---- parts of lists
module _ (l : List ℕ) (at n : ℕ) where
  pub part_length : at + n ≤ length l → length (take n (drop at l)) ≡ n
  part_length h = length-take-le n (drop at l) (omega (arith, length-drop at l))

  pub part_at : (i : ℕ) → i < n → get_or (take n (drop at l)) i 0 ≡ get_or l (at + i) 0
  part_at i h = get_or-take n (drop at l) i 0 h ∙ get_or-drop at l i 0

drop-zeros : (m k j : ℕ) → k - m ≡ j → drop m (zeros k) ≡ zeros j
drop-zeros zero k j e = ap zeros (let same : k ≡ j = omega arith in same)
drop-zeros (suc m) zero j e = ap zeros (let same : 0 ≡ j = omega arith in same)
drop-zeros (suc m) (suc k) j e = drop-zeros m k j (omega arith)

zeros-after : (l : List ℕ) (k m n : ℕ) → k + m ≡ n → l ++ zeros k ++ zeros m ≡ l ++ zeros n
zeros-after l k m n e = append_assoc l (zeros k) (zeros m) ∙ ap (λ z. l ++ z) (replicate-append-replicate k m 0 ∙ ap zeros e)

pub padded-zeros : (n : ℕ) (l : List ℕ) (k : ℕ) → length l + k ≤ n → padded n (l ++ zeros k) ≡ padded n l
padded-zeros n l k h = zeros-after l k (n - length (l ++ zeros k)) (n - length l) (simp (length-append, length-replicate) (omega arith))

-- bytes that are written right after the list
pub padded-put_mid : (n : ℕ) (l x : List ℕ) → length l + length x ≤ n → put_mid (length l) (length x) (padded n l) x ≡ padded n (l ++ x)
padded-put_mid n l x h =
    let left : ℕ = n - length l in
    ap₂ (λ a b. a ++ (x ++ drop (length x) b)) (take-append_seam l (zeros left)) (drop_at l (zeros left) (length l) refl)
    ∙ ap (λ z. l ++ (x ++ z)) (drop-zeros (length x) left (n - length (l ++ x)) (simp length-append (omega arith)))
    ∙ sym (append_assoc l x _)

pub padded-paste : (n : ℕ) (l x y : List ℕ) → length l + length x ≤ n → paste (padded n l) (length l) (x ++ y) (length x) ≡ padded n (l ++ x)
padded-paste n l x y h =
    ap₂ (λ a b. a ++ b ++ drop (length l + length x) (padded n l)) (take-append_seam l (zeros (n - length l))) (take-append_seam x y)
    ∙ ap (λ z. l ++ x ++ z)
    (drop-append-add l (zeros (n - length l)) (length x) ∙ drop-zeros (length x) (n - length l) (n - length (l ++ x)) (simp length-append (omega arith)))

-- ---- entries
pub path-of-entry : (p : List ℕ) → path_of (entry p) ≡ p
path-of-entry p = take-append_seam p _

-- the entry at an index
pub entry-at : (F : List (List ℕ)) (rest : List ℕ) (k : ℕ) → All Short F → k < length F → take entry_size (drop (k * entry_size) (entries F ++ rest)) ≡ entry (get_or F k [])
unfolding entries
entry-at [] rest k h l = absurd (omega arith)
entry-at (p ∷ F) rest zero h l = ap (take entry_size) (append_assoc (entry p) (entries F) rest) ∙ take_at (entry p) _ entry_size (length-entry p h.0)
entry-at (p ∷ F) rest (suc k) h l =
    let further : suc k * entry_size ≡ length (entry p) + k * entry_size = omega (arith, length-entry p h.0) in
    ap₂ (λ n t. take entry_size (drop n t)) further (append_assoc (entry p) (entries F) rest)
    ∙ ap (take entry_size) (drop-append-add (entry p) (entries F ++ rest) (k * entry_size))
    ∙ entry-at F rest k h.1 (omega arith)

-- two entries are equal exactly if their paths are
pub member-entry : (p : List ℕ) (F : List (List ℕ)) → member (entry p) (map entry F) ≡ member p F
member-entry p [] = refl
member-entry p (q ∷ F) =
    ap₂ (λ x y. x || y) (same-iff (entry p) (entry q) p q (λ e. sym (path-of-entry p) ∙ ap path_of e ∙ path-of-entry q) (ap entry)) (member-entry p F)

-- ---- the entry at a byte, and the path that it spells
module _ (area : List ℕ) (at : ℕ) where
  pub length-byte : get_or (take entry_size (drop at area)) 0 0 ≡ get_or area at 0
  length-byte = part_at area at entry_size 0 (omega arith) ∙ ap (λ i. get_or area i 0) (add-zero at)

  vertices-of : (l : List ℕ) → drop 1 (take entry_size l) ≡ take longest_path (drop 1 l)
  vertices-of [] = refl
  vertices-of (x ∷ l) = refl

  pub path_part : (n : ℕ) → get_or area at 0 ≡ n → n ≤ longest_path → path_of (take entry_size (drop at area)) ≡ take n (drop (at + 1) area)
  path_part n e short =
      ap₂ take (length-byte ∙ e) (vertices-of (drop at area))
      ∙ take-take n longest_path (drop 1 (drop at area)) short
      ∙ ap (take n) (drop-drop 1 at area)

  pub path-size : at + entry_size ≤ length area → get_or area at 0 ≤ longest_path → length (path_of (take entry_size (drop at area))) ≡ get_or area at 0
  path-size within short = ap length (path_part (get_or area at 0) refl short) ∙ part_length area (at + 1) (get_or area at 0) (omega arith)

-- ---- the entries of an area
pub length-blocks : (n : ℕ) (t : List ℕ) → length (blocks n t) ≡ n
unfolding blocks
length-blocks zero t = refl
length-blocks (suc n) t = ap suc (length-blocks n (drop entry_size t))

pub blocks_append : (n m : ℕ) (t : List ℕ) → blocks (n + m) t ≡ blocks n t ++ blocks m (drop (n * entry_size) t)
unfolding blocks
blocks_append zero m t = ap (λ k. blocks k t) (zero-add m)
blocks_append (suc n) m t =
    let turn : suc n + m ≡ suc (n + m) = omega arith in
    let further : entry_size + n * entry_size ≡ suc n * entry_size = omega arith in
    ap (λ k. blocks k t) turn
    ∙ ap (λ l. take entry_size t ∷ l) (blocks_append n m (drop entry_size t) ∙ ap (λ s. blocks n (drop entry_size t) ++ blocks m s) (drop-drop (n * entry_size) entry_size t ∙ ap (λ k. drop k t) further))

-- the entry at k is the first of those from k on, and the last of those up to it
pub blocks_from : (n k : ℕ) (t : List ℕ) → k < n → blocks (n - k) (drop (k * entry_size) t) ≡ take entry_size (drop (k * entry_size) t) ∷ blocks (n - (k + 1)) (drop ((k + 1) * entry_size) t)
unfolding blocks
blocks_from n k t h =
    let turn : n - k ≡ suc (n - (k + 1)) = omega arith in
    let further : k * entry_size + entry_size ≡ (k + 1) * entry_size = omega arith in
    ap (λ m. blocks m (drop (k * entry_size) t)) turn ∙ ap (λ s. take entry_size (drop (k * entry_size) t) ∷ blocks (n - (k + 1)) s) (drop-drop entry_size (k * entry_size) t ∙ ap (λ m. drop m t) further)

pub blocks_up_to : (k : ℕ) (t : List ℕ) → blocks (k + 1) t ≡ blocks k t ++ (take entry_size (drop (k * entry_size) t) ∷ [])
unfolding blocks
blocks_up_to k t = blocks_append k 1 t

pub spelled_up_to : (k : ℕ) (t : List ℕ) → spelled (k + 1) t ≡ spelled k t ++ (path_of (take entry_size (drop (k * entry_size) t)) ∷ [])
spelled_up_to k t = ap (map path_of) (blocks_up_to k t) ∙ map-append path_of (blocks k t) _

-- an area that holds the paths of F has them as its entries
pub blocks-entries : (F : List (List ℕ)) (rest : List ℕ) → All Short F → blocks (length F) (entries F ++ rest) ≡ map entry F
unfolding blocks entries
blocks-entries [] rest h = refl
blocks-entries (p ∷ F) rest h =
    let nine = length-entry p h.0 in
    ap (λ t. take entry_size t ∷ blocks (length F) (drop entry_size t)) (append_assoc (entry p) (entries F) rest)
    ∙ ap₂ (λ e t. e ∷ blocks (length F) t) (take_at (entry p) _ entry_size nine) (drop_at (entry p) (entries F ++ rest) entry_size nine)
    ∙ ap (λ l. entry p ∷ l) (blocks-entries F rest h.1)

pub spelled-entries : (F : List (List ℕ)) (rest : List ℕ) → All Short F → spelled (length F) (entries F ++ rest) ≡ F
spelled-entries F rest h = ap (map path_of) (blocks-entries F rest h) ∙ paths F
  where
    paths : (G : List (List ℕ)) → map path_of (map entry G) ≡ G
    paths [] = refl
    paths (p ∷ G) = ap₂ (λ q l. q ∷ l) (path-of-entry p) (paths G)
