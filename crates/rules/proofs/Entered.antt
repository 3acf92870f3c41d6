-- A path entered after those that an area holds, and looked up among them.
use Prim.Native.Nat.{ℕ, ◌+◌, ◌-◌, ◌*◌, ◌≤◌, ◌<◌}
use mathlib.Core.List.{List, [], ◌∷◌, ◌++◌, append_assoc, map}
use mathlib.Core.Path.{◌≡◌, sym, ap, ap₂, ◌∙◌}
use native.Mathlib.Omega.{arith}
use lib.ListN.{length, take, drop, replicate, length-append}
use lib.Seq.{get_or-append_seam}
use borrow.Rule.Slice.PartMut.{put_mid}
use Rattle.book.specs.Book.{All}
use Rattle.book.proofs.BookLaws.{all_snoc}
use Rattle.book.specs.Tables.{padded, entry, entries}
use Rattle.rules.specs.Binding.{member}
use Rattle.rules.specs.Area.{written, blocks}
use Rattle.limits.specs.Limits.{area_size}
use Rattle.book.specs.EntryLaws.{Short}
use Rattle.book.proofs.EntryLaws.{length-padded, length-entry, entries_snoc, length-entries}
use Rattle.rules.proofs.AreaLaws.{padded-zeros, padded-put_mid, entry-at, member-entry, blocks-entries}

module _ (F : List (List ℕ)) (short : All Short F) where
  pub length-written : length F ≤ 256 → length (written F) ≡ area_size
  length-written few = length-padded area_size (entries F) (omega (arith, length-entries F short))

  -- its entries
  pub blocks-written : (n : ℕ) → n ≡ length F → blocks n (written F) ≡ map entry F
  blocks-written n e = ap (λ k. blocks k (written F)) e ∙ blocks-entries F (replicate (area_size - length (entries F)) 0) short

  module _ (p : List ℕ) (fits : Short p) (room : length F < 256) where
    -- bytes that are written after them
    after_them : (x : List ℕ) (k : ℕ) → length x ≡ k → k ≤ 9 → put_mid (length F * 9) k (written F) x ≡ padded area_size (entries F ++ x)
    after_them x k e few =
        let front = length-entries F short in
        ap₂ (λ i m. put_mid i m (written F) x) (sym front) (sym e) ∙ padded-put_mid area_size (entries F) x (omega arith)

    -- an entry is written
    pub entry-entered : put_mid (length F * 9) 9 (written F) (entry p) ≡ written (F ++ (p ∷ []))
    entry-entered = after_them (entry p) 9 (length-entry p fits) (omega arith) ∙ ap (padded area_size) (sym (entries_snoc F p))

    -- the length and the vertices are written
    pub path-entered : put_mid (length F * 9) (1 + length p) (written F) (length p ∷ p) ≡ written (F ++ (p ∷ []))
    path-entered =
        let front = length-entries F short in
        after_them (length p ∷ p) (1 + length p) (omega arith) (omega arith)
        ∙ sym (padded-zeros area_size (entries F ++ (length p ∷ p)) (8 - length p) (simp length-append (omega arith)))
        ∙ ap (padded area_size) (append_assoc (entries F) (length p ∷ p) (replicate (8 - length p) 0) ∙ sym (entries_snoc F p))

    pub looked_up : member (take 9 (drop (length F * 9) (written (F ++ (p ∷ []))))) (blocks (length F) (written (F ++ (p ∷ [])))) ≡ member p F
    looked_up =
        let rest : List ℕ = replicate (area_size - length (entries (F ++ (p ∷ [])))) 0 in
        ap₂ member
        (entry-at (F ++ (p ∷ [])) rest (length F) (all_snoc Short F p short fits) (simp length-append (omega arith)) ∙ ap entry (get_or-append_seam F p [] []))
        (ap (λ t. blocks (length F) (t ++ rest)) (entries_snoc F p)
        ∙ ap (blocks (length F)) (append_assoc (entries F) (entry p) rest)
        ∙ blocks-entries F (entry p ++ rest) short)
        ∙ member-entry p F
