-- The laws of what specs/EntryLaws.antt defines.
use Rattle.std.specs.Prelude.{ℕ, suc, ◌*◌, ◌≤◌, ◌≡◌, refl, List, [], ◌∷◌, ◌++◌, length}
use Rattle.std.proofs.Common.{sym, ap, ◌∙◌, append_assoc, append-nil, arith, length-append}
use Rattle.std.proofs.lemmas.List.{length-replicate}
use Rattle.limits.specs.Limits.{entry_size}
use Rattle.book.specs.Book.{RuleSet, All, all_paths}
use Rattle.book.specs.Tables.{padded, entry, entries, owners_from}
use Rattle.book.specs.EntryLaws.{Short}

pub length-padded : (n : ℕ) (l : List ℕ) → length l ≤ n → length (padded n l) ≡ n
length-padded n l h = simp (length-append, length-replicate) (omega arith)

pub length_owners : (k : ℕ) (ss : List RuleSet) → length (owners_from k ss) ≡ length (all_paths ss)
unfolding owners_from all_paths
length_owners k [] = refl
length_owners k (s ∷ ss) = simp (length-append, length-replicate, length_owners (suc k) ss)

pub length-entry : (p : List ℕ) → Short p → length (entry p) ≡ entry_size
length-entry p h = simp (length-append, length-replicate) (omega arith)

-- What is proved of no entries, and of entries after one more, whatever stands after them, is proved of all.
pub entries_induction : (P : List ℕ → List (List ℕ) → Type 0) (rest : List ℕ) → P rest []
    → ((p : List ℕ) (F : List (List ℕ)) (l : List ℕ) → Short p → P l F → P (entry p ++ l) (p ∷ F))
    → (F : List (List ℕ)) → All Short F → P (entries F ++ rest) F
unfolding entries
entries_induction P rest nil cons [] h = nil
entries_induction P rest nil cons (p ∷ F) h =
    rw (append_assoc (entry p) (entries F) rest) (cons p F (entries F ++ rest) h.0 (entries_induction P rest nil cons F h.1))

pub entries_append : (F G : List (List ℕ)) → entries (F ++ G) ≡ entries F ++ entries G
unfolding entries
entries_append [] G = refl
entries_append (p ∷ F) G = ap (λ l. entry p ++ l) (entries_append F G) ∙ sym (append_assoc (entry p) (entries F) (entries G))

pub entries_snoc : (F : List (List ℕ)) (p : List ℕ) → entries (F ++ (p ∷ [])) ≡ entries F ++ entry p
unfolding entries
entries_snoc F p = entries_append F (p ∷ []) ∙ ap (λ l. entries F ++ l) (append-nil (entry p))

pub length-entries : (F : List (List ℕ)) → All Short F → length (entries F) ≡ length F * entry_size
unfolding entries
length-entries [] h = refl
length-entries (p ∷ F) h = length-append (entry p) (entries F) ∙ omega (arith, length-entry p h.0, length-entries F h.1)
