-- Lists that are padded up to a length: what a write right after the list makes of them.
use Prim.Native.Nat.{ℕ, ◌+◌, ◌-◌, ◌≤◌, ◌<◌}
use mathlib.Core.Path.{◌≡◌, sym, ap, ◌∙◌}
use mathlib.Core.List.{List, [], ◌∷◌, ◌++◌, append_assoc}
use native.Mathlib.Nat.{le_refl}
use native.Mathlib.Omega.{arith}
use lib.ListN.{length, set, take, drop, replicate, length-append, length-replicate, replicate-append-replicate}
use lib.Seq.{set-append_seam, append_snoc, paste, take_at, drop_at, take_all, drop-append-add}
use Rattle.book.specs.Tables.{padded_with, padded, entry}

split : {A : Type 0} (x : A) (n m k : ℕ) → n ≡ m + k → replicate n x ≡ replicate m x ++ replicate k x
split x n m k e = ap (λ i. replicate i x) e ∙ sym (replicate-append-replicate m k x)

abbrev zeros : ℕ → List ℕ
zeros n = replicate n 0

-- the element after the list
pub padded-set : {A : Type 0} (z : A) (n : ℕ) (l : List A) (x : A) → length l < n
    → set (padded_with z n l) (length l) x ≡ padded_with z n (l ++ (x ∷ []))
padded-set z n l x h =
    let one : n - length l ≡ 1 + (n - length (l ++ (x ∷ []))) = simp length-append (omega arith) in
    ap (λ zs. set (l ++ zs) (length l) x) (split z _ 1 _ one)
    ∙ set-append_seam l z _ x
    ∙ sym (append_snoc l x _)

-- an entry after the list, written as its length and its vertices
pub padded-entry : (n : ℕ) (l p : List ℕ) → length p ≤ 8 → length l + 9 ≤ n
    → paste (set (padded n l) (length l) (length p)) (length l + 1) p (length p) ≡ padded n (l ++ entry p)
padded-entry n l p short h =
    let front : List ℕ = l ++ (length p ∷ []) in
    let front_length : length front ≡ length l + 1 = length-append l (length p ∷ []) in
    let rest : ℕ = n - length front - length p in
    let whole : n - length front ≡ length p + rest = omega arith in
    let after : rest ≡ 8 - length p + (n - length (l ++ entry p)) = simp (length-append, length-replicate) (omega (arith, front_length)) in
    ap (λ d. paste d (length l + 1) p (length p)) (padded-set 0 n l (length p) (omega arith))
    ∙ ap (λ q. q ++ take (length p) p ++ drop (length l + 1 + length p) (padded n front)) (take_at front _ (length l + 1) front_length)
    ∙ ap (λ q. front ++ q ++ drop (length l + 1 + length p) (padded n front)) (take_all (length p) p (le_refl _))
    ∙ ap (λ k. front ++ p ++ drop (k + length p) (padded n front)) (sym front_length)
    ∙ ap (λ q. front ++ p ++ q) (drop-append-add front (zeros (n - length front)) (length p))
    ∙ ap (λ q. front ++ p ++ drop (length p) q) (split 0 _ (length p) rest whole)
    ∙ ap (λ q. front ++ p ++ q) (drop_at (zeros (length p)) (zeros rest) (length p) (length-replicate (length p) 0))
    ∙ ap (λ q. front ++ p ++ q) (split 0 _ (8 - length p) _ after)
    ∙ simp append_assoc
