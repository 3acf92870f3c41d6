-- One item more; and why it is enough to look at the first 4,100.
use Rattle.std.specs.Prelude.{ℕ, zero, suc, ◌+◌, ◌*◌, ◌/◌, ◌≤◌, ◌<◌, ◌≡◌, refl, Bool, true, false, cond, List, [], ◌∷◌, ◌++◌, ltb, length, take, drop, set}
use Rattle.std.proofs.Common.{le_refl, le_of_lt, add-one, arith, sym, ap, ◌∙◌, ltb-true, ltb-false, drop-drop, take-suc-set}
use Rattle.book.specs.Book.{Book, WellFormed}
use Rattle.book_bytes.proofs.BookSize.{few-arcs}
use Rattle.book.specs.declared.Arc.{Arc as Item}
use Rattle.listed.specs.Listing.{listing}
use Rattle.listed.proofs.LongList.{first-items}
use Rattle.plan_list.specs.Items.{item_of, first_items, items_of, most_items, items_in}

one_more : (i : ℕ) (s : List ℕ) → first_items (suc i) s ≡ first_items i s ++ (item_of (drop (i * 6) s) ∷ [])
unfolding first_items
one_more zero s = refl
one_more (suc i) s =
    let next : 6 + i * 6 ≡ suc i * 6 = omega arith in
    ap (λ l. item_of s ∷ l) (one_more i (drop 6 s))
    ∙ ap (λ l. item_of s ∷ (first_items i (drop 6 s) ++ (item_of l ∷ []))) (drop-drop (i * 6) 6 s ∙ ap (λ k. drop k s) next)

-- what a store adds to the items that stand
pub entered : (i : ℕ) (s : List ℕ) (arcs : List Item) → i < length arcs → take i arcs ≡ first_items i s → take (i + 1) (set arcs i (item_of (drop (i * 6) s))) ≡ first_items (i + 1) s
entered i s arcs within is =
    ap (λ k. take k (set arcs i (item_of (drop (i * 6) s)))) (add-one i)
    ∙ take-suc-set arcs i (item_of (drop (i * 6) s)) within
    ∙ ap (λ l. l ++ (item_of (drop (i * 6) s) ∷ [])) is
    ∙ sym (one_more i s)
    ∙ ap (λ k. first_items k s) (sym (add-one i))

-- the items that are looked at are in the list
pub items-fit : (n : ℕ) → (items_in n ≤ most_items) × (items_in n * 6 ≤ n)
items-fit n = go (ltb most_items (n / 6)) refl
  where
    go : (x : Bool) → ltb most_items (n / 6) ≡ x → (cond x most_items (n / 6) ≤ most_items) × (cond x most_items (n / 6) * 6 ≤ n)
    go true e = (le_refl most_items, omega (arith, ltb-true most_items (n / 6) e))
    go false e = (ltb-false most_items (n / 6) e, omega arith)

first-of-more : (m k : ℕ) (s : List ℕ) → m ≤ k → take m (first_items k s) ≡ first_items m s
unfolding first_items
first-of-more zero k s h = refl
first-of-more (suc m) zero s h = absurd (omega arith)
first-of-more (suc m) (suc k) s h = ap (λ l. item_of s ∷ l) (first-of-more m k (drop 6 s) (omega arith))

-- a book has fewer arcs than that
fewer : (b : Book) → WellFormed b → length b.arcs < most_items
fewer b w = omega (arith, few-arcs b.count w.few-vertices b.arcs w.arcs-proper w.pairs-once)

-- the items that are looked at come to what all of them come to
pub enough-items : (v : ℕ) (s : List ℕ) → listing v (first_items (items_in (length s)) s) ≡ listing v (items_of s)
enough-items v s = go (ltb most_items (length s / 6)) refl
  where
    go : (x : Bool) → ltb most_items (length s / 6) ≡ x → listing v (first_items (cond x most_items (length s / 6)) s) ≡ listing v (items_of s)
    go true e =
        ap (listing v) (sym (first-of-more most_items (length s / 6) s (le_of_lt (ltb-true most_items (length s / 6) e))))
        ∙ first-items most_items fewer v (items_of s)
    go false e = refl
