-- The items of a list in bytes: six bytes an item.
use Rattle.std.specs.Prelude.{ℕ, zero, suc, ◌/◌, cond, List, [], ◌∷◌, ltb, length, get_or, drop}
use Rattle.book.specs.Reading.{u32_at}
use Rattle.book.specs.declared.Arc.{Arc as Item}

-- tail, head, and the weight in four bytes, high byte first
abbrev pub item_of : List ℕ → Item
item_of s = record { tail = get_or s 0 0; head = get_or s 1 0; weight = u32_at s 2 }

-- the first n items
unfoldable pub first_items : ℕ → List ℕ → List Item
first_items zero s = []
first_items (suc n) s = item_of s ∷ first_items n (drop 6 s)

-- all of them; what is left after the last whole one is none
abbrev pub items_of : List ℕ → List Item
items_of s = first_items (length s / 6) s

-- How many are looked at, of a list of so many bytes. 64 vertices make 4,032 pairs, so that a longer list has a bad item before.
abbrev pub most_items : ℕ
most_items = 4100

abbrev pub items_in : ℕ → ℕ
items_in n = cond (ltb most_items (n / 6)) most_items (n / 6)
