-- Sums of 01 on binding, on every date, and on checking, computed from the definitions: book A.
use Rattle.std.specs.Prelude.{ℕ, List, [], ◌∷◌, ◌++◌, ◌≡◌, refl, set, replicate, Some, None, Ok, Err}
use Rattle.std.proofs.Common.{ap, lit≤}
use Rattle.book.specs.declared.Refusal.TheVariants.{Invalid, NotAWalk}
use Rattle.book.specs.Book.{all_paths, is_path, are_vertices}
use Rattle.examples.specs.Batches.{marks, ForDates}
use Rattle.examples.specs.Books.{bytes_a, book_a, book-A}
use Rattle.examples.specs.Sums.{binds}
use Rattle.book.specs.Reading.{reading, fields, add_path}
use Rattle.book.specs.Tables.{entries}
use Rattle.rules.specs.Binding.{covers, applied, once}
use Rattle.rules.specs.Area.{written, blocks}
use Rattle.walk_check.specs.Checking.{first_from, check_from}
use Rattle.rules.specs.Operations.{binding, bound_as, area_after}
use Rattle.walk_check.specs.Checking.{checking}

-- An area of 2,304 bytes, with one byte after them.
abbrev lent : List ℕ
lent = replicate 2304 7 ++ (9 ∷ [])

-- What binding answers to these marks, on every date, and the bytes that it leaves, after them those of `rest` zeros and the byte.
abbrev Binds : ℕ → ℕ → List ℕ → ℕ → Type 0
Binds n count bytes rest =
    ForDates (λ date. (bound_as (binding bytes_a (marks n date) lent) ≡ Ok count)
    × (area_after (binding bytes_a (marks n date) lent) lent ≡ bytes ++ (replicate rest 0 ++ (9 ∷ []))))

pub marks_0 : Binds 0 0 [] 2304
unfolding is_path are_vertices entries covers applied
marks_0 date valid =
    let is = binds bytes_a book_a book-A (marks 0 date) valid lent (lit≤ tt) in
    (ap bound_as is, ap (λ x. area_after x lent) is)

pub marks_1 : Binds 1 1 (4 ∷ 0 ∷ 1 ∷ 2 ∷ 3 ∷ []) 2299
unfolding is_path are_vertices entries covers applied
marks_1 date valid =
    let is = binds bytes_a book_a book-A (marks 1 date) valid lent (lit≤ tt) in
    (ap bound_as is, ap (λ x. area_after x lent) is)

pub marks_2 : Binds 2 1 (3 ∷ 0 ∷ 2 ∷ 3 ∷ []) 2300
unfolding is_path are_vertices entries covers applied
marks_2 date valid =
    let is = binds bytes_a book_a book-A (marks 2 date) valid lent (lit≤ tt) in
    (ap bound_as is, ap (λ x. area_after x lent) is)

abbrev runs-3 : List ℕ
runs-3 = 4 ∷ 0 ∷ 1 ∷ 2 ∷ 3 ∷ 0 ∷ 0 ∷ 0 ∷ 0 ∷ 3 ∷ 0 ∷ 2 ∷ 3 ∷ []

pub marks_3 : Binds 3 2 runs-3 2291
unfolding is_path are_vertices entries covers applied
marks_3 date valid =
    let is = binds bytes_a book_a book-A (marks 3 date) valid lent (lit≤ tt) in
    (ap bound_as is, ap (λ x. area_after x lent) is)

-- The area that marks 3 leave, and what the check says of line-ups with it.
abbrev area-3 : List ℕ
area-3 = runs-3 ++ (replicate 2291 0 ++ (9 ∷ []))

pub clear : checking bytes_a area-3 2 (0 ∷ 1 ∷ 2 ∷ 1 ∷ 2 ∷ 3 ∷ []) ≡ Ok None
unfolding reading fields is_path are_vertices add_path all_paths entries covers applied once blocks first_from check_from
clear = refl

pub run-found : checking bytes_a area-3 2 (0 ∷ 1 ∷ 2 ∷ 3 ∷ []) ≡ Ok (Some (record { place = 0; length = 4 }))
unfolding reading fields is_path are_vertices add_path all_paths entries covers applied once blocks first_from check_from
run-found = refl

-- Two paths with one end: the shorter is named. Two ends: the earlier is.
pub shorter_named : checking bytes_a (written ((1 ∷ 2 ∷ 3 ∷ []) ∷ (2 ∷ 3 ∷ []) ∷ [])) 2 (0 ∷ 1 ∷ 2 ∷ 3 ∷ []) ≡ Ok (Some (record { place = 2; length = 2 }))
unfolding reading fields is_path are_vertices add_path all_paths entries once blocks first_from check_from
shorter_named = refl

pub earlier-named : checking bytes_a (written ((2 ∷ 3 ∷ []) ∷ (0 ∷ 1 ∷ 2 ∷ []) ∷ [])) 2 (0 ∷ 1 ∷ 2 ∷ 3 ∷ []) ≡ Ok (Some (record { place = 0; length = 3 }))
unfolding reading fields is_path are_vertices add_path all_paths entries once blocks first_from check_from
earlier-named = refl

-- 3 to 0 is no arc; an unused byte that is not 0 is refused first.
pub no_walk : checking bytes_a area-3 2 (3 ∷ 0 ∷ []) ≡ Err NotAWalk
unfolding reading fields is_path are_vertices add_path all_paths entries covers applied once blocks first_from check_from
no_walk = refl

pub unused_byte : checking bytes_a (set area-3 8 1) 2 (3 ∷ 0 ∷ []) ≡ Err Invalid
unfolding reading fields is_path are_vertices add_path all_paths entries covers applied once blocks first_from check_from
unused_byte = refl
