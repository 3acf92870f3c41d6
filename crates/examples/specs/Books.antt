-- Sums of 01 on reading, computed from the definition.
use Rattle.std.specs.Prelude.{ℕ, ◌≡◌, refl, List, [], ◌∷◌, ◌++◌, None}
use Rattle.book.specs.declared.Refusal.TheVariants.{Truncated, Value}
use Rattle.book.specs.Book.{RuleSet, Book, all_paths, are_vertices}
use Rattle.book.specs.Reading.{accepted, refused, reading, fields, add_path}

-- Book A of 01
abbrev pub bytes_a : List ℕ
bytes_a =
    0x01 ∷ 0x00 ∷ 0x01 ∷ 0x04
    ∷ 0x02 ∷ 0x00 ∷ 0x06 ∷ 0x00 ∷ 0x01 ∷ 0x00 ∷ 0x00 ∷ 0x00 ∷ 0x64
    ∷ 0x02 ∷ 0x00 ∷ 0x06 ∷ 0x01 ∷ 0x02 ∷ 0x00 ∷ 0x00 ∷ 0x00 ∷ 0x64
    ∷ 0x02 ∷ 0x00 ∷ 0x06 ∷ 0x02 ∷ 0x03 ∷ 0x00 ∷ 0x00 ∷ 0x00 ∷ 0x64
    ∷ 0x02 ∷ 0x00 ∷ 0x06 ∷ 0x00 ∷ 0x02 ∷ 0x00 ∷ 0x00 ∷ 0x00 ∷ 0xfa
    ∷ 0x02 ∷ 0x00 ∷ 0x06 ∷ 0x02 ∷ 0x01 ∷ 0x00 ∷ 0x00 ∷ 0x00 ∷ 0x32
    ∷ 0x02 ∷ 0x00 ∷ 0x06 ∷ 0x01 ∷ 0x03 ∷ 0x00 ∷ 0x00 ∷ 0x01 ∷ 0x90
    ∷ 0x03 ∷ 0x00 ∷ 0x02 ∷ 0x00 ∷ 0x01
    ∷ 0x04 ∷ 0x00 ∷ 0x04 ∷ 0x00 ∷ 0x01 ∷ 0x02 ∷ 0x03
    ∷ 0x03 ∷ 0x00 ∷ 0x02 ∷ 0x00 ∷ 0x02
    ∷ 0x04 ∷ 0x00 ∷ 0x03 ∷ 0x00 ∷ 0x02 ∷ 0x03
    ∷ []

-- A rule set that needs these marks, on any date.
abbrev pub needing : ℕ → List (List ℕ) → RuleSet
needing flags paths = record { needs = record { flags = flags; window = None }; paths = paths }

abbrev pub book_a : Book
book_a =
    record {
      count = 4;
      arcs =
          record { tail = 0; head = 1; weight = 100 }
          ∷ record { tail = 1; head = 2; weight = 100 }
          ∷ record { tail = 2; head = 3; weight = 100 }
          ∷ record { tail = 0; head = 2; weight = 250 }
          ∷ record { tail = 2; head = 1; weight = 50 }
          ∷ record { tail = 1; head = 3; weight = 400 }
          ∷ [];
      sets =
          needing 1 ((0 ∷ 1 ∷ 2 ∷ 3 ∷ []) ∷ [])
          ∷ needing 2 ((0 ∷ 2 ∷ 3 ∷ []) ∷ [])
          ∷ [];
    }

pub book-A : reading bytes_a ≡ accepted book_a
unfolding reading fields are_vertices add_path all_paths
book-A = refl

-- Book A with one more rule set, which applies to every batch and whose path names 1 twice in succession.
abbrev pub bytes_stutter : List ℕ
bytes_stutter = bytes_a ++ (0x03 ∷ 0x00 ∷ 0x02 ∷ 0x00 ∷ 0x00 ∷ 0x04 ∷ 0x00 ∷ 0x02 ∷ 0x01 ∷ 0x01 ∷ [])

abbrev pub book_stutter : Book
book_stutter =
    record {
      count = 4;
      arcs = book_a.arcs;
      sets = book_a.sets ++ (needing 0 ((1 ∷ 1 ∷ []) ∷ []) ∷ []);
    }

pub book_stutter_lem : reading bytes_stutter ≡ accepted book_stutter
unfolding reading fields are_vertices add_path all_paths
book_stutter_lem = refl

-- Two ways of one weight from 0 to 3; and with an arc of that weight.
abbrev pub bytes_ways : List ℕ
bytes_ways =
    0x01 ∷ 0x00 ∷ 0x01 ∷ 0x04
    ∷ 0x02 ∷ 0x00 ∷ 0x06 ∷ 0x00 ∷ 0x01 ∷ 0x00 ∷ 0x00 ∷ 0x00 ∷ 0x64
    ∷ 0x02 ∷ 0x00 ∷ 0x06 ∷ 0x01 ∷ 0x03 ∷ 0x00 ∷ 0x00 ∷ 0x00 ∷ 0x64
    ∷ 0x02 ∷ 0x00 ∷ 0x06 ∷ 0x00 ∷ 0x02 ∷ 0x00 ∷ 0x00 ∷ 0x00 ∷ 0x64
    ∷ 0x02 ∷ 0x00 ∷ 0x06 ∷ 0x02 ∷ 0x03 ∷ 0x00 ∷ 0x00 ∷ 0x00 ∷ 0x64
    ∷ []

abbrev pub book_ways : Book
book_ways =
    record {
      count = 4;
      arcs =
          record { tail = 0; head = 1; weight = 100 }
          ∷ record { tail = 1; head = 3; weight = 100 }
          ∷ record { tail = 0; head = 2; weight = 100 }
          ∷ record { tail = 2; head = 3; weight = 100 }
          ∷ [];
      sets = [];
    }

abbrev pub bytes_shortcut : List ℕ
bytes_shortcut = bytes_ways ++ (0x02 ∷ 0x00 ∷ 0x06 ∷ 0x00 ∷ 0x03 ∷ 0x00 ∷ 0x00 ∷ 0x00 ∷ 0xc8 ∷ [])

abbrev pub book_shortcut : Book
book_shortcut =
    record {
      count = 4;
      arcs = book_ways.arcs ++ (record { tail = 0; head = 3; weight = 200 } ∷ []);
      sets = [];
    }

pub book-ways : reading bytes_ways ≡ accepted book_ways
unfolding reading fields
book-ways = refl

pub book-shortcut : reading bytes_shortcut ≡ accepted book_shortcut
unfolding reading fields
book-shortcut = refl

pub count-64 : reading (0x01 ∷ 0x00 ∷ 0x01 ∷ 0x40 ∷ []) ≡ accepted (record { count = 64; arcs = []; sets = [] })
unfolding reading fields
count-64 = refl

pub count-65 : reading (0x01 ∷ 0x00 ∷ 0x01 ∷ 0x41 ∷ []) ≡ refused (Value 0)
unfolding reading fields
count-65 = refl

pub no_body : reading (0x01 ∷ 0x00 ∷ 0x01 ∷ []) ≡ refused (Truncated 0)
unfolding reading fields
no_body = refl

pub empty-book : reading [] ≡ refused (Truncated 0)
unfolding reading
empty-book = refl
