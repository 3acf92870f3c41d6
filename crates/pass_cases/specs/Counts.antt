-- What counting the passes of a book answers.
use Rattle.std.specs.Prelude.{ℕ, List, ◌≡◌, ◌<◌, get_or, Result, Ok, Err}
use Rattle.walks.specs.Graph.{Graph}
use Rattle.measuring.specs.Counted.{Counted}
use Rattle.book.specs.declared.Refusal.{Refusal}
use Rattle.book.specs.Book.{Book, graph}
use Rattle.book.specs.Reading.{Reading, accepted, refused}
use Rattle.pass_counts.specs.Most.{most_from}
use Rattle.pass_cases.specs.declared.PassCounts.{PassCounts}

-- The list has how many passes are made to each vertex of a graph.
abbrev pub CountedAll : Graph → List ℕ → Type 0
CountedAll g passes = (v : ℕ) → v < g.count → Counted g v (get_or passes v 0)

-- The counts are those of the book b, whose bytes are s.
pub record AreCounts (s : List ℕ) (b : Book) (c : PassCounts) : Type 0 where
  pub vertices_are : c.vertices ≡ b.count
  pub passes_are : CountedAll (graph b) c.passes
  pub most_is : c.most ≡ most_from s b.count b.count

-- What is answered for what was read: the counts of the book, or its refusal.
abbrev pub CountedAs : List ℕ → Reading → Result PassCounts Refusal → Type 0
CountedAs s (accepted b) (Ok c) = AreCounts s b c
CountedAs s (accepted b) (Err r) = ⊥
CountedAs s (refused q) (Ok c) = ⊥
CountedAs s (refused q) (Err r) = r ≡ q
