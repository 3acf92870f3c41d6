-- The plan from a list is the plan of the book with the same arcs, in any order (01: the plan is that of the book with the same changeovers).
use mathlib.Core.List.{List, ◌++◌, map}
use Rattle.walks.specs.Graph.{Arc}
use Rattle.book.specs.Book.{Book}
use Rattle.book.specs.declared.Arc.{Arc as Item}
use Rattle.listed.specs.Listing.{arc_of}

-- the arcs of a list
abbrev pub arcs_of : List Item → List Arc
arcs_of xs = map arc_of xs

-- the book with some more arcs
abbrev pub more : Book → List Arc → Book
more b as' = record { count = b.count; arcs = b.arcs ++ as'; sets = b.sets }
