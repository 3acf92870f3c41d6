-- The arcs in rising order, pair by pair of the table of weights.
use Rattle.std.specs.Prelude.{ℕ, suc, ◌+◌, ◌-◌, ◌/◌, ◌%◌, ◌≤◌, ◌<◌, ◌≢◌, ◌≡◌, refl, get_or}
use mathlib.Core.List.{List, [], ◌∷◌, ◌++◌, flat_map}
use Rattle.std.proofs.Common.{sym, ap, ◌∙◌, add-one, arith}
use Rattle.std.proofs.Math.Option
use Rattle.std.proofs.Math.Option.{Option, none, some}
use Rattle.limits.specs.Limits.{most_vertices, pairs, no_arc}
use Rattle.walks.specs.Graph.{Arc, weight_in}
use Rattle.book.specs.Book.{Book}
use Rattle.book.specs.Tables.{IsGraph}
use Rattle.book_bytes.specs.Bytes.{arc_field}
use Rattle.writing.specs.Rising.{put, read_off}
use Rattle.writing.proofs.RisingLaws.{read_off-next, table-off, weight-light}

-- the arcs of pair k and of those after it
abbrev pub arcs_from : Book → ℕ → List Arc
arcs_from b k = read_off (weight_in b.arcs) (pairs - k) k

-- the arc that pair k has in a table of weights
abbrev pub arc_at : List ℕ → ℕ → Arc
arc_at weights k = record { tail = k / most_vertices; head = k % most_vertices; weight = get_or weights k 0 }

pub fields_past : (b : Book) (k : ℕ) → pairs ≤ k → flat_map arc_field (arcs_from b k) ≡ []
unfolding read_off flat_map
fields_past b k h = let none_left : pairs - k ≡ 0 = omega arith in ap (λ m. flat_map arc_field (read_off (weight_in b.arcs) m k)) none_left

module _ {b : Book} {n : ℕ} {weights : List ℕ} (g : IsGraph b n weights) (k : ℕ) (h : k < pairs) where
  abbrev u : ℕ
  u = k / most_vertices

  abbrev v : ℕ
  v = k % most_vertices

  abbrev weight : ℕ
  weight = get_or weights k 0

  weight_is : (o : Option ℕ) → weight_in b.arcs u v ≡ o → weight ≡ Option.get_or o no_arc
  weight_is o e = ap (λ t. get_or t k 0) g.weights_are ∙ table-off b g.well k h ∙ ap (λ x. Option.get_or x no_arc) e

  here : arcs_from b k ≡ put u v (weight_in b.arcs u v) (arcs_from b (k + 1))
  here =
      let turn : pairs - k ≡ suc (pairs - suc k) = omega arith in
      ap (λ m. read_off (weight_in b.arcs) m k) turn
      ∙ read_off-next (weight_in b.arcs) (pairs - suc k) k
      ∙ ap (λ i. put u v (weight_in b.arcs u v) (arcs_from b i)) (sym (add-one k))

  pub no_field_here : weight ≡ no_arc → flat_map arc_field (arcs_from b k) ≡ flat_map arc_field (arcs_from b (k + 1))
  no_field_here e = ap (flat_map arc_field) (here ∙ go (weight_in b.arcs u v) refl)
    where
      go : (o : Option ℕ) → weight_in b.arcs u v ≡ o → put u v o (arcs_from b (k + 1)) ≡ arcs_from b (k + 1)
      go none p = refl
      go (some x) p = absurd (omega (arith, e, weight_is (some x) p, weight-light b g.well u v x p))

  arc_here : weight ≢ no_arc → arcs_from b k ≡ arc_at weights k ∷ arcs_from b (k + 1)
  arc_here ne = here ∙ go (weight_in b.arcs u v) refl
    where
      go : (o : Option ℕ) → weight_in b.arcs u v ≡ o
          → put u v o (arcs_from b (k + 1)) ≡ arc_at weights k ∷ arcs_from b (k + 1)
      go none p = absurd (ne (weight_is none p))
      go (some x) p = ap (λ y. record { tail = u; head = v; weight = y } ∷ arcs_from b (k + 1)) (sym (weight_is (some x) p))

  pub field_here : weight ≢ no_arc
      → flat_map arc_field (arcs_from b k) ≡ arc_field (arc_at weights k) ++ flat_map arc_field (arcs_from b (k + 1))
  unfolding flat_map
  field_here ne = ap (flat_map arc_field) (arc_here ne)
