-- The passes of the distances to a vertex, without forbidden paths (02, order 3).
use Rattle.std.specs.Prelude.{ℕ, ◌≡◌, true, List, []}
use Rattle.walks.specs.Graph.{Graph}
use Rattle.distances.specs.Table.{made}
use Rattle.product.specs.Product.{state_edges}
use Rattle.product.specs.Base.{base, directed}
use Rattle.routes.specs.Plan.{Prepared}

-- There are tables of the graph and of the automaton of no forbidden paths, over whose edges r passes are made to t.
pub record Counted (g : Graph) (t r : ℕ) : Type 0 where
  pub m : ℕ
  pub weights : List ℕ
  pub steps : List ℕ
  pub blockeds : List ℕ
  pub latests : List ℕ
  pub prepared : Prepared g [] g.count m weights steps blockeds latests
  pub passes-are : r ≡ made (directed true (state_edges weights steps blockeds latests g.count m)) m (base true latests t m)
