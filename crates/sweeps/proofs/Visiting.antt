-- One turn of a loop over the open vertices of state q: the edge over the lowest that is left.
use Rattle.std.specs.Prelude.{List, [], ◌∷◌, ◌++◌, ◌≡◌, ℕ, suc, ◌+◌, ◌-◌, ◌<◌, ◌≤◌, min, bit_and}
use Rattle.std.specs.Int.Count.{count_trailing_zeros}
use Rattle.std.proofs.lemmas.List.{map-append}
use Rattle.limits.specs.Limits.{heaviest}
use Rattle.distances.specs.Edge.{Edge}
use Rattle.distances.specs.Table.{at, relax, relaxes, lowest}
use Rattle.distances.specs.Reverse.{swap, swapped}
use Rattle.distances.proofs.Rows.{relaxes-append, lowest-append}
use Rattle.product.specs.declared.Product.{Product}
use Rattle.product.specs.Product.{edge_over, arc_at, step_to}
use Rattle.product.specs.View.{open_at, edges_below, FitsOf}
use Rattle.product.specs.Visit.{Ahead}
use Rattle.product.proofs.Visit.{ahead-next, visited-next}

module _ (p : Product) {m q next left : ℕ} (fits : FitsOf p m) (below : q < m) (a : Ahead (open_at p q) p.arcs.vertices next left) (some : 0 < left) where
  abbrev v : ℕ
  v = count_trailing_zeros 64 left

  few : p.arcs.vertices ≤ 64
  few = (fits.rows q below).few-vertices

  pub visit-below : v < p.arcs.vertices
  visit-below = (ahead-next few a some).1

  -- The edge joins states of the table, and is light enough for its cost.
  pub visit-head : step_to p.arcs.weights.now p.steps.now p.blocked.now p.latest.now q v < m
  visit-head = fits.state-below q v below visit-below

  pub visit-light : arc_at p.arcs.weights.now p.steps.now p.blocked.now p.latest.now q v ≤ heaviest
  visit-light = (fits.rows q below).light v visit-below (ahead-next few a some).2

  pub visit-rest : Ahead (open_at p q) p.arcs.vertices (suc v) (bit_and left (left - 1))
  visit-rest = (ahead-next few a some).4

  abbrev e : Edge
  e = edge_over p.arcs.weights.now p.steps.now p.blocked.now p.latest.now q v

  taken : edges_below p q (suc v) ≡ edges_below p q next ++ (e ∷ [])
  taken = visited-next p.arcs.weights.now p.steps.now p.blocked.now p.latest.now q few a some

  -- What the edge makes of the entry of its tail, and, turned round, of the table.
  pub pulled : (old : List ℕ) (entry : ℕ) → lowest old (edges_below p q (suc v)) entry ≡ min (lowest old (edges_below p q next) entry) (at old e.head + e.cost)
  pulled old entry = rw taken (lowest-append old (edges_below p q next) (e ∷ []) entry)

  pub pushed : (old new : List ℕ) → relaxes old (swapped (edges_below p q (suc v))) new ≡ relax old (swap e) (relaxes old (swapped (edges_below p q next)) new)
  pushed old new = rw (taken, map-append) (relaxes-append old (swapped (edges_below p q next)) (swap e ∷ []) new)
