-- Without forbidden paths at most one pass more is made than a best walk to the vertex has hops.
use Rattle.std.specs.Prelude.{ℕ, suc, ◌%◌, ◌<◌, ◌≤◌, refl, true, List, []}
use Rattle.std.proofs.Common.{arith, ⊎_elim}
use Rattle.std.proofs.Math.Logic.{by_cases}
use Rattle.std.proofs.Math.Decide.{dec_lt}
use mathlib.Core.List.Memᴰ
use Rattle.walks.specs.Graph.{Graph}
use Rattle.walks.specs.Walk.{hops}
use Rattle.walks.specs.Best.{Best}
use Rattle.walks.specs.Weights.{Weights}
use Rattle.distances.specs.Edge.{Edge}
use Rattle.distances.specs.Table.{at, inf, Least, passes}
use Rattle.distances.specs.Pack.{hops_limit}
use Rattle.distances.specs.Made.{Short}
use Rattle.distances.proofs.Pack.{found, cost-packed, best_bounds}
use Rattle.distances.proofs.Shorten.{passes-least-of-all}
use Rattle.distances.proofs.Made.{made-few}
use Rattle.automaton.specs.Built.{Built}
use Rattle.product.specs.Product.{state_edges}
use Rattle.product.specs.ProductLaws.{weighted}
use Rattle.product.specs.Base.{targets, base-is}
use Rattle.routes.specs.Route.{walk_from, length-route}
use Rattle.routes.proofs.Route.{walk-best}
use Rattle.measuring.specs.Counted.{Counted}

module _ {g : Graph} {m : ℕ} {steps blockeds latests weights : List ℕ} (built : Built [] g.count m steps blockeds latests) (table : Weights g weights) (t : ℕ) where
  -- No path adds a state: each is the state of a vertex and has its number.
  own-state : (q : ℕ) → q < m → q < g.count
  own-state q h = omega (arith, built.counted)

  abbrev graph : List Edge
  graph = state_edges weights steps blockeds latests g.count m

  abbrev d : List ℕ
  d = passes graph m (targets latests t m)

  least : (q : ℕ) → q < m → Least graph (targets latests t m) q (at d q)
  least = passes-least-of-all m graph (weighted built table).within (targets latests t m) m (omega arith)

  -- Where the best walks to t have at most H hops, each state has a least path with at most H edges: none where there is no walk.
  short : (H : ℕ) → ((s : ℕ) (w : List ℕ) → s < g.count → Best g [] s t w → hops w ≤ H) → Short H m graph (targets latests t m)
  short H few q h = by_cases (dec_lt (at d q) inf)
      (λ near.
      let (r, p, best, e) = found (weighted built table) (targets latests t m) q h (base-is true latests t m) (least q h) near in
      let (small, light) = best_bounds (weighted built table) (targets latests t m) q h r p best in
      let walk = few q (walk_from weights steps blockeds latests d g.count q) (own-state q h) (walk-best built table t d refl q (own-state q h) (λ x i. absurd (Memᴰ.not-nil i)) near) in
      let size = length-route weights steps blockeds latests d g.count (at d q % hops_limit) q in (
        p,
        r,
        best.path,
        omega (arith, built.few),
        λ p' r' path'. omega (arith, best.target, cost-packed (weighted built table) p q r best.path, (least q h).least p' r' path'),
      ))
      (λ far. ([], q, refl, omega arith, λ p' r' path'. ⊎_elim (λ e. omega arith) (λ e. omega (arith, (least q h).least p' r' path')) (base-is true latests t m q)))

pub few-passes : {g : Graph} {t r H : ℕ} → Counted g t r → ((s : ℕ) (w : List ℕ) → s < g.count → Best g [] s t w → hops w ≤ H) → r ≤ suc H
few-passes {g} {t} {r} {H} c few =
    let es = state_edges c.weights c.steps c.blockeds c.latests g.count c.m in
    let built = c.prepared.built in
    let table = c.prepared.table in
    omega (arith, c.passes-are, made-few c.m es (weighted built table).within (targets c.latests t c.m) H (short built table t H few))
