-- The laws of what specs/Route.antt defines.
use Rattle.std.specs.Prelude.{true, List, [], ◌∷◌, ◌≡◌, eqb}
use Rattle.std.proofs.Math.Bool.{true≢false}
use Rattle.std.proofs.Math.Logic.{⊎_elim}
use Rattle.std.proofs.Math.Option.{Option, some}
use Rattle.std.proofs.Math.Path.{refl, ap}
use Rattle.std.proofs.Common.{sym, ◌∙◌, arith, eq-eqb, eqb-true}
use Prim.Native.Nat.{ℕ, zero, suc, ◌+◌, ◌/◌, ◌%◌, ◌<◌, ◌≤◌}
use Rattle.lists.specs.Test.{and-true}
use Rattle.walks.specs.Graph.{Graph, arc_weight}
use Rattle.walks.specs.Walk.{weight_of}
use Rattle.walks.specs.Avoid.{Avoids}
use Rattle.walks.specs.Best.{Best, None}
use Rattle.distances.specs.Table.{at, inf, passes}
use Rattle.distances.specs.Pack.{pack, hops_limit}
use Rattle.states.specs.States.{latest}
use Rattle.states.specs.Automaton.{go}
use Rattle.states.specs.Cost.{Cost, via, cost_of}
use Rattle.states.specs.Greedy.{Usable, Greedy}
use Rattle.states.proofs.Greedy.{greedy_cost, greedy_best, settled-none}
use Rattle.automaton.specs.Built.{Built}
use Rattle.product.specs.Word.{Lowest}
use Rattle.product.proofs.Word.{word-lowest}
use Rattle.walks.specs.Weights.{Weights}
use Rattle.product.specs.Product.{arc_at, step_to, is_open, state_edges}
use Rattle.product.specs.ProductLaws.{word_of, Numbered, word-numbered, open_step, step_open, step-number, step-below, step-weight}
use Rattle.product.specs.Base.{targets}
use Rattle.routes.specs.Distance.{unpacked, reading, reading-some, reading-none, some-reading, distance, distance-at, bounded, settled, entry-cases}
use Rattle.routes.specs.Route.{is_usable, next, route, walk_from, Guided}

module _ {g : Graph} {F : List (List ℕ)} {m : ℕ} {steps blockeds latests weights : List ℕ} (built : Built F g.count m steps blockeds latests) (table : Weights g weights)
    (t : ℕ) (d : List ℕ) (final : d ≡ passes (state_edges weights steps blockeds latests g.count m) m (targets latests t m)) where
  -- The test of a usable vertex and what it says.
  pub is_usable→Usable : (q v : ℕ) → q < m → v < g.count → at d q < inf → is_usable weights steps blockeds latests d q v ≡ true → Usable g F (distance built table t d final) (word_of built q) v
  is_usable→Usable q v h b near u =
      let r = step_to weights steps blockeds latests q v in
      let (free, falls) = and-true (is_open weights steps blockeds latests q v) (eqb (at d r + pack (arc_at weights steps blockeds latests q v) 1) (at d q)) u in
      let e : at d r + pack (arc_at weights steps blockeds latests q v) 1 ≡ at d q = eqb-true _ _ falls in
      let s = open_step built table q v h b free in
      let (is, light) = step-weight built table q v h s in
      let (w, k) = bounded built table t d final r (step-below built table q v h b) (omega arith) in
      let weight_is : at d q / hops_limit ≡ arc_weight g (latest (word_of built q)) v + at d r / hops_limit = omega arith in
      let hops-is : at d q % hops_limit ≡ suc (at d r % hops_limit) = omega arith in
      record {
        step = s;
        rest = unpacked (at d r);
        after = distance-at built table t d final r (go F (word_of built q) v) (step-number built table q v h b) ∙ reading-some (at d r) (omega arith);
        here = distance-at built table t d final q (word_of built q) (word-numbered built q h) ∙ reading-some (at d q) near ∙ ap {B = Option Cost} some (λ i. record { weight = weight_is i; hops = hops-is i });
      }

  pub Usable→is_usable : (q v : ℕ) → q < m → Usable g F (distance built table t d final) (word_of built q) v → is_usable weights steps blockeds latests d q v ≡ true
  Usable→is_usable q v h u =
      let r = step_to weights steps blockeds latests q v in
      let a = arc_weight g (latest (word_of built q)) v in
      let s = u.step in
      let (is, light) = step-weight built table q v h s in
      let (near, rest-is) = some-reading (at d r) u.rest (sym (distance-at built table t d final r (go F (word_of built q) v) (step-number built table q v h s.below)) ∙ u.after) in
      let (below, here-is) = some-reading (at d q) (via a u.rest) (sym (distance-at built table t d final q (word_of built q) (word-numbered built q h)) ∙ u.here) in
      let weight_is : a + at d r / hops_limit ≡ at d q / hops_limit = omega (arith, ap (λ (x : Cost). x.weight) here-is, ap (λ (x : Cost). x.weight) rest-is) in
      let hops-is : suc (at d r % hops_limit) ≡ at d q % hops_limit = omega (arith, ap (λ (x : Cost). x.hops) here-is, ap (λ (x : Cost). x.hops) rest-is) in
      rw (step_open built table q v h s, eq-eqb (at d r + pack (arc_at weights steps blockeds latests q v) 1) (at d q) (omega arith))

  -- Where hops are left, some vertex is usable.
  some-usable : (q : ℕ) → q < m → at d q < inf → 0 < at d q % hops_limit → (v : ℕ) × (v < g.count) × (is_usable weights steps blockeds latests d q v ≡ true)
  some-usable q h near more =
      ⊎_elim (λ (e, z). absurd (omega arith))
      (λ (v, b, free, falls). (v, b, rw (free, eq-eqb (at d (step_to weights steps blockeds latests q v) + pack (arc_at weights steps blockeds latests q v) 1) (at d q) (sym falls))))
      (entry-cases built table t d final q h near)

  pub lowest-usable : (q : ℕ) → q < m → at d q < inf → 0 < at d q % hops_limit →
      (next weights steps blockeds latests d g.count q < g.count) × Lowest (is_usable weights steps blockeds latests d q) (next weights steps blockeds latests d g.count q)
  lowest-usable q h near more =
      let (v, b, u) = some-usable q h near more in
      let (low, l) = word-lowest 64 (is_usable weights steps blockeds latests d q) g.count v table.few b u in
      (omega arith, l)

  pub guided : (q : ℕ) → q < m → at d q < inf → 0 < at d q % hops_limit → Guided weights steps blockeds latests d g.count m q
  guided q h near more =
      let (b, l) = lowest-usable q h near more in
      let v = next weights steps blockeds latests d g.count q in
      let (free, falls) = and-true (is_open weights steps blockeds latests q v) (eqb (at d (step_to weights steps blockeds latests q v) + pack (arc_at weights steps blockeds latests q v) 1) (at d q)) l.passes in
      record { vertex-below = b; state-below = step-below built table q v h b; falls = sym (eqb-true _ _ falls) }

  route_greedy : (k q : ℕ) → q < m → at d q < inf → at d q % hops_limit ≡ k → Greedy g F t (distance built table t d final) (word_of built q) (route weights steps blockeds latests d g.count k q)
  unfolding route
  route_greedy zero q h near e =
      ⊎_elim (λ (at-end, z). at-end)
      (λ (v, b, free, falls). absurd (omega (arith, bounded built table t d final (step_to weights steps blockeds latests q v) (step-below built table q v h b) (omega arith))))
      (entry-cases built table t d final q h near)
  route_greedy (suc k) q h near e =
      let (b, l) = lowest-usable q h near (omega arith) in
      let v = next weights steps blockeds latests d g.count q in
      let way = guided q h near (omega arith) in (
        is_usable→Usable q v h b near l.passes,
        λ u low w. true≢false (sym (Usable→is_usable q u h w) ∙ l.none_below u low),
        rw (← (step-number built table q v h b).is) (route_greedy k (step_to weights steps blockeds latests q v) way.state-below (omega (arith, way.falls)) (omega (arith, way.falls))),
      )

  module _ (s : ℕ) (below : s < g.count) (clear : Avoids F (s ∷ [])) where
    start-state : s < m
    start-state = omega (arith, (built.singles s below).below, built.count)

    start_greedy : at d s < inf → Greedy g F t (distance built table t d final) (s ∷ []) (route weights steps blockeds latests d g.count (at d s % hops_limit) s)
    start_greedy near = rw (built.singles s below).is at (route_greedy (at d s % hops_limit) s start-state near refl)

    start-distance : distance built table t d final (s ∷ []) ≡ reading (at d s)
    start-distance = distance-at built table t d final s (s ∷ []) (built.singles s below)

    -- The walk over the lowest usable vertices is the best one; its entry has its weight and hops.
    pub walk-best : at d s < inf → Best g F s t (walk_from weights steps blockeds latests d g.count s)
    walk-best near = greedy_best g F t (distance built table t d final) (Numbered built) (settled built table t d final) s below clear (s, built.singles s below) (route weights steps blockeds latests d g.count (at d s % hops_limit) s) (start_greedy near)

    pub walk-weight : at d s < inf → weight_of g (walk_from weights steps blockeds latests d g.count s) ≡ at d s / hops_limit
    walk-weight near =
        let (n, is) = some-reading (at d s) (cost_of g (s ∷ []) (route weights steps blockeds latests d g.count (at d s % hops_limit) s)) (sym start-distance ∙ greedy_cost g F t (distance built table t d final) (Numbered built) (settled built table t d final) (route weights steps blockeds latests d g.count (at d s % hops_limit) s) (s ∷ []) (s, built.singles s below) (start_greedy near)) in
        ap (λ (x : Cost). x.weight) is

    -- Without an entry at the start there is no walk.
    pub start_none : inf ≤ at d s → None g F s t
    start_none far = settled-none g F t (distance built table t d final) (Numbered built) (settled built table t d final) s below clear (s, built.singles s below) (start-distance ∙ reading-none (at d s) far)
