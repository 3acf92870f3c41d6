-- The distances of the states, read off the table that the passes end in: they are settled.
use Rattle.std.specs.Prelude.{Bool, true, false, cond, List, [], ◌∷◌, ◌⊎◌, ◌≡◌, refl, ℕ, zero, suc, ◌+◌, ◌*◌, ◌/◌, ◌%◌, ◌<◌, ◌≤◌, T, ltb, eqb}
use mathlib.Core.List.Memᴰ
use Rattle.std.proofs.Common.{inl, inr, ⊎_elim, sym, ap, ◌∙◌, arith, lt-ltb, le-ltb, ltb-true, eq-eqb, eqb-true}
use Rattle.std.proofs.Math.Option.{Option, none, some, none-ne-some}
use Rattle.lists.specs.Distinct.{Distinct}
use Rattle.walks.specs.Graph.{Graph, arc_weight}
use Rattle.walks.specs.Avoid.{same}
use Rattle.walks.proofs.Avoid.{same→≡, same_refl}
use Rattle.distances.specs.Edge.{Edge}
use Rattle.distances.specs.Table.{at, inf, Least, passes}
use Rattle.distances.specs.Pack.{pack, hops_limit}
use Rattle.distances.proofs.Pack.{pack-order, found, best_bounds}
use Rattle.distances.proofs.Shorten.{passes-least-of-all}
use Rattle.distances.proofs.Bellman.{least-edge, first_edge}
use Rattle.states.specs.States.{latest}
use Rattle.states.specs.Automaton.{go}
use Rattle.states.specs.Follow.{Step}
use Rattle.states.specs.Cost.{Cost, ◌≤ᶜ◌, via}
use Rattle.states.specs.Greedy.{Settled}
use Rattle.automaton.specs.Built.{Built, Numbers}
use Rattle.walks.specs.Weights.{Weights}
use Rattle.states.specs.Count.{most_states}
use Rattle.limits.specs.Limits.{heaviest}
use Rattle.product.specs.Product.{arc_at, step_to, is_open, edge_over, state_edges, Over, edges-over}
use Rattle.product.specs.ProductLaws.{get_d_mem, word_of, Numbered, word-numbered, each-numbered, step-number, step-below, step-weight, step-edge, weighted}
use Rattle.product.specs.Base.{targets, at_base, base-is}

-- The number of a word among words; the length where it is none of them.
unfoldable pub number : List (List ℕ) → List ℕ → ℕ
number [] w = 0
number (x ∷ l) w = cond (same x w) 0 (suc (number l w))

pub number_is : (l : List (List ℕ)) (k : ℕ) (w : List ℕ) → Distinct l → Numbers l k w → number l w ≡ k
unfolding number
number_is [] k w d n = absurd (omega (arith, n.below))
number_is (x ∷ l) zero w d n = go (same x w) refl
  where
    go : (b : Bool) → same x w ≡ b → cond b 0 (suc (number l w)) ≡ 0
    go true e = refl
    go false e = absurd (let t : T (same x w) = rw n.is (same_refl w) in rw e at t)
number_is (x ∷ l) (suc k) w d n = go (number_is l k w d.1 (record { below = omega (arith, n.below); is = n.is })) (same x w) refl
  where
    go : number l w ≡ k → (b : Bool) → same x w ≡ b → cond b 0 (suc (number l w)) ≡ suc k
    go rec true e = absurd (d.0 (Memᴰ.cast (same→≡ x w (rw e tt) ∙ sym n.is) (get_d_mem l k [] (omega (arith, n.below)))))
    go rec false e = ap suc rec

-- What an entry says: weight and hops unpacked, none at `inf`.
abbrev pub unpacked : ℕ → Cost
unpacked d = record { weight = d / hops_limit; hops = d % hops_limit }

abbrev pub reading : ℕ → Option Cost
reading d = cond (ltb d inf) (some (unpacked d)) none

pub reading-some : (d : ℕ) → d < inf → reading d ≡ some (unpacked d)
reading-some d h = ap (λ b. cond b (some (unpacked d)) none) (lt-ltb d inf h)

pub reading-none : (d : ℕ) → inf ≤ d → reading d ≡ none
reading-none d h = ap (λ b. cond b (some (unpacked d)) none) (le-ltb d inf h)

pub some-reading : (d : ℕ) (x : Cost) → reading d ≡ some x → (d < inf) × (x ≡ unpacked d)
some-reading d x e = go (ltb d inf) refl e
  where
    go : (b : Bool) → ltb d inf ≡ b → cond b (some (unpacked d)) none ≡ some x → (d < inf) × (x ≡ unpacked d)
    go true h r = (ltb-true _ _ h, cc)
    go false h r = absurd (none-ne-some x r)

module _ {g : Graph} {F : List (List ℕ)} {m : ℕ} {steps blockeds latests weights : List ℕ} (built : Built F g.count m steps blockeds latests) (table : Weights g weights)
    (t : ℕ) (d : List ℕ) (final : d ≡ passes (state_edges weights steps blockeds latests g.count m) m (targets latests t m)) where
  least : (q : ℕ) → q < m → Least (state_edges weights steps blockeds latests g.count m) (targets latests t m) q (at d q)
  least q h = rw final (passes-least-of-all m (state_edges weights steps blockeds latests g.count m) (weighted built table).within (targets latests t m) m (omega arith) q h)

  base-at : (q : ℕ) → q < m → at (targets latests t m) q ≡ cond (eqb (latest (word_of built q)) t) 0 inf
  base-at q h = at_base true latests t m q h ∙ ap (λ x. cond (eqb x t) 0 inf) (built.stands q h)

  pub at_most : (q : ℕ) → q < m → at d q ≤ at (targets latests t m) q
  at_most q h = omega (arith, (least q h).least [] q refl)

  -- An entry below `inf` has room for one more arc and hop.
  pub bounded : (q : ℕ) → q < m → at d q < inf → (at d q / hops_limit < most_states * heaviest) × (at d q % hops_limit < most_states)
  bounded q h below =
      let (r, p, best, e) = found (weighted built table) (targets latests t m) q h (base-is true latests t m) (least q h) below in
      let (few, light) = best_bounds (weighted built table) (targets latests t m) q h r p best in
      omega (arith, built.few)

  pub at-end : (q : ℕ) → q < m → latest (word_of built q) ≡ t → at d q ≡ 0
  at-end q h e = let z : at (targets latests t m) q ≡ 0 = base-at q h ∙ ap (λ b. cond b 0 inf) (eq-eqb _ t e) in omega (arith, at_most q h)

  -- No step makes an entry less.
  pub relaxed : (q v : ℕ) → q < m → Step g F (word_of built q) v →
      at d q ≤ at d (step_to weights steps blockeds latests q v) + pack (arc_weight g (latest (word_of built q)) v) 1
  relaxed q v h s =
      let (is, light) = step-weight built table q v h s in
      omega (arith, least-edge m (state_edges weights steps blockeds latests g.count m) (weighted built table).within (targets latests t m) d least (edge_over weights steps blockeds latests q v) (step-edge built table q v h s))

  -- An entry below `inf` is 0 at the end, or falls by the arc to an open vertex and one hop.
  pub entry-cases : (q : ℕ) → q < m → at d q < inf → ((latest (word_of built q) ≡ t) × (at d q ≡ 0))
      ⊎ ((v : ℕ) × (v < g.count) × (is_open weights steps blockeds latests q v ≡ true) × (at d q ≡ at d (step_to weights steps blockeds latests q v) + pack (arc_at weights steps blockeds latests q v) 1))
  entry-cases q h near =
      ⊎_elim (λ e. inl (by-base (eqb (latest (word_of built q)) t) refl (e ∙ base-at q h)))
      (λ (e, i, tail, c). inr (by-edge e (edges-over weights steps blockeds latests g.count m e i) tail c))
      (first_edge m (state_edges weights steps blockeds latests g.count m) (weighted built table).within (targets latests t m) d least q h)
    where
      by-base : (b : Bool) → eqb (latest (word_of built q)) t ≡ b → at d q ≡ cond b 0 inf → (latest (word_of built q) ≡ t) × (at d q ≡ 0)
      by-base true e z = (eqb-true _ _ e, z)
      by-base false e z = absurd (omega arith)

      by-edge : (e : Edge) (r : Over weights steps blockeds latests g.count m e) → e.tail ≡ q → at d q ≡ at d e.head + e.cost
          → (v : ℕ) × (v < g.count) × (is_open weights steps blockeds latests q v ≡ true) × (at d q ≡ at d (step_to weights steps blockeds latests q v) + pack (arc_at weights steps blockeds latests q v) 1)
      by-edge e r tail c =
          let state-is : r.state ≡ q = sym (ap (λ (e : Edge). e.tail) r.edge) ∙ tail in
          let falls : at d q ≡ at d (step_to weights steps blockeds latests r.state r.vertex) + pack (arc_at weights steps blockeds latests r.state r.vertex) 1 = c ∙ ap (λ (e : Edge). at d e.head + e.cost) r.edge in
          (r.vertex, r.vertex-below, rw state-is at r.is_open, rw state-is at falls)

  -- The distance of a word.
  abbrev pub distance : List ℕ → Option Cost
  distance w = reading (at d (number built.words w))

  pub distance-at : (k : ℕ) (w : List ℕ) → Numbers built.words k w → distance w ≡ reading (at d k)
  distance-at k w n = ap (λ x. reading (at d x)) (number_is built.words k w built.states.distinct n)

  pub settled : Settled g F t (Numbered built) distance
  settled = record { closed = λ w v i. each-numbered built (λ w. Step g F w v → Numbered built (go F w v)) (λ q h s. (step_to weights steps blockeds latests q v, step-number built table q v h s.below)) w i; target = each-numbered built (λ w. latest w ≡ t → distance w ≡ some (record { weight = 0; hops = 0 })) target; relaxed = λ w v i. each-numbered built (λ w. Step g F w v → (y : Cost) → distance (go F w v) ≡ some y → (x : Cost) × (distance w ≡ some x) × (x ≤ᶜ via (arc_weight g (latest w) v) y)) (steps_relaxed v) w i }
    where
      target : (q : ℕ) → q < m → latest (word_of built q) ≡ t → distance (word_of built q) ≡ some (record { weight = 0; hops = 0 })
      target q h e = distance-at q (word_of built q) (word-numbered built q h) ∙ ap reading (at-end q h e)

      steps_relaxed : (v q : ℕ) → q < m → Step g F (word_of built q) v → (y : Cost) → distance (go F (word_of built q) v) ≡ some y → (x : Cost) × (distance (word_of built q) ≡ some x) × (x ≤ᶜ via (arc_weight g (latest (word_of built q)) v) y)
      steps_relaxed v q h s y e =
          let r = step_to weights steps blockeds latests q v in
          let a = arc_weight g (latest (word_of built q)) v in
          let (near, y-is) = some-reading (at d r) y (sym (distance-at r (go F (word_of built q) v) (step-number built table q v h s.below)) ∙ e) in
          let (light, few) = bounded r (step-below built table q v h s.below) near in
          let low = relaxed q v h s in
          let (arc, small) = step-weight built table q v h s in
          let below : at d q < inf = omega arith in (
            unpacked (at d q),
            distance-at q (word_of built q) (word-numbered built q h) ∙ reading-some (at d q) below,
            rw y-is (pack-order (at d q / hops_limit) (at d q % hops_limit) (a + at d r / hops_limit) (suc (at d r % hops_limit)) (omega arith) (omega arith)),
          )
