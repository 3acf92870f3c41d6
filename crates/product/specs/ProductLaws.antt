-- The edges over the tables are the steps of the product: those of the automaton over arcs that are not blocked.
use Rattle.std.specs.Prelude.{Bool, true, false, not, ◌≡◌, refl, ℕ, zero, suc, ◌/◌, ◌<◌, ◌≤◌, T, eqb, length, get_or}
use mathlib.Core.List.{List, [], ◌∷◌, Memᴰ}
use Rattle.std.proofs.Math.Option
use Rattle.std.proofs.Math.Option.{Option, none, some}
use Rattle.std.proofs.Common.{sym, ap, subst, ◌∙◌, arith, eqb-true, eq-eqb, ne_eqb}
use Rattle.std.proofs.lemmas.Bool.{eqb-false, not-true}
use Rattle.lists.specs.Test.{and-true}
use Rattle.walks.specs.Graph.{Graph, is_some, arc_weight}
use Rattle.distances.specs.Edge.{Edge, ◌∈◌}
use Rattle.distances.specs.Pack.{pack, Weighted, hops_limit}
use Rattle.states.specs.States.{latest}
use Rattle.states.specs.Automaton.{go, blocked}
use Rattle.states.specs.Follow.{Step}
use Rattle.automaton.specs.Built.{Built, Numbers, bit, flag}
use Rattle.limits.specs.Limits.{no_arc, heaviest}
use Rattle.walks.specs.Weights.{Weights}
use Rattle.product.specs.Product.{arc_at, step_to, is_open, edge_over, state_edges, edges-over, over-edges}

pub get_d_mem : {A : Type 0} (l : List A) (k : ℕ) (d : A) → k < length l → Memᴰ (get_or l k d) l
get_d_mem [] k d h = absurd (omega arith)
get_d_mem (x ∷ l) zero d h = Memᴰ.head refl
get_d_mem (x ∷ l) (suc k) d h = Memᴰ.tail (get_d_mem l k d (omega arith))

flag-zero : (b : Bool) → flag b ≡ 0 → T (not b)
flag-zero true e = absurd (omega arith)
flag-zero false e = tt

zero_flag : (b : Bool) → T (not b) → flag b ≡ 0
zero_flag true t = absurd t
zero_flag false t = refl

module _ {F : List (List ℕ)} {n m : ℕ} {steps blockeds latests : List ℕ} (built : Built F n m steps blockeds latests) where
  -- The word of a state.
  abbrev pub word_of : ℕ → List ℕ
  word_of q = get_or built.words q []

  pub stands-below : (q : ℕ) → q < m → latest (word_of q) < n
  stands-below q h = (built.states.only (word_of q) (get_d_mem built.words q [] (omega (arith, built.count)))).1

  -- The words that are states, and what holds of each.
  abbrev pub Numbered : List ℕ → Type 0
  Numbered w = (k : ℕ) × Numbers built.words k w

  pub word-numbered : (q : ℕ) → q < m → Numbers built.words q (word_of q)
  word-numbered q h = record { below = omega (arith, built.count); is = refl }

  pub each-numbered : (P : List ℕ → Type 0) → ((q : ℕ) → q < m → P (word_of q)) → (w : List ℕ) → Numbered w → P w
  each-numbered P f w (k, i) = subst P i.is (f k (omega (arith, i.below, built.count)))

module _ {g : Graph} {F : List (List ℕ)} {m : ℕ} {steps blockeds latests weights : List ℕ} (built : Built F g.count m steps blockeds latests) (table : Weights g weights) where
  module _ (q v : ℕ) (h : q < m) where
    arc-entry : v < g.count → arc_at weights steps blockeds latests q v ≡ Option.get_or (g.weight (latest (word_of built q)) v) no_arc
    arc-entry b = rw (built.stands q h) (table.entry (latest (word_of built q)) v (stands-below built q h) b)

    -- A vertex is open exactly if there is a step over it.
    pub open_step : v < g.count → is_open weights steps blockeds latests q v ≡ true → Step g F (word_of built q) v
    open_step b o =
        let (arc, clear) = and-true (not (eqb (arc_at weights steps blockeds latests q v) no_arc)) (eqb (bit (get_or blockeds q 0) v) 0) o in
        record {
          arc = given (g.weight (latest (word_of built q)) v) (λ e. eqb-false _ _ (not-true _ arc) (arc-entry b ∙ e));
          below = b;
          free = flag-zero (blocked F (word_of built q) v) (sym (built.bits q v h) ∙ eqb-true _ _ clear);
        }
      where
        given : (o : Option ℕ) → (Option.get_or o no_arc ≡ no_arc → ⊥) → T (is_some o)
        given none n = n refl
        given (some x) n = tt

    pub step-weight : Step g F (word_of built q) v → (arc_at weights steps blockeds latests q v ≡ arc_weight g (latest (word_of built q)) v) × (arc_weight g (latest (word_of built q)) v ≤ heaviest)
    step-weight s = go (g.weight (latest (word_of built q)) v) refl s.arc (arc-entry s.below)
      where
        go : (o : Option ℕ) → g.weight (latest (word_of built q)) v ≡ o → T (is_some o) → arc_at weights steps blockeds latests q v ≡ Option.get_or o no_arc
            → (arc_at weights steps blockeds latests q v ≡ Option.get_or o 0) × (Option.get_or o 0 ≤ heaviest)
        go none e t a = absurd t
        go (some x) e t a = (a, table.light (latest (word_of built q)) v x e)

    pub step_open : Step g F (word_of built q) v → is_open weights steps blockeds latests q v ≡ true
    step_open s =
        let (is, light) = step-weight s in
        rw (ne_eqb (arc_at weights steps blockeds latests q v) no_arc (λ e. omega arith)) (eq-eqb _ 0 (built.bits q v h ∙ zero_flag (blocked F (word_of built q) v) s.free))

    -- It leads to the number of the state after it.
    pub step-number : v < g.count → Numbers built.words (step_to weights steps blockeds latests q v) (go F (word_of built q) v)
    step-number b = built.step q v h b

    pub step-below : v < g.count → step_to weights steps blockeds latests q v < m
    step-below b = omega (arith, (step-number b).below, built.count)

  -- An edge of the list is a step of the product between numbered states, which costs the weight of its arc and one hop.
  pub record Stepping (e : Edge) : Type 0 where
    pub vertex : ℕ
    pub tail-below : e.tail < m
    pub step : Step g F (word_of built e.tail) vertex
    pub head-is : Numbers built.words e.head (go F (word_of built e.tail) vertex)
    pub cost-is : e.cost ≡ pack (arc_weight g (latest (word_of built e.tail)) vertex) 1
    pub light : arc_weight g (latest (word_of built e.tail)) vertex ≤ heaviest

  pub edge_stepping : (e : Edge) → e ∈ state_edges weights steps blockeds latests g.count m → Stepping e
  edge_stepping e i =
      let r = edges-over weights steps blockeds latests g.count m e i in
      let q = r.state in
      let v = r.vertex in
      let s = open_step q v r.state-below r.vertex-below r.is_open in
      let (is, light) = step-weight q v r.state-below s in
      rw r.edge (record { vertex = v; tail-below = r.state-below; step = s; head-is = step-number q v r.state-below r.vertex-below; cost-is = ap (λ x. pack x 1) is; light = light })

  -- And each step of the product is one.
  pub step-edge : (q v : ℕ) → q < m → Step g F (word_of built q) v → edge_over weights steps blockeds latests q v ∈ state_edges weights steps blockeds latests g.count m
  step-edge q v h s = over-edges weights steps blockeds latests g.count m q v h s.below (step_open q v h s)

  pub weighted : Weighted m (state_edges weights steps blockeds latests g.count m) (λ e. e.cost / hops_limit)
  weighted = record {
    few = omega (arith, built.few);
    within = λ e i. let s = edge_stepping e i in (s.tail-below, omega (arith, s.head-is.below, built.count));
    light = λ e i. let s = edge_stepping e i in omega (arith, s.cost-is, s.light);
    packed = λ e i. let s = edge_stepping e i in omega (arith, s.cost-is, s.light);
  }
