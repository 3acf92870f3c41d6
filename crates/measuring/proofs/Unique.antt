-- The count of passes is one number: without forbidden paths the states are the vertices, and the tables' edges are the graph's arcs.
use Rattle.std.specs.Prelude.{true, false, cond, not, ◌&&◌, List, [], ◌∷◌, ◌++◌, ◌≡◌, refl, ℕ, zero, suc, ◌<◌, ◌≤◌, eqb, get_or}
use Rattle.std.proofs.Common.{sym, ◌∙◌, arith, ne_eqb}
use Rattle.std.proofs.Math.Option
use Rattle.std.proofs.Math.Option.{Option, none, some}
use Rattle.limits.specs.Limits.{no_arc}
use Rattle.walks.specs.Graph.{Graph, is_some, is_arc, arc_weight}
use Rattle.walks.specs.Weights.{Weights}
use Rattle.distances.specs.Edge.{Edge}
use Rattle.distances.specs.Pack.{pack}
use Rattle.distances.specs.Table.{made, inf}
use Rattle.states.specs.Automaton.{state, go, blocked}
use Rattle.automaton.specs.Built.{Built, bit}
use Rattle.automaton.specs.Words.{number_unique}
use Rattle.product.specs.Product.{arc_at, step_to, is_open, edge_over, edges_from, state_edges}
use Rattle.product.specs.Base.{base}
use Rattle.measuring.specs.Counted.{Counted}

-- An arc of weight x from u to v as an edge: it costs x and one hop.
abbrev arc : ℕ → ℕ → ℕ → Edge
arc u v x = record { tail = u; head = v; cost = pack x 1 }

-- The arcs from u to the vertices below v, in order.
arcs_from : Graph → ℕ → ℕ → List Edge
arcs_from g u zero = []
arcs_from g u (suc v) = arcs_from g u v ++ cond (is_arc g u v) (arc u v (arc_weight g u v) ∷ []) []

-- The arcs from the vertices below u to those below n, in order.
arcs : Graph → ℕ → ℕ → List Edge
arcs g n zero = []
arcs g n (suc u) = arcs g n u ++ arcs_from g u n

-- The entries of the vertices below n: 0 at t, `inf` elsewhere.
starts : ℕ → ℕ → List ℕ
starts t zero = []
starts t (suc n) = starts t n ++ (cond (eqb n t) 0 inf ∷ [])

-- Without forbidden paths a step leads to the state of its vertex alone, and nothing is blocked.
go-single : (u v : ℕ) → go [] (u ∷ []) v ≡ v ∷ []
unfolding go state
go-single u v = refl

free-single : (w : List ℕ) (v : ℕ) → blocked [] w v ≡ false
unfolding blocked
free-single w v = refl

module _ {g : Graph} {m : ℕ} {steps blockeds latests weights : List ℕ} (built : Built [] g.count m steps blockeds latests) (table : Weights g weights) where
  -- Each vertex has its number as a state, and there are no others.
  reach : (n : ℕ) → n ≤ g.count → n ≤ m
  reach zero h = omega arith
  reach (suc n) h = omega (arith, (built.singles n (omega arith)).below, built.count)

  states-are : m ≡ g.count
  states-are = omega (arith, reach g.count (omega arith), built.counted)

  module _ (u : ℕ) (h : u < g.count) where
    state-below : u < m
    state-below = omega (arith, states-are)

    word : get_or built.words u [] ≡ u ∷ []
    word = (built.singles u h).is

    stands : get_or latests u 0 ≡ u
    stands = built.stands u state-below ∙ rw word refl

    module _ (v : ℕ) (k : v < g.count) where
      step-is : step_to weights steps blockeds latests u v ≡ v
      step-is = number_unique built.words built.states.distinct (rw (word, go-single u v) at (built.step u v state-below k)) (built.singles v k)

      clear : bit (get_or blockeds u 0) v ≡ 0
      clear = rw (free-single (get_or built.words u []) v) at (built.bits u v state-below)

      weight-is : arc_at weights steps blockeds latests u v ≡ Option.get_or (g.weight u v) no_arc
      weight-is = rw stands (table.entry u v h k)

      over : cond (is_open weights steps blockeds latests u v) (edge_over weights steps blockeds latests u v ∷ []) [] ≡ cond (is_arc g u v) (arc u v (arc_weight g u v) ∷ []) []
      over = rw (step-is, weight-is, clear) (either (g.weight u v) refl)
        where
          either : (o : Option ℕ) → g.weight u v ≡ o
              → cond (not (eqb (Option.get_or o no_arc) no_arc) && eqb 0 0) (arc u v (Option.get_or o no_arc) ∷ []) []
              ≡ cond (is_some o) (arc u v (Option.get_or o 0) ∷ []) []
          either none e = refl
          either (some x) e = rw (ne_eqb x no_arc (λ a. omega (arith, table.light u v x e))) refl

    from : (v : ℕ) → v ≤ g.count → edges_from weights steps blockeds latests u v ≡ arcs_from g u v
    unfolding edges_from arcs_from
    from zero k = refl
    from (suc v) k = rw (from v (omega arith), over v (omega arith)) refl

  edges-are : (u : ℕ) → u ≤ g.count → state_edges weights steps blockeds latests g.count u ≡ arcs g g.count u
  unfolding state_edges arcs
  edges-are zero h = refl
  edges-are (suc u) h = rw (edges-are u (omega arith), from u (omega arith) g.count (omega arith)) refl

  base-starts : (t u : ℕ) → u ≤ g.count → base true latests t u ≡ starts t u
  unfolding base starts
  base-starts t zero h = refl
  base-starts t (suc u) h = rw (base-starts t u (omega arith), stands u (omega arith)) refl

-- The count is that of the passes over the graph's arcs.
counted-arcs : {g : Graph} {t r : ℕ} → Counted g t r → r ≡ made (arcs g g.count g.count) g.count (starts t g.count)
counted-arcs {g} {t} c =
    let built = c.prepared.built in
    let table = c.prepared.table in
    c.passes-are ∙ rw (states-are built table, edges-are built table g.count (omega arith), base-starts built table t g.count (omega arith)) refl

pub counted-unique : {g : Graph} {t r r' : ℕ} → Counted g t r → Counted g t r' → r ≡ r'
counted-unique c c' = counted-arcs c ∙ sym (counted-arcs c')
