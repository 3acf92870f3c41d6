-- The laws of what specs/Plan.antt defines.
use Rattle.std.specs.Prelude.{true, List, [], ◌∷◌, ◌++◌, ◌≡◌, refl, ℕ, ◌-◌, ◌/◌, ◌%◌, ◌<◌, ◌≤◌, length, drop, Some, None}
use Rattle.std.proofs.Common.{sym, ap, subst, ◌∙◌, arith}
use Rattle.walks.specs.Graph.{Graph}
use Rattle.walks.specs.Walk.{weight_of}
use Rattle.walks.specs.Avoid.{Avoids}
use Rattle.walks.specs.Best.{Best}
use Rattle.distances.specs.Table.{at, inf, passes}
use Rattle.states.specs.Count.{most_states}
use Rattle.states.proofs.Count.{states-longest}
use Rattle.automaton.specs.Built.{Built}
use Rattle.distances.specs.Pack.{hops_limit}
use Rattle.limits.specs.Limits.{longest}
use Rattle.product.specs.Product.{state_edges}
use Rattle.product.specs.Base.{targets}
use Rattle.routes.specs.Distance.{bounded}
use Rattle.routes.specs.Route.{walk_from}
use Rattle.routes.proofs.Route.{walk-best, walk-weight, start_none}
use Rattle.product.specs.Fits.{Fits, fits}
use Rattle.routes.specs.Guiding.{Guiding}
use Rattle.routes.proofs.Guiding.{guiding}
use Rattle.routes.specs.Plan.{Searched, Prepared, Measured}

module _ {g : Graph} {F : List (List ℕ)} {n m : ℕ} {weights steps blockeds latests : List ℕ} (p : Prepared g F n m weights steps blockeds latests) where
  built_of : Built F g.count m steps blockeds latests
  built_of = rw p.count-is p.built

  pub prepared-fits : Fits n m weights steps blockeds latests
  prepared-fits = rw p.count-is at (fits built_of p.table)

  pub prepared-start : (s : ℕ) → s < n → s < m
  prepared-start s below = omega (arith, (p.built.singles s below).below, p.built.count)

module _ {g : Graph} {F : List (List ℕ)} {n t : ℕ} {weights steps blockeds latests d : List ℕ} (r : Measured true g F n t weights steps blockeds latests d) where
  final-of : d ≡ passes (state_edges weights steps blockeds latests g.count (length d)) (length d) (targets latests t (length d))
  final-of = rw r.prepared.count-is r.final

  pub measured_guiding : Guiding n weights steps blockeds latests d
  measured_guiding = rw r.prepared.count-is at (guiding (built_of r.prepared) r.prepared.table t d final-of)

  module _ (s : ℕ) (below : s < n) where
    pub measured_start : s < length d
    measured_start = prepared-start r.prepared s below

    start-below : s < g.count
    start-below = rw r.prepared.count-is below

    -- There is room for the walk.
    pub start-short : at d s < inf → at d s % hops_limit < longest
    start-short near = omega (arith, states-longest most_states (omega arith), (bounded (built_of r.prepared) r.prepared.table t d final-of s measured_start near).1)

    module _ (clear : Avoids F (s ∷ [])) (old : List ℕ) where
      pub searched-none : inf ≤ at d s → Searched g F s t old None old
      searched-none far = (start_none (built_of r.prepared) r.prepared.table t d final-of s start-below clear far, refl)

      pub searched-walk : at d s < inf → (k : ℕ) (new : List ℕ) → k ≡ length (walk_from weights steps blockeds latests d n s) → new ≡ walk_from weights steps blockeds latests d n s ++ drop k old
          → Searched g F s t old (Some (record { weight = at d s / hops_limit; hops = k - 1 })) new
      searched-walk near k new size area = record {
        walk = walk_from weights steps blockeds latests d n s;
        best = subst (λ x. Best g F s t (walk_from weights steps blockeds latests d x s)) r.prepared.count-is (walk-best (built_of r.prepared) r.prepared.table t d final-of s start-below clear near);
        weight_is = sym (subst (λ x. weight_of g (walk_from weights steps blockeds latests d x s) ≡ at d s / hops_limit) r.prepared.count-is (walk-weight (built_of r.prepared) r.prepared.table t d final-of s start-below clear near));
        hops-is = omega arith;
        area-is = area ∙ ap (λ x. walk_from weights steps blockeds latests d n s ++ drop x old) size;
      }
