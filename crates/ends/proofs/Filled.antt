-- What is read off the distances from the start is the table of ends.
use Rattle.std.specs.Prelude.{true, false, ◌≡◌, eqb, length, get_or}
use mathlib.Core.List.{List, [], ◌∷◌, ◌++◌, Memᴰ}
use Rattle.std.proofs.Math.Logic.{by_cases}
use Rattle.std.proofs.Math.Path.{refl, ap₂}
use Rattle.std.proofs.Common.{sym, ap, ◌∙◌, arith}
use Prim.Native.Nat.{ℕ, zero, suc, ◌%◌, ◌<◌, ◌≤◌}
use Rattle.std.proofs.Math.Decide.{dec_lt}
use Rattle.limits.specs.Limits.{most_paths, longest_path}
use Rattle.walks.specs.Graph.{Graph}
use Rattle.walks.specs.Avoid.{Avoids}
use Rattle.walks.proofs.Avoid.{Avoids-single}
use Rattle.walks.specs.Weights.{Weights}
use Rattle.distances.specs.Edge.{Edge, Within}
use Rattle.distances.specs.Table.{at, inf, passes}
use Rattle.distances.specs.Pack.{hops_limit}
use Rattle.distances.proofs.Shorten.{passes-least-of-all}
use Rattle.distances.proofs.Ends.{least-over-ends}
use Rattle.states.specs.Chosen.{chosen}
use Rattle.automaton.specs.Area.{Bounded}
use Rattle.automaton.specs.Built.{Built}
use Rattle.product.specs.Product.{state_edges}
use Rattle.product.specs.ProductLaws.{weighted}
use Rattle.product.specs.Base.{base, targets, directed, at_base, within-directed}
use Rattle.routes.specs.Route.{length-route}
use Rattle.routes.proofs.Route.{walk-best, walk-weight, start_none}
use Rattle.routes.specs.Plan.{Measured}
use Rattle.routes.proofs.Planned.{prepared-fits}
use Rattle.ends.specs.Ends.{entry_of, ends}
use Rattle.ends.proofs.EndsLaws.{entry-best, entry-none}
use Rattle.ends.specs.Least.{least_at, told, numbers, entries, Standing}
use Rattle.ends.proofs.Least.{told-near, told-far}

module _ {g : Graph} {F : List (List ℕ)} {m : ℕ} {steps blockeds latests weights : List ℕ} (built : Built F g.count m steps blockeds latests) (table : Weights g weights)
    (s : ℕ) (below : s < g.count) (clear : Avoids F (s ∷ [])) (paths : length F ≤ most_paths) (size : (r : List ℕ) → Memᴰ r F → length r ≤ longest_path) where
  abbrev graph : List Edge
  graph = state_edges weights steps blockeds latests g.count m

  within : Within m graph
  within = (weighted built table).within

  start : s < m
  start = omega (arith, (built.singles s below).below, built.count)

  -- The distance of the start to t says what the entry of t is.
  told-entry : (t : ℕ) (d : List ℕ) → d ≡ passes graph m (targets latests t m) → told (at d s) ≡ entry_of g (chosen g F s t)
  told-entry t d final = by_cases (dec_lt (at d s) inf) near far
    where
      near : at d s < inf → told (at d s) ≡ entry_of g (chosen g F s t)
      near h =
          told-near (at d s) h
          ∙ ap₂ (λ x y. x ∷ y ∷ []) (sym (walk-weight built table t d final s below clear h)) (sym (length-route weights steps blockeds latests d g.count (at d s % hops_limit) s))
          ∙ sym (entry-best g F s t table.few paths size (walk-best built table t d final s below clear h))

      far : ¬ (at d s < inf) → told (at d s) ≡ entry_of g (chosen g F s t)
      far h = told-far (at d s) (omega arith) ∙ sym (entry-none g F s t table.few paths size (start_none built table t d final s below clear (omega arith)))

  module _ (d : List ℕ) (final : d ≡ passes (directed false graph) m (base false latests s m)) where
    -- The distances to t are for this proof: nothing works them out.
    entry-is : (t : ℕ) → told (least_at latests d m t) ≡ entry_of g (chosen g F s t)
    entry-is t =
        ap told (least-over-ends within s start (λ q. eqb (get_or latests q 0) t) (base false latests s m) (targets latests t m) d (at_base false latests s m) (at_base true latests t m)
        (λ q h. rw final (passes-least-of-all m (directed false graph) (within-directed false within) (base false latests s m) m (omega arith) q h))
        (passes-least-of-all m graph within (targets latests t m) m (omega arith) s start))
        ∙ told-entry t (passes graph m (targets latests t m)) refl

    pub entries_are : (n : ℕ) → entries latests d m n ≡ ends g F s n
    unfolding numbers ends
    entries_are zero = refl
    entries_are (suc n) = ap₂ (λ l e. l ++ e) (entries_are n) (entry-is n)

-- The same for the tables that the search measures from s: the code can read them, and reads the table of ends off them.
module _ {g : Graph} {F : List (List ℕ)} {n s : ℕ} {weights steps blockeds latests d : List ℕ} (r : Measured false g F n s weights steps blockeds latests d) where
  pub measured_standing : Standing n latests d
  measured_standing = record {
    few = omega (arith, r.prepared.count-is, r.prepared.table.few);
    room = r.prepared.built.latests-room;
    stands = λ q h. let row = (prepared-fits r.prepared).rows q h in omega (arith, row.latest-below, row.few-vertices);
  }

  pub measured_ends : Bounded n F → s < n → entries latests d (length d) n ≡ ends g F s n
  measured_ends bounded below =
      let same = r.prepared.count-is in
      let built : Built F g.count (length d) steps blockeds latests = rw same r.prepared.built in
      entries_are built r.prepared.table s (rw same below) (Avoids-single bounded.long s) bounded.few bounded.short d (rw same r.final) n
