-- A table of distances that passes a test is settled: Best and None of a small graph then hold by computation.
use Rattle.std.specs.Prelude.{Bool, true, false, not, ◌&&◌, ◌||◌, cond, List, [], ◌∷◌, ◌⊎◌, ◌≡◌, refl, ℕ, suc, ◌+◌, ◌<◌, T, eqb, ltb, leb}
use Rattle.std.proofs.Common.{inl, inr, T_not, eqb→eq, ltb→lt, leb→le}
use Rattle.std.proofs.Math.Option.{Option, none, some}
use Rattle.std.proofs.Math.Dec.{eqb_refl}
use Rattle.std.proofs.Math.Facts.{or_yes}
use Rattle.lists.specs.Test.{conj, any, any→some, all, all→each, all_below, all_below→each, implies, implies→}
use Rattle.walks.specs.Graph.{Graph, is_arc, arc_weight}
use Rattle.walks.specs.Avoid.{same, avoids}
use Rattle.walks.proofs.Avoid.{same→≡, avoids→Avoids}
use Rattle.walks.specs.Best.{Best, None}
use Rattle.states.specs.States.{latest}
use Rattle.states.specs.Automaton.{go, blocked}
use Rattle.states.specs.Follow.{Step}
use Rattle.states.specs.Cost.{Cost, ◌≤ᶜ◌, via}
use Rattle.states.specs.Greedy.{Settled, Usable, Greedy}
use Rattle.states.proofs.Greedy.{greedy_best, settled-none}

-- A state with its distance to the end, none where the end cannot be reached.
pub record Entry : Type 0 where
  pub state : List ℕ
  pub distance : Option Cost

abbrev pub distance_in : List Entry → List ℕ → Option Cost
distance_in [] q = none
distance_in (e ∷ table) q = cond (same q e.state) e.distance (distance_in table q)

abbrev pub is_listed : List Entry → List ℕ → Bool
is_listed table q = any (λ e. same q e.state) table

abbrev pub is_zero : Option Cost → Bool
is_zero none = false
is_zero (some x) = eqb x.weight 0 && eqb x.hops 0

-- The distance x is at most an arc of weight a and then y; it is equal to that.
abbrev pub is_at_most : ℕ → Option Cost → Option Cost → Bool
is_at_most a x none = true
is_at_most a none (some y) = false
is_at_most a (some x) (some y) = ltb x.weight (a + y.weight) || (eqb x.weight (a + y.weight) && leb x.hops (suc y.hops))

abbrev pub is_sum : ℕ → Option Cost → Option Cost → Bool
is_sum a x none = false
is_sum a none (some y) = false
is_sum a (some x) (some y) = eqb x.weight (a + y.weight) && eqb x.hops (suc y.hops)

cost_ext : {x y : Cost} → x.weight ≡ y.weight → x.hops ≡ y.hops → ◌≡◌ {A = Option Cost} (some x) (some y)
cost_ext p q i = some (record { weight = p i; hops = q i })

is_zero→ : (d : Option Cost) → T (is_zero d) → d ≡ some (record { weight = 0; hops = 0 })
is_zero→ none h = absurd h
is_zero→ (some x) h = cost_ext (eqb→eq x.weight 0 (search conj)) (eqb→eq x.hops 0 (search conj))

is_at_most→ : (a : ℕ) (d : Option Cost) (y : Cost) → T (is_at_most a d (some y)) → (x : Cost) × (d ≡ some x) × (x ≤ᶜ via a y)
is_at_most→ a none y h = absurd h
is_at_most→ a (some x) y h = (x, refl, order (or_yes (ltb x.weight (a + y.weight)) (eqb x.weight (a + y.weight) && leb x.hops (suc y.hops)) h))
  where
    order : T (ltb x.weight (a + y.weight)) ⊎ T (eqb x.weight (a + y.weight) && leb x.hops (suc y.hops)) → x ≤ᶜ via a y
    order (inl p) = inl (ltb→lt x.weight (a + y.weight) p)
    order (inr p) = inr (eqb→eq x.weight (a + y.weight) (search conj), leb→le x.hops (suc y.hops) (search conj))

is_sum→ : (a : ℕ) (d e : Option Cost) → T (is_sum a d e) → (y : Cost) × (e ≡ some y) × (d ≡ some (via a y))
is_sum→ a d none h = absurd h
is_sum→ a none (some y) h = absurd h
is_sum→ a (some x) (some y) h = (y, refl, cost_ext (eqb→eq x.weight (a + y.weight) (search conj)) (eqb→eq x.hops (suc y.hops) (search conj)))

→is_sum : (a : ℕ) (y : Cost) → T (is_sum a (some (via a y)) (some y))
→is_sum a y = search (conj, eqb_refl)

module _ (g : Graph) (F : List (List ℕ)) (t : ℕ) (table : List Entry) where
  abbrev pub distance : List ℕ → Option Cost
  distance = distance_in table

  -- The tests of a step (below the count), of a settled table, of a usable step and of the greedy walk.
  abbrev pub is_step : List ℕ → ℕ → Bool
  is_step q v = is_arc g (latest q) v && not (blocked F q v)

  abbrev pub is_relaxed : List ℕ → ℕ → Bool
  is_relaxed q v = is_listed table (go F q v) && is_at_most (arc_weight g (latest q) v) (distance q) (distance (go F q v))

  abbrev pub is_settled_at : List ℕ → Bool
  is_settled_at q = implies (eqb (latest q) t) (is_zero (distance q)) && all_below g.count (λ v. implies (is_step q v) (is_relaxed q v))

  abbrev pub is_settled : Bool
  is_settled = all (λ e. is_settled_at e.state) table

  abbrev pub is_usable : List ℕ → ℕ → Bool
  is_usable q v = is_step q v && is_sum (arc_weight g (latest q) v) (distance q) (distance (go F q v))

  abbrev pub is_greedy : List ℕ → List ℕ → Bool
  is_greedy q [] = eqb (latest q) t
  is_greedy q (v ∷ c) = ltb v g.count && is_usable q v && (all_below v (λ u. not (is_usable q u)) && is_greedy (go F q v) c)

  is_settled→ : T is_settled → Settled g F t (λ q. T (is_listed table q)) distance
  is_settled→ h = record {
    closed = λ q v i s. let r = relaxed q v i s in search conj;
    target = λ q i e. let a = at q i in is_zero→ (distance q) (implies→ (eqb (latest q) t) (is_zero (distance q)) (search conj) (rw e (eqb_refl t)));
    relaxed = λ q v i s y e.
        let r = relaxed q v i s in
        let m : T (is_at_most (arc_weight g (latest q) v) (distance q) (distance (go F q v))) = search conj in
        is_at_most→ (arc_weight g (latest q) v) (distance q) y (rw e at m);
  }
    where
      at : (q : List ℕ) → T (is_listed table q) → T (is_settled_at q)
      at q i =
          let e = any→some (λ e. same q e.state) table i in
          rw (same→≡ q e.0.state e.2) (all→each (λ e. is_settled_at e.state) h e.1)

      relaxed : (q : List ℕ) (v : ℕ) → T (is_listed table q) → Step g F q v → T (is_relaxed q v)
      relaxed q v i s = let a = at q i in implies→ (is_step q v) (is_relaxed q v) (all_below→each g.count (λ u. implies (is_step q u) (is_relaxed q u)) (search conj) v s.below) (search conj)

  is_usable→ : (q : List ℕ) (v : ℕ) → v < g.count → T (is_usable q v) → Usable g F distance q v
  is_usable→ q v b h =
      let y = is_sum→ (arc_weight g (latest q) v) (distance q) (distance (go F q v)) (search conj) in
      record { step = record { arc = search conj; below = b; free = search conj }; rest = y.0; after = y.1; here = y.2 }

  →is_usable : (q : List ℕ) (v : ℕ) → Usable g F distance q v → T (is_usable q v)
  →is_usable q v u =
      let a : T (is_sum (arc_weight g (latest q) v) (distance q) (distance (go F q v))) = rw (u.after, u.here) (→is_sum (arc_weight g (latest q) v) u.rest) in
      search conj

  is_greedy→ : (c q : List ℕ) → T (is_greedy q c) → Greedy g F t distance q c
  is_greedy→ [] q h = eqb→eq (latest q) t h
  is_greedy→ (v ∷ c) q h = (
    is_usable→ q v (ltb→lt v g.count (search conj)) (search conj),
    λ u l w. T_not (is_usable q u) (all_below→each v (λ u. not (is_usable q u)) (search conj) u l) (→is_usable q u w),
    is_greedy→ c (go F q v) (search conj),
  )

  module _ (s : ℕ) where
    -- The table is settled and has the start.
    abbrev pub is_certificate : Bool
    is_certificate = is_settled && is_listed table (s ∷ []) && ltb s g.count && avoids F (s ∷ [])

    pub certified-best : (c : List ℕ) → T (is_certificate && is_greedy (s ∷ []) c) → Best g F s t (s ∷ c)
    certified-best c h =
        greedy_best g F t distance (λ q. T (is_listed table q)) (is_settled→ (search conj)) s (ltb→lt s g.count (search conj)) (avoids→Avoids F (s ∷ []) (search conj)) (search conj) c
        (is_greedy→ c (s ∷ []) (search conj))

    pub certified-none : T is_certificate → distance (s ∷ []) ≡ none → None g F s t
    certified-none h e =
        settled-none g F t distance (λ q. T (is_listed table q)) (is_settled→ (search conj)) s (ltb→lt s g.count (search conj)) (avoids→Avoids F (s ∷ []) (search conj)) (search conj) e
