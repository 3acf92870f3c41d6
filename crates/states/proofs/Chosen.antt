-- The laws of what specs/Chosen.antt defines.
use Rattle.std.specs.Prelude.{◌≡◌, ℕ, zero, suc, ◌+◌, ◌*◌, ◌<◌, ◌≤◌, length, get_or}
use mathlib.Core.List.Memᴰ
use mathlib.Core.List.{List, [], ◌∷◌, map, List-discrete, Memᴰ}
use Rattle.std.proofs.Common.{inl, inr, sym, ap, subst, arith}
use Rattle.std.proofs.Math.Logic.{by_cases}
use Rattle.std.proofs.Math.Option.{Option, none, some}
use Rattle.std.proofs.Math.Path.{refl}
use Rattle.std.proofs.Math.Decide.{ℕ_discrete, dec_lt}
use Rattle.std.proofs.Math.Dec.{T}
use Rattle.lists.specs.Distinct.{Distinct, mem?}
use Rattle.walks.specs.Graph.{Graph}
use Rattle.walks.specs.Walk.{weight_from}
use Rattle.walks.specs.Avoid.{Avoids}
use Rattle.walks.proofs.Avoid.{Avoids-front}
use Rattle.walks.specs.Order.{◌≼⟨◌⟩◌}
use Rattle.walks.proofs.Order.{≼_refl, ≼_trans}
use Rattle.walks.specs.Best.{Feasible, Best}
use Rattle.walks.proofs.Best.{Feasible-cons}
use Rattle.walks.specs.Feasible.{is_feasible}
use Rattle.walks.proofs.Feasible.{is_feasible→Feasible, Feasible→is_feasible}
use Rattle.states.specs.States.{vertex, latest}
use Rattle.states.specs.Automaton.{go}
use Rattle.states.proofs.Automaton.{latest-go}
use Rattle.states.specs.Follow.{Follows}
use Rattle.states.proofs.Follow.{feasible-follows}
use Rattle.states.proofs.Count.{state-count, states-longest}
use Rattle.limits.specs.Limits.{most_vertices, most_paths, longest, longest_path}
use Rattle.states.specs.Short.{trace}
use Rattle.states.proofs.Short.{length-trace, rest_of, trace-states, best-bound}
use Rattle.states.specs.Chosen.{NoDearer, Shortened, ShortFeasible, headed, lists_of, IsLeastOf, least_of-is, chosen, Decided}

module _ (g : Graph) (F : List (List ℕ)) (t : ℕ) where
  -- A step to v, and then what is left of c without its rounds: if that comes back to q, the rest from there.
  shorten-step : (q : List ℕ) (v : ℕ) (c d : List ℕ) → Follows g F t q (v ∷ c) → Shortened g F t (go F q v) c d → Dec (Memᴰ q (trace F (go F q v) d)) → (d : List ℕ) × Shortened g F t q (v ∷ c) d
  shorten-step q v c d f h (yes m) = (r.0, record { follows = r.1; distinct = r.4 h.distinct; no_dearer = inr (fewer h.no_dearer) })
    where
      r : (d' : List ℕ) × Follows g F t q d' × (length d' ≤ length d) × (weight_from g (latest q) d' ≤ weight_from g (latest (go F q v)) d) × (Distinct (trace F (go F q v) d) → Distinct (trace F q d'))
      r = rest_of g F t d (go F q v) q m h.follows

      light : weight_from g (latest q) r.0 ≤ weight_from g v d
      light = rw latest-go at r.3

      fewer : NoDearer g (go F q v) d c → (length r.0 < length (v ∷ c)) × (weight_from g (latest q) r.0 ≤ weight_from g (latest q) (v ∷ c))
      fewer (inl e) = (omega (arith, r.2, ap length e), omega (arith, light, ap (weight_from g v) e))
      fewer (inr p) =
          let lighter : weight_from g v d ≤ weight_from g v c = rw latest-go at p.1 in
          (omega (arith, r.2), omega (arith, light))
  shorten-step q v c d f h (no m) = (v ∷ d, record { follows = (f.0, h.follows); distinct = (m, h.distinct); no_dearer = longer h.no_dearer })
    where
      longer : NoDearer g (go F q v) d c → NoDearer g q (v ∷ d) (v ∷ c)
      longer (inl e) = inl (cc)
      longer (inr p) =
          let lighter : weight_from g v d ≤ weight_from g v c = rw latest-go at p.1 in
          inr (omega arith, omega arith)

  pub shorten : (c q : List ℕ) → Follows g F t q c → (d : List ℕ) × Shortened g F t q c d
  shorten [] q f = ([], record { follows = f; distinct = (Memᴰ.not-nil, tt); no_dearer = inl refl })
  shorten (v ∷ c) q f =
      let r = shorten c (go F q v) f.1 in
      shorten-step q v c r.0 f r.1 (mem? (List-discrete ℕ_discrete) q (trace F (go F q v) r.0))

no_dearer_before : (g : Graph) (s : ℕ) (c d : List ℕ) → NoDearer g (s ∷ []) d c → (s ∷ d) ≼⟨ g ⟩ (s ∷ c)
no_dearer_before g s c d (inl e) = subst (λ (x : List ℕ). (s ∷ d) ≼⟨ g ⟩ (s ∷ x)) e (≼_refl g (s ∷ d))
no_dearer_before g s c d (inr p) = by_cases (dec_lt (weight_from g s d) (weight_from g s c)) inl (λ (l : ¬ (weight_from g s d < weight_from g s c)). inr (omega arith, inl p.0))

-- Each feasible walk has one with at most a vertex for each state.
module _ (g : Graph) (F : List (List ℕ)) (s t m : ℕ) (size : (r : List ℕ) → Memᴰ r F → length r ≤ 2 + m) where
  short-from : (c : List ℕ) → Feasible g F s t (s ∷ c) → (v : List ℕ) × ShortFeasible g F s t (g.count + length F * m) (s ∷ c) v
  short-from c f = (s ∷ d, record { feasible = (feasible-follows g F t s d below clear).1 h.follows; short = short; before = no_dearer_before g s c d h.no_dearer })
    where
      below : s < g.count
      below = f.walk.below 0 (omega arith)

      clear : Avoids F (s ∷ [])
      clear = Avoids-front (s ∷ []) c f.clear

      r : (d : List ℕ) × Shortened g F t (s ∷ []) c d
      r = shorten g F t c (s ∷ []) ((feasible-follows g F t s c below clear).0 f)

      d : List ℕ
      d = r.0

      h : Shortened g F t (s ∷ []) c d
      h = r.1

      short : length (s ∷ d) ≤ g.count + length F * m
      short = omega (arith, length-trace F (s ∷ []) d, state-count g.count m F (trace F (s ∷ []) d) h.distinct (trace-states g F t d (s ∷ []) (vertex s refl) below h.follows) size)

  pub short-feasible : (w : List ℕ) → Feasible g F s t w → (v : List ℕ) × ShortFeasible g F s t (g.count + length F * m) w v
  short-feasible w f =
      let p = Feasible-cons w f in
      let r = short-from p.0 (rw p.1 at f) in
      (r.0, subst (λ (x : List ℕ). ShortFeasible g F s t (g.count + length F * m) x r.0) (sym p.1) r.1)

∈map : (v : ℕ) {l : List ℕ} {L : List (List ℕ)} → Memᴰ l L → Memᴰ (v ∷ l) (map (λ x. v ∷ x) L)
∈map v (Memᴰ.head e) = Memᴰ.head (ap (λ (x : List ℕ). v ∷ x) e)
∈map v (Memᴰ.tail m) = Memᴰ.tail (∈map v m)

∈headed : (n v : ℕ) {l : List ℕ} {L : List (List ℕ)} → v < n → Memᴰ l L → Memᴰ (v ∷ l) (headed n L)
unfolding headed
∈headed zero v b m = absurd (omega arith)
∈headed (suc n) v {l} {L} b m =
    by_cases (ℕ_discrete v n)
    (λ e. Memᴰ.append_left {s = map (λ x. n ∷ x) L} (headed n L) (rw e (∈map n m)))
    (λ (d : ¬ (v ≡ n)). Memᴰ.append_right (map (λ x. n ∷ x) L) (∈headed n v (omega arith) m))

pub ∈listsOf : (n k : ℕ) (w : List ℕ) → length w ≤ k → ((i : ℕ) → i < length w → get_or w i 0 < n) → Memᴰ w (lists_of n k)
unfolding lists_of
∈listsOf n zero [] h b = Memᴰ.head refl
∈listsOf n zero (v ∷ w) h b = absurd (omega arith)
∈listsOf n (suc k) [] h b = Memᴰ.head refl
∈listsOf n (suc k) (v ∷ w) h b = Memᴰ.tail (∈headed n v (b 0 (omega arith)) (∈listsOf n k w (omega arith) (λ i l. b (suc i) (omega arith))))

module _ (g : Graph) (F : List (List ℕ)) (s t : ℕ) (vertices : g.count ≤ most_vertices) (paths : length F ≤ most_paths) (size : (r : List ℕ) → Memᴰ r F → length r ≤ longest_path) where
  -- A listed walk for each feasible one.
  listed : (w : List ℕ) → Feasible g F s t w → (v : List ℕ) × Memᴰ v (lists_of g.count longest) × T (is_feasible g F s t v) × (v ≼⟨ g ⟩ w)
  listed w f =
      let (v, h) = short-feasible g F s t 6 size w f in
      (v, ∈listsOf g.count longest v (states-longest (length v) (omega (arith, h.short))) h.feasible.walk.below, Feasible→is_feasible g F s t v h.feasible, h.before)

  -- So the least of the listed ones is the best of all.
  decided : (o : Option (List ℕ)) → IsLeastOf g (is_feasible g F s t) (lists_of g.count longest) o → Decided g F s t o
  decided none h = λ w f. let (v, m, x, b) = listed w f in h v m x
  decided (some u) h = (best, best-bound g F t best vertices paths size)
    where
      least : (w : List ℕ) → Feasible g F s t w → u ≼⟨ g ⟩ w
      least w f =
          let (v, m, x, b) = listed w f in
          ≼_trans g u v w (h.1 v m x) b

      best : Best g F s t u
      best = record { feasible = is_feasible→Feasible g F s t u h.0; least = least }

  -- The chosen walk is the best of all feasible walks, of whatever length; where none is chosen there is none.
  pub chosen_is : Decided g F s t (chosen g F s t)
  unfolding chosen
  chosen_is = decided (chosen g F s t) (least_of-is g (is_feasible g F s t) (lists_of g.count longest))
