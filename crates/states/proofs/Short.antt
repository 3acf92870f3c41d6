-- The laws of what specs/Short.antt defines.
use mathlib.Core.List.Memᴰ
use mathlib.Core.List.{List, [], ◌∷◌, Memᴰ}
use Rattle.std.proofs.Common.{inl, inr, sym, ap, subst, arith}
use Rattle.std.specs.Prelude.{◌≡◌, refl, ℕ, suc, ◌+◌, ◌*◌, ◌<◌, ◌≤◌, length}
use Rattle.walks.specs.Graph.{Graph, arc_weight}
use Rattle.walks.specs.Walk.{weight_from, weight_of}
use Rattle.walks.proofs.Walk.{hops-length, weight-bound}
use Rattle.walks.specs.Avoid.{Avoids}
use Rattle.walks.proofs.Avoid.{Avoids-front}
use Rattle.walks.specs.Order.{◌≼⟨◌⟩◌, Tiebreak, Lex}
use Rattle.walks.specs.Best.{Best}
use Rattle.walks.proofs.Best.{Feasible-cons}
use Rattle.states.specs.States.{State, vertex, latest}
use Rattle.states.specs.Automaton.{go}
use Rattle.states.proofs.Automaton.{go-state, latest-go}
use Rattle.states.specs.Follow.{Follows}
use Rattle.states.proofs.Follow.{feasible-follows}
use Rattle.lists.specs.Distinct.{Distinct}
use Rattle.limits.specs.Limits.{most_vertices, most_paths, heaviest, longest, longest_path}
use Rattle.states.proofs.Count.{state-count, states-longest}
use Rattle.states.specs.Cost.{◌≤ᶜ◌, cost_of}
use Rattle.states.proofs.Cost.{via_cancel}
use Rattle.states.specs.Short.{trace}

pub length-trace : (F : List (List ℕ)) (q c : List ℕ) → length (trace F q c) ≡ suc (length c)
length-trace F q [] = refl
length-trace F q (v ∷ c) = ap suc (length-trace F (go F q v) c)

module _ (g : Graph) (F : List (List ℕ)) (t : ℕ) where
  -- From each state of a walk the rest of the walk goes on, and costs no more. It comes to no state twice if the walk does not.
  pub rest_of : (c q p : List ℕ) → Memᴰ p (trace F q c) → Follows g F t q c → (d : List ℕ) × Follows g F t p d × (length d ≤ length c) × (weight_from g (latest p) d ≤ weight_from g (latest q) c) × (Distinct (trace F q c) → Distinct (trace F p d))
  rest_of [] q p (Memᴰ.tail m) f = absurd (Memᴰ.not-nil m)
  rest_of [] q p (Memᴰ.head e) f = ([], rw e f, omega arith, omega arith, λ x. (Memᴰ.not-nil, tt))
  rest_of (v ∷ c) q p (Memᴰ.head e) f = (v ∷ c, rw e f, omega arith, rw e (omega arith), λ x. rw e x)
  rest_of (v ∷ c) q p (Memᴰ.tail m) f =
      let r = rest_of c (go F q v) p m f.1 in
      let light : weight_from g (latest p) r.0 ≤ weight_from g v c = rw latest-go at r.3 in
      (r.0, r.1, omega (arith, r.2), omega arith, λ x. r.4 x.1)

  -- A walk that costs least comes to no state twice: the rest from the second time would cost less.
  least-distinct : (c q : List ℕ) → Follows g F t q c → ((d : List ℕ) → Follows g F t q d → cost_of g q c ≤ᶜ cost_of g q d) → Distinct (trace F q c)
  least-distinct [] q f h = (Memᴰ.not-nil, tt)
  least-distinct (v ∷ c) q f h = (λ m. again (rest_of c (go F q v) q m f.1), least-distinct c (go F q v) f.1 (λ d f'. rw latest-go (via_cancel (arc_weight g (latest q) v) (h (v ∷ d) (f.0, f')))))
    where
      again : (d : List ℕ) × Follows g F t q d × (length d ≤ length c) × (weight_from g (latest q) d ≤ weight_from g (latest (go F q v)) c) × (Distinct (trace F (go F q v) c) → Distinct (trace F q d)) → ⊥
      again r = dearer (h r.0 r.1)
        where
          light : weight_from g (latest q) r.0 ≤ weight_from g v c
          light = rw latest-go at r.3

          dearer : cost_of g q (v ∷ c) ≤ᶜ cost_of g q r.0 → ⊥
          dearer (inl p) = omega (arith, light)
          dearer (inr p) = omega (arith, p.1, r.2)

  pub trace-states : (c q : List ℕ) → State F q → latest q < g.count → Follows g F t q c → (p : List ℕ) → Memᴰ p (trace F q c) → State F p × (latest p < g.count)
  trace-states [] q s b f p (Memᴰ.head e) = rw e (s, b)
  trace-states [] q s b f p (Memᴰ.tail m) = absurd (Memᴰ.not-nil m)
  trace-states (v ∷ c) q s b f p (Memᴰ.head e) = rw e (s, b)
  trace-states (v ∷ c) q s b f p (Memᴰ.tail m) = trace-states c (go F q v) (go-state F q v) (rw latest-go f.0.below) f.1 p m

  module _ {s : ℕ} {w : List ℕ} (best : Best g F s t w) where
    -- A best walk has at most a vertex for each state: one for each vertex, and m for each path of at most 2 + m vertices.
    pub best-length : (m : ℕ) → ((r : List ℕ) → Memᴰ r F → length r ≤ 2 + m) → length w ≤ g.count + length F * m
    best-length m h = subst (λ (x : List ℕ). length x ≤ g.count + length F * m) (sym split.1) count
      where
        split : (c : List ℕ) × (w ≡ s ∷ c)
        split = Feasible-cons w best.feasible

        c : List ℕ
        c = split.0

        same : Best g F s t (s ∷ c)
        same = rw split.1 at best

        below : s < g.count
        below = same.feasible.walk.below 0 (omega arith)

        clear : Avoids F (s ∷ [])
        clear = Avoids-front (s ∷ []) c same.feasible.clear

        cheaper : (d : List ℕ) → (s ∷ c) ≼⟨ g ⟩ (s ∷ d) → cost_of g (s ∷ []) c ≤ᶜ cost_of g (s ∷ []) d
        cheaper d (inl p) = inl p
        cheaper d (inr p) = inr (p.0, tie p.1)
          where
            tie : Tiebreak (length c) (length d) (Lex (s ∷ c) (s ∷ d)) → length c ≤ length d
            tie (inl q) = omega arith
            tie (inr q) = omega arith

        follows : Follows g F t (s ∷ []) c
        follows = (feasible-follows g F t s c below clear).0 same.feasible

        distinct : Distinct (trace F (s ∷ []) c)
        distinct = least-distinct c (s ∷ []) follows (λ d f. cheaper d (same.least (s ∷ d) ((feasible-follows g F t s d below clear).1 f)))

        count : length (s ∷ c) ≤ g.count + length F * m
        count = omega (arith, length-trace F (s ∷ []) c, state-count g.count m F (trace F (s ∷ []) c) distinct (trace-states c (s ∷ []) (vertex s refl) below follows) h)

    -- With at most 64 vertices and 256 paths of at most 8 vertices: at most 1,600 vertices, and at most 1,599,000,000 where no arc weighs over 1,000,000.
    pub best-bound : g.count ≤ most_vertices → length F ≤ most_paths → ((r : List ℕ) → Memᴰ r F → length r ≤ longest_path) → length w ≤ longest
    best-bound a b h = states-longest (length w) (omega (arith, best-length 6 h))

    pub best-weight : g.count ≤ most_vertices → length F ≤ most_paths → ((r : List ℕ) → Memᴰ r F → length r ≤ longest_path) → ((u v : ℕ) → arc_weight g u v ≤ heaviest) → weight_of g w ≤ 1599000000
    best-weight a b h l = omega (arith, best-bound a b h, hops-length w best.feasible.walk, weight-bound g heaviest l w)
