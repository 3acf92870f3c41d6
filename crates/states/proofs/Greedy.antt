-- The laws of what specs/Greedy.antt defines.
use Rattle.std.specs.Prelude.{List, [], ◌∷◌, ◌≡◌, refl, ℕ, ◌<◌, length}
use Rattle.std.proofs.Common.{inl, inr, sym, ap, ◌∙◌, arith}
use Rattle.std.proofs.Math.Option.{Option, none, some, none-ne-some}
use Rattle.std.proofs.Math.Decide.{dec_lt}
use Rattle.walks.specs.Graph.{Graph, arc_weight}
use Rattle.walks.specs.Walk.{weight_from}
use Rattle.walks.specs.Order.{Lex, ◌≼⟨◌⟩◌}
use Rattle.walks.specs.Avoid.{Avoids}
use Rattle.walks.specs.Best.{Best, None}
use Rattle.states.specs.States.{latest}
use Rattle.states.specs.Automaton.{go}
use Rattle.states.proofs.Automaton.{latest-go}
use Rattle.states.specs.Follow.{Follows}
use Rattle.states.proofs.Follow.{follows-best, follows-none}
use Rattle.states.specs.Cost.{Cost, ◌≤ᶜ◌, via, cost_of}
use Rattle.states.proofs.Cost.{≤ᶜ-trans, ≤ᶜ-antisym, via_mono, via_cancel}
use Rattle.states.specs.Greedy.{Settled, Usable, Greedy}

one_value : {d : Option Cost} {x y : Cost} → d ≡ some x → d ≡ some y → x ≡ y
one_value p q = cc

module _ (g : Graph) (F : List (List ℕ)) (t : ℕ) (D : List ℕ → Option Cost) where
  pub greedy_follows : (c q : List ℕ) → Greedy g F t D q c → Follows g F t q c
  greedy_follows [] q h = h
  greedy_follows (v ∷ c) q h = (h.0.step, greedy_follows c (go F q v) h.2)

  module _ (Q : List ℕ → Type 0) (settled : Settled g F t Q D) where
    -- A settled distance is at most the cost of every walk.
    pub settled-least : (c q : List ℕ) → Q q → Follows g F t q c → (x : Cost) × (D q ≡ some x) × (x ≤ᶜ cost_of g q c)
    settled-least [] q i f = (record { weight = 0; hops = 0 }, settled.target q i f, inr (refl, omega arith))
    settled-least (v ∷ c) q i f =
        let r = settled-least c (go F q v) (settled.closed q v i f.0) f.1 in
        let x = settled.relaxed q v i f.0 r.0 r.1 in
        (x.0, x.1, ≤ᶜ-trans x.2 (via_mono (arc_weight g (latest q) v) (rw latest-go at r.2)))

    -- A greedy walk costs the distance.
    pub greedy_cost : (c q : List ℕ) → Q q → Greedy g F t D q c → D q ≡ some (cost_of g q c)
    greedy_cost [] q i h = settled.target q i h
    greedy_cost (v ∷ c) q i h =
        let r : D (go F q v) ≡ some (record { weight = weight_from g v c; hops = length c }) = rw latest-go at (greedy_cost c (go F q v) (settled.closed q v i h.0.step) h.2) in
        h.0.here ∙ ap (λ (x : Cost). some (via (arc_weight g (latest q) v) x)) (one_value h.0.after r)

    -- A step of a walk that costs the distance is usable, and the rest of the walk costs the distance that is left.
    first-usable : (v : ℕ) (c q : List ℕ) → Q q → Follows g F t q (v ∷ c) → D q ≡ some (cost_of g q (v ∷ c)) → Usable g F D q v × (D (go F q v) ≡ some (cost_of g (go F q v) c))
    first-usable v c q i f e =
        let y = settled-least c (go F q v) (settled.closed q v i f.0) f.1 in
        let x = settled.relaxed q v i f.0 y.0 y.1 in
        let a = arc_weight g (latest q) v in
        let z : Cost = record { weight = weight_from g v c; hops = length c } in
        let less : via a z ≤ᶜ via a y.0 = rw (one_value x.1 e) at x.2 in
        let same : y.0 ≡ z = ≤ᶜ-antisym (rw latest-go at y.2) (via_cancel a less) in
        (record { step = f.0; rest = z; after = y.1 ∙ ap some same; here = e }, rw latest-go (y.1 ∙ ap some same))

    -- The greedy walk is the lexicographically first of those that cost the distance.
    greedy_lex : (c c' q : List ℕ) → Q q → Greedy g F t D q c → Follows g F t q c' → D q ≡ some (cost_of g q c') → Lex c c'
    greedy_lex [] c' q i h f e = tt
    greedy_lex (v ∷ c) [] q i h f e = absurd (omega (arith, ap (λ (x : Cost). x.hops) (one_value h.0.here e)))
    greedy_lex (v ∷ c) (u ∷ c') q i h f e =
        let s = first-usable u c' q i f e in
        first (greedy_lex c c' (go F q v) (settled.closed q v i h.0.step) h.2) s.0 s.1 (dec_lt v u) (dec_lt u v)
      where
        first : (Follows g F t (go F q v) c' → D (go F q v) ≡ some (cost_of g (go F q v) c') → Lex c c') → Usable g F D q u → D (go F q u) ≡ some (cost_of g (go F q u) c') → Dec (v < u) → Dec (u < v) → Lex (v ∷ c) (u ∷ c')
        first rec w d (yes p) k = inl p
        first rec w d (no p) (yes k) = absurd (h.1 u k w)
        first rec w d (no p) (no k) =
            let same : u ≡ v = omega arith in
            inr (sym same, rec (rw same at f.1) (rw same at d))

    -- Greedy walks are best.
    pub greedy_least : (c c' q : List ℕ) → Q q → Greedy g F t D q c → Follows g F t q c' → (latest q ∷ c) ≼⟨ g ⟩ (latest q ∷ c')
    greedy_least c c' q i h f =
        let x = settled-least c' q i f in
        let e = greedy_cost c q i h in
        tie (rw (one_value x.1 e) at x.2) (dec_lt (length c) (length c'))
      where
        tie : cost_of g q c ≤ᶜ cost_of g q c' → Dec (length c < length c') → (latest q ∷ c) ≼⟨ g ⟩ (latest q ∷ c')
        tie (inl p) d = inl p
        tie (inr p) (yes d) = inr (p.0, inl d)
        tie (inr p) (no d) =
            let hops : length c ≡ length c' = omega arith in
            let same : cost_of g q c ≡ cost_of g q c' = λ j. record { weight = p.0 j; hops = hops j } in
            inr (p.0, inr (hops, inr (refl, greedy_lex c c' q i h f (greedy_cost c q i h ∙ ap some same))))

    module _ (s : ℕ) (below : s < g.count) (clear : Avoids F (s ∷ [])) (start : Q (s ∷ [])) where
      -- The greedy walk from s is the best one, and where s has no distance there is none.
      pub greedy_best : (c : List ℕ) → Greedy g F t D (s ∷ []) c → Best g F s t (s ∷ c)
      greedy_best c h = follows-best g F t s below clear c (greedy_follows c (s ∷ []) h) (λ c' f. greedy_least c c' (s ∷ []) start h f)

      pub settled-none : D (s ∷ []) ≡ none → None g F s t
      settled-none e = follows-none g F t s below clear (λ c f. let x = settled-least c (s ∷ []) start f in none-ne-some x.0 (sym e ∙ x.1))
