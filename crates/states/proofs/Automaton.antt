-- The laws of what specs/Automaton.antt defines.
use Rattle.std.specs.Prelude.{not, ◌||◌, ◌⊎◌, ◌↔◌, ◌≡◌}
use Rattle.std.proofs.Math.Bool.{false, cond}
use mathlib.Core.List.Memᴰ
use mathlib.Core.List.{List, [], ◌∷◌, ◌++◌, reverse, reverse-reverse, append-nil, Memᴰ}
use Rattle.std.proofs.Common.{inl, inr, sym, ◌∙◌, arith, T_not, length-append, length-take}
use Rattle.std.proofs.Math.Path.{refl, ap}
use Prim.Native.Nat.{ℕ, suc, ◌<◌, ◌≤◌}
use Rattle.std.proofs.Math.Dec.{T, not_T}
use Rattle.std.proofs.Math.ListN.{length}
use Rattle.std.proofs.lemmas.List.{length-reverse}
use Rattle.std.proofs.Math.Seq.{take-length, get_or-take}
use Rattle.std.proofs.Math.Facts.{or_yes}
use Rattle.lists.specs.Test.{conj, any→some, some→any, or_left, or_right, T_ext}
use Rattle.walks.specs.Avoid.{Occurs, occurs, is_prefix, same, Avoids, Long}
use Rattle.walks.proofs.Avoid.{is_prefix→append, is_prefix-refl, same→≡, same_refl, occurs→Occurs, Occurs→occurs, Occurs-reverse}
use Rattle.states.specs.Longest.{longest_front}
use Rattle.states.proofs.Longest.{longest-is, longest_cons, is_prefix→longest, longest→is_prefix}
use Rattle.states.specs.States.{State, prefix, is_state, latest}
use Rattle.states.proofs.States.{State-closed, is_state→State, State→is_state}
use Rattle.states.specs.Automaton.{state, go, fail, ends_with, blocked, forbidden}

occurs→reverse : (r w : List ℕ) → T (occurs (reverse r) w) → Occurs r (reverse w)
occurs→reverse r w t = rw reverse-reverse at (Occurs-reverse (occurs→Occurs (reverse r) w t))

reverse→occurs : (r w : List ℕ) → Occurs r (reverse w) → T (occurs (reverse r) w)
reverse→occurs r w o = Occurs→occurs (reverse r) w (rw reverse-reverse at (Occurs-reverse o))

module _ (F : List (List ℕ)) where
  pub forbidden→member : (q : List ℕ) → T (forbidden F q) → Memᴰ (reverse q) F
  unfolding forbidden
  forbidden→member q t =
      let a = any→some (same (reverse q)) F t in
      Memᴰ.cast (same→≡ (reverse q) a.0 a.2) a.1

  pub member→forbidden : (q : List ℕ) → Memᴰ (reverse q) F → T (forbidden F q)
  unfolding forbidden
  member→forbidden q m = some→any (same (reverse q)) m (same_refl (reverse q))

  closed : (v : ℕ) (q : List ℕ) → 0 < length q → T (is_state F (v ∷ q)) → T (is_state F q)
  closed v q h t = State→is_state F q (State-closed v q h (is_state→State F (v ∷ q) t))

  -- Theorem 2: the state after one more vertex depends on the state alone.
  pub state_cons : (v : ℕ) (w : List ℕ) → state F (v ∷ w) ≡ go F (state F w) v
  unfolding state go
  state_cons v w = longest_cons (is_state F) closed (length w) v w (omega arith)

  -- The failure link of q.v is the step over v from the failure link of q.
  pub fail_cons : (v u : ℕ) (q : List ℕ) → fail F (v ∷ u ∷ q) ≡ go F (fail F (u ∷ q)) v
  unfolding state go fail
  fail_cons v u q = longest_cons (is_state F) closed (length q) v (u ∷ q) (omega arith)

  -- A single vertex has no failure link.
  pub fail_single : (v : ℕ) → fail F (v ∷ []) ≡ []
  unfolding fail
  fail_single v = refl

  -- A failure link is shorter than its state.
  pub fail_shorter : (v : ℕ) (q : List ℕ) → length (fail F (v ∷ q)) ≤ length q
  unfolding fail
  fail_shorter v q =
      let l = longest-is (is_state F) (length q) (v ∷ q) in
      rw (l.is-take, length-take) (omega (arith, l.within))

  -- A step leads to a state that stands at its vertex.
  pub go-state : (q : List ℕ) (v : ℕ) → State F (go F q v)
  unfolding state go
  go-state q v =
      let l = longest-is (is_state F) (suc (length q)) (v ∷ q) in
      is_state→State F (state F (v ∷ q)) (rw l.is-take (l.passes (l.most 1 (omega arith) (omega arith) tt)))

  pub latest-go : (q : List ℕ) (v : ℕ) → latest (go F q v) ≡ v
  unfolding state go
  latest-go q v =
      let l = longest-is (is_state F) (suc (length q)) (v ∷ q) in
      rw (l.is-take, get_or-take l.size (v ∷ q) 0 0 (l.most 1 (omega arith) (omega arith) tt))

  -- A step goes to q.v where that is a state, and otherwise where the failure link's step goes.
  pub go-cases : (q : List ℕ) (v : ℕ) → go F q v ≡ cond (is_state F (v ∷ q)) (v ∷ q) (go F (fail F q) v)
  unfolding state go fail
  go-cases [] v = refl
  go-cases (u ∷ q) v = ap (λ (x : List ℕ). cond (is_state F (v ∷ u ∷ x)) (v ∷ u ∷ x) (fail F (v ∷ u ∷ q))) (take-length q) ∙ rw (fail_cons v u q)

  -- A forbidden path, within the bound, is a suffix of w.v exactly if it is one of q.v, where q is the longest state that is a suffix of w.
  ends→longest : {r : List ℕ} → Memᴰ r F → (n v : ℕ) (w : List ℕ) → length r ≤ suc n → T (ends_with (v ∷ w) r) → T (ends_with (v ∷ longest_front (is_state F) n w) r)
  ends→longest {r} m n v w h = cases (reverse r) refl
    where
      cases : (p : List ℕ) → reverse r ≡ p → T (is_prefix p (v ∷ w)) → T (is_prefix p (v ∷ longest_front (is_state F) n w))
      cases [] e t = tt
      cases (a ∷ p) e t =
          let shorter : length p ≤ n = omega (arith, rw length-reverse at (ap length e)) in
          let proper : 0 < length p → T (is_state F p) = λ l. State→is_state F p (prefix m a [] (sym (reverse-reverse r) ∙ ap reverse e) l) in
          search (conj, is_prefix→longest (is_state F) n p w shorter proper (search conj))

  longest→ends : (p : List ℕ) (n v : ℕ) (w : List ℕ) → T (is_prefix p (v ∷ longest_front (is_state F) n w)) → T (is_prefix p (v ∷ w))
  longest→ends [] n v w t = tt
  longest→ends (a ∷ p) n v w t = search (conj, longest→is_prefix (is_state F) n p w (search conj))

  -- What is blocked after a walk is what is blocked at its state.
  pub blocked-state : (w : List ℕ) (v : ℕ) → blocked F w v ≡ blocked F (state F w) v
  unfolding state blocked
  blocked-state w v = T_ext (blocked F w v) (blocked F (state F w) v) there back
    where
      there : T (blocked F w v) → T (blocked F (state F w) v)
      there t =
          let a = any→some (ends_with (v ∷ w)) F t in
          let e = is_prefix→append (reverse a.0) (v ∷ w) a.2 in
          let h : length a.0 ≤ suc (length w) = omega (arith, simp (length-append, length-reverse) at (ap length e.1)) in
          some→any (ends_with (v ∷ state F w)) a.1 (ends→longest a.1 (length w) v w h a.2)

      back : T (blocked F (state F w) v) → T (blocked F w v)
      back t =
          let a = any→some (ends_with (v ∷ state F w)) F t in
          some→any (ends_with (v ∷ w)) a.1 (longest→ends (reverse a.0) (length w) v w a.2)

  -- v is blocked at q if q.v is itself forbidden, or v is blocked at the failure link of q.
  pub blocked-cases : (q : List ℕ) (v : ℕ) → blocked F q v ≡ (forbidden F (v ∷ q) || blocked F (fail F q) v)
  unfolding fail blocked
  blocked-cases q v = T_ext (blocked F q v) (forbidden F (v ∷ q) || blocked F (fail F q) v) there back
    where
      to-fail : {r : List ℕ} → Memᴰ r F → (x : List ℕ) → length r ≤ length x → T (ends_with (v ∷ x) r) → T (ends_with (v ∷ fail F x) r)
      to-fail m [] h t = t
      to-fail m (u ∷ x) h t = ends→longest m (length x) v (u ∷ x) h t

      from-fail : (p x : List ℕ) → T (is_prefix p (v ∷ fail F x)) → T (is_prefix p (v ∷ x))
      from-fail p [] t = t
      from-fail p (u ∷ x) t = longest→ends p (length x) v (u ∷ x) t

      split : {r : List ℕ} → Memᴰ r F → T (ends_with (v ∷ q) r) → (b : List ℕ) → v ∷ q ≡ reverse r ++ b → T (forbidden F (v ∷ q) || blocked F (fail F q) v)
      split {r} m t [] e =
          let whole : r ≡ reverse (v ∷ q) = sym (reverse-reverse r) ∙ ap reverse (sym (append-nil (reverse r)) ∙ sym e) in
          or_left (forbidden F (v ∷ q)) (blocked F (fail F q) v) (member→forbidden (v ∷ q) (Memᴰ.cast (sym whole) m))
      split {r} m t (x ∷ b) e =
          let h : length r ≤ length q = omega (arith, simp (length-append, length-reverse) at (ap length e)) in
          or_right (forbidden F (v ∷ q)) (blocked F (fail F q) v) (some→any (ends_with (v ∷ fail F q)) m (to-fail m q h t))

      there : T (blocked F q v) → T (forbidden F (v ∷ q) || blocked F (fail F q) v)
      there t =
          let a = any→some (ends_with (v ∷ q)) F t in
          let e = is_prefix→append (reverse a.0) (v ∷ q) a.2 in
          split a.1 a.2 e.0 e.1

      join : T (forbidden F (v ∷ q)) ⊎ T (blocked F (fail F q) v) → T (blocked F q v)
      join (inl t) = some→any (ends_with (v ∷ q)) (forbidden→member (v ∷ q) t) (rw (reverse-reverse (v ∷ q)) (is_prefix-refl (v ∷ q)))
      join (inr t) =
          let a = any→some (ends_with (v ∷ fail F q)) F t in
          some→any (ends_with (v ∷ q)) a.1 (from-fail (reverse a.0) q a.2)

      back : T (forbidden F (v ∷ q) || blocked F (fail F q) v) → T (blocked F q v)
      back t = join (or_yes (forbidden F (v ∷ q)) (blocked F (fail F q) v) t)

  -- Where each path has two vertices or more, nothing is blocked at the failure link of a single vertex.
  pub blocked_nil : Long F → (v : ℕ) → blocked F [] v ≡ false
  unfolding blocked
  blocked_nil long v = T_ext (blocked F [] v) false long_path absurd
    where
      long_path : T (blocked F [] v) → ⊥
      long_path t =
          let a = any→some (ends_with (v ∷ [])) F t in
          let e = is_prefix→append (reverse a.0) (v ∷ []) a.2 in
          omega (arith, long a.0 a.1, simp (length-append, length-reverse) at (ap length e.1))

  -- Theorem 3: w.v avoids F exactly if w does and v is not blocked at the state of w.
  pub avoids_cons : (v : ℕ) (w : List ℕ) → Avoids F (reverse (v ∷ w)) ↔ (Avoids F (reverse w) × T (not (blocked F (state F w) v)))
  unfolding blocked
  avoids_cons v w = rw (← blocked-state w v) (there, back)
    where
      there : Avoids F (reverse (v ∷ w)) → Avoids F (reverse w) × T (not (blocked F w v))
      there h = (
        λ r m o. h r m (occurs→reverse r (v ∷ w) (or_right (ends_with (v ∷ w) r) (occurs (reverse r) w) (reverse→occurs r w o))),
        not_T (blocked F w v) (λ t. let a = any→some (ends_with (v ∷ w)) F t in
            h a.0 a.1 (occurs→reverse a.0 (v ∷ w) (or_left (ends_with (v ∷ w) a.0) (occurs (reverse a.0) w) a.2))),
      )

      back : Avoids F (reverse w) × T (not (blocked F w v)) → Avoids F (reverse (v ∷ w))
      back h r m o = cases (or_yes (ends_with (v ∷ w) r) (occurs (reverse r) w) (reverse→occurs r (v ∷ w) o))
        where
          cases : T (ends_with (v ∷ w) r) ⊎ T (occurs (reverse r) w) → ⊥
          cases (inl t) = T_not (blocked F w v) h.1 (some→any (ends_with (v ∷ w)) m t)
          cases (inr t) = h.0 r m (occurs→reverse r w t)
