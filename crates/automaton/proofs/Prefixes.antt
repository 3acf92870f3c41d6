-- Prefixes of forbidden paths as states; when a row and a blocked bit are settled.
use mathlib.Core.Bool.{Bool, true, false, cond}
use mathlib.Core.List.Memᴰ
use mathlib.Core.List.{List, [], ◌∷◌, ◌++◌, reverse, reverse_aux, reverse_aux-eq, reverse-reverse, reverse-append, Memᴰ}
use mathlib.Core.Logic.{◌⊎◌, inl, inr}
use mathlib.Core.Path.{◌≡◌, refl, sym, ap, ◌∙◌}
use Prim.Native.Nat.{ℕ, suc, ◌+◌, ◌<◌, ◌≤◌}
use native.Mathlib.Omega.{arith}
use lib.Dec.{T}
use lib.ListN.{length, get_or, take, drop, length-append, length-reverse}
use lib.Seq.{take-suc, take_at, length-take-le, split_at}
use mir.Facts.{or_yes}
use Rattle.lists.specs.Test.{or_left, or_right}
use Rattle.states.specs.States.{State, vertex, prefix, is_state, latest}
use Rattle.states.proofs.States.{is_state→State, State→is_state}
use Rattle.states.specs.Automaton.{go, fail, blocked, forbidden}
use Rattle.states.proofs.Automaton.{fail_cons, fail_shorter, go-cases, blocked-cases, forbidden→member, member→forbidden}
use Rattle.automaton.specs.Built.{Numbers}
use Rattle.automaton.specs.Progress.{Row, Other}
use Rattle.automaton.specs.Words.{member_index, index_member, number-member}

-- The first k vertices of r, latest first.
abbrev pub front : List ℕ → ℕ → List ℕ
front r k = reverse (take k r)

pub front-suc : (r : List ℕ) (k : ℕ) → k < length r → front r (suc k) ≡ get_or r k 0 ∷ front r k
front-suc r k h = ap reverse (take-suc r k 0 h) ∙ reverse-append (take k r) (get_or r k 0 ∷ [])

pub front_length : (r : List ℕ) (k : ℕ) → k ≤ length r → length (front r k) ≡ k
front_length r k h = length-reverse (take k r) ∙ length-take-le k r h

pub front-all : (r : List ℕ) (k : ℕ) → length r ≡ suc k → r ≡ reverse (get_or r k 0 ∷ front r k)
front-all r k e =
    let whole : take (suc k) r ≡ r = ap (λ (x : ℕ). take x r) (sym e) ∙ lib.Seq.take-length r in
    sym (ap reverse (sym (front-suc r k (omega arith))) ∙ reverse-reverse (take (suc k) r) ∙ whole)

cond-true : {A : Type 0} (b : Bool) (x y : A) → T b → cond b x y ≡ x
cond-true true x y t = refl
cond-true false x y t = absurd t

cond-false : {A : Type 0} (b : Bool) (x y : A) → (T b → ⊥) → cond b x y ≡ y
cond-false true x y t = absurd (t tt)
cond-false false x y t = refl

module _ (F : List (List ℕ)) where
  pub front-state : {r : List ℕ} → Memᴰ r F → (k : ℕ) → 1 ≤ k → k < length r → State F (front r k)
  front-state {r} m k a h = prefix m (get_or r k 0) (drop (suc k) r) split (omega (arith, front_length r k (omega arith)))
    where
      c : List ℕ
      c = get_or r k 0 ∷ drop (suc k) r

      split : r ≡ reverse_aux (front r k) c
      split = split_at r k 0 h ∙ sym (reverse_aux-eq (front r k) c ∙ ap (λ (x : List ℕ). x ++ c) (reverse-reverse (take k r)))

  -- A state of two vertices or more is a proper prefix of some path.
  pub state-front : (q : List ℕ) → State F q → 2 ≤ length q → (j : ℕ) × (j < length F) × (length q < length (get_or F j [])) × (front (get_or F j []) (length q) ≡ q)
  state-front q (vertex v e) h = absurd (omega (arith, ap length e))
  state-front q (prefix {r = r} m v b e l) h =
      let s = member_index [] m in
      (s.0, s.1, rw s.2 (omega (arith, size)), rw s.2 whole)
    where
      split : r ≡ reverse q ++ (v ∷ b)
      split = e ∙ reverse_aux-eq q (v ∷ b)

      size : length r ≡ length q + suc (length b)
      size = simp (length-append, length-reverse) at (ap length split)

      whole : front r (length q) ≡ q
      whole = ap reverse (ap (take (length q)) split ∙ take_at (reverse q) (v ∷ b) (length q) (length-reverse q)) ∙ reverse-reverse q

  -- Where the vertices below n and all prefixes of at most k vertices are numbered, so are all states of at most k.
  pub complete : (n k : ℕ) (words : List (List ℕ)) → ((v : ℕ) → v < n → Numbers words v (v ∷ []))
      → ((j h : ℕ) → j < length F → 1 ≤ h → h ≤ k → h < length (get_or F j []) → Memᴰ (front (get_or F j []) h) words)
      → (q : List ℕ) → State F q → latest q < n → length q ≤ k → Memᴰ q words
  complete n k words singles all [] (vertex v e) a b = absurd (omega (arith, ap length e))
  complete n k words singles all [] (prefix m v c e l) a b = absurd (omega arith)
  complete n k words singles all (u ∷ []) s a b = number-member words (singles u a)
  complete n k words singles all (u ∷ u' ∷ q) s a b =
      let f = state-front (u ∷ u' ∷ q) s (omega arith) in
      Memᴰ.cast (sym f.3) (all f.0 (length (u ∷ u' ∷ q)) f.1 (omega arith) b f.2)

  pub fail-go : (v : ℕ) (w : List ℕ) → 1 ≤ length w → fail F (v ∷ w) ≡ go F (fail F w) v
  fail-go v [] h = absurd (omega arith)
  fail-go v (u ∷ w) h = fail_cons F v u w

  pub fail-go-short : (v : ℕ) (w : List ℕ) → 1 ≤ length w → length (go F (fail F w) v) ≤ length w
  fail-go-short v w h = rw (← fail-go v w h) (fail_shorter F v w)

  pub row_settled : (words : List (List ℕ)) (w : List ℕ) (v k : ℕ) → ((q : List ℕ) → Memᴰ q words → State F q) → (State F (v ∷ w) → Memᴰ (v ∷ w) words)
      → Row F words w v k → Numbers words k (go F w v)
  row_settled words w v k only all (inl a) =
      record { below = a.below; is = a.is ∙ sym (go-cases F w v ∙ cond-true (is_state F (v ∷ w)) (v ∷ w) (go F (fail F w) v) (State→is_state F (v ∷ w) (only (v ∷ w) (number-member words a)))) }
  row_settled words w v k only all (inr a) =
      record { below = a.1.below; is = a.1.is ∙ sym (go-cases F w v ∙ cond-false (is_state F (v ∷ w)) (v ∷ w) (go F (fail F w) v) (λ t. a.0 (all (is_state→State F (v ∷ w) t)))) }

  pub blocked-fail : (w : List ℕ) (v : ℕ) → T (blocked F (fail F w) v) → T (blocked F w v)
  blocked-fail w v t = rw (blocked-cases F w v) (or_right (forbidden F (v ∷ w)) (blocked F (fail F w) v) t)

  pub blocked-path : (w : List ℕ) (v j : ℕ) → j < length F → get_or F j [] ≡ reverse (v ∷ w) → T (blocked F w v)
  blocked-path w v j h e = rw (blocked-cases F w v) (or_left (forbidden F (v ∷ w)) (blocked F (fail F w) v) (member→forbidden F (v ∷ w) (Memᴰ.cast (sym e) (index_member [] F j h))))

  -- Where no path of at most k + 1 vertices is w.v, and w has at most k, then v is blocked at w only if it is at the failure link.
  pub unblocked : (w : List ℕ) (v k : ℕ) → length w ≤ k → ((j : ℕ) → j < length F → length (get_or F j []) ≤ suc k → Other F j w v) → (T (blocked F (fail F w) v) → ⊥) → T (blocked F w v) → ⊥
  unblocked w v k h other free t = cases (or_yes (forbidden F (v ∷ w)) (blocked F (fail F w) v) (rw (blocked-cases F w v) at t))
    where
      cases : T (forbidden F (v ∷ w)) ⊎ T (blocked F (fail F w) v) → ⊥
      cases (inl s) =
          let m = member_index [] (forbidden→member F (v ∷ w) s) in
          other m.0 m.1 (omega (arith, ap length m.2, length-reverse (v ∷ w))) m.2
      cases (inr s) = free s
