-- From level to level: the start, the rows of the new states, the next level, and the end.
use mathlib.Core.Bool.{Bool, true, false}
use mathlib.Core.List.{List, [], ◌∷◌, ◌++◌, Memᴰ}
use mathlib.Core.Logic.{inr}
use mathlib.Core.Path.{◌≡◌, refl, sym, ap, subst, ◌∙◌}
use Prim.Native.Nat.{ℕ, zero, suc, ◌+◌, ◌*◌, ◌<◌, ◌≤◌}
use native.Mathlib.Omega.{arith}
use native.Mathlib.Decide.{ℕ_discrete, dec_lt}
use lib.Dec.{T}
use lib.ListN.{length, get_or, set, length-append, length-set, length-reverse, get_or-append}
use lib.Seq.{get_or-set_same, get_or-set_other, get_or_at}
use Rattle.states.specs.States.{State, vertex, latest}
use Rattle.states.specs.Automaton.{go, fail, blocked}
use Rattle.states.proofs.Automaton.{fail_single, fail_shorter, go-cases, blocked_nil}
use Rattle.lists.specs.Distinct.{Distinct}
use Rattle.limits.specs.Limits.{most_paths}
use Rattle.states.specs.Count.{states_of}
use Rattle.automaton.specs.Built.{Numbers, bit, flag, Built}
use Rattle.automaton.specs.Rows.{Copied}
use Rattle.automaton.specs.Area.{Bounded}
use Rattle.automaton.specs.Progress.{Row, Other, BitKnown, raised, clear, Room, Progress}
use Rattle.automaton.specs.Words.{member_index, index_member, distinct_snoc, number-member}
use Rattle.automaton.proofs.Prefixes.{front, front-suc, state-front, complete, row_settled, blocked-fail, unblocked}
use Rattle.automaton.proofs.Bits.{bit-zero}
use Rattle.automaton.proofs.Turns.{room-kept, counted, few}

flag_true : (b : Bool) → T b → 1 ≡ flag b
flag_true true t = refl
flag_true false t = absurd t

flag-false : (b : Bool) → (T b → ⊥) → 0 ≡ flag b
flag-false true t = absurd (t tt)
flag-false false t = refl

fail-short : (F : List (List ℕ)) (w : List ℕ) (l : ℕ) → length w ≡ suc l → length (fail F w) ≤ l
fail-short F [] l e = absurd (omega arith)
fail-short F (v ∷ w) l e = omega (arith, fail_shorter F v w)

module _ {F : List (List ℕ)} {n l i first done m : ℕ} {steps blockeds latests fails current : List ℕ} (p : Progress F n l i first done m steps blockeds latests fails current) where
  word-short : (q : List ℕ) → Memᴰ q p.words → length q ≤ suc l
  word-short q h = let s = member_index [] h in omega (arith, ap length s.2, by s.0 (omega (arith, s.1, p.numbered.count)) (dec_lt s.0 first))
    where
      by : (k : ℕ) → k < m → Dec (k < first) → length (get_or p.words k []) ≤ suc l
      by k a (yes b) = omega (arith, p.numbered.low k b)
      by k a (no b) = omega (arith, p.numbered.high k (omega arith) a)

  -- The failure link of a state of l + 1 vertices is to one of fewer.
  pub link-low : (q : ℕ) → first ≤ q → q < m → get_or fails q 0 < first
  link-low q a b = cases (dec_lt (get_or fails q 0) first)
    where
      link : Numbers p.words (get_or fails q 0) (fail F (get_or p.words q []))
      link = p.links q a b

      cases : Dec (get_or fails q 0 < first) → get_or fails q 0 < first
      cases (yes h) = h
      cases (no h) =
          absurd
          (omega (arith, p.numbered.high (get_or fails q 0) (omega arith) (omega (arith, link.below, p.numbered.count)), ap length link.is, fail-short F (get_or p.words q []) l (p.numbered.high q a b)))

  -- All paths have been taken at this level.
  module _ (taken : length F ≤ i) where
    all-next : (j k : ℕ) → j < length F → 1 ≤ k → k ≤ suc l → k < length (get_or F j []) → Memᴰ (front (get_or F j []) k) p.words
    all-next j k a b c d = cases (ℕ_discrete k (suc l))
      where
        cases : Dec (k ≡ suc l) → Memᴰ (front (get_or F j []) k) p.words
        cases (yes e) = rw e (number-member p.words (p.behind j (omega arith) a (rw e at d)))
        cases (no e) = p.numbered.all j k a b (omega arith) d

    module _ (here : done < m) where
      w-size : length (get_or p.words done []) ≡ suc l
      w-size = p.numbered.high done p.ordered.0 here

      f-short : length (fail F (get_or p.words done [])) ≤ l
      f-short = fail-short F (get_or p.words done []) l w-size

      link : Numbers p.words (get_or fails done 0) (fail F (get_or p.words done []))
      link = p.links done p.ordered.0 here

      low : get_or fails done 0 < first
      low = link-low done p.ordered.0 here

      -- A new state starts with the row and the blocked bits of its failure link.
      pub row_copied : {new : List ℕ} → Copied steps new (get_or fails done 0 * 64) (done * 64) n
          → Progress F n l i first (done + 1) m new (set blockeds done (get_or blockeds (get_or fails done 0) 0)) latests fails current
      row_copied {new} c = record {
        words = p.words;
        numbered = p.numbered;
        ordered = (omega (arith, p.ordered), omega arith);
        behind = p.behind;
        ahead = p.ahead;
        rows = λ u x a b. rows u x a b (ℕ_discrete u done);
        bits = λ u x a. at-state u x a (ℕ_discrete u done);
        links = p.links;
        stands = p.stands;
        room = room-kept p.room c.size (length-set blockeds done y) refl refl;
        current-size = p.current-size;
      }
        where
          f : ℕ
          f = get_or fails done 0

          y : ℕ
          y = get_or blockeds f 0

          w : List ℕ
          w = get_or p.words done []

          row : (x : ℕ) → x < n → Numbers p.words (get_or steps (f * 64 + x) 0) (go F (fail F w) x)
          row x h =
              row_settled F p.words (fail F w) x (get_or steps (f * 64 + x) 0) (λ q a. (p.numbered.only q a).0)
              (λ s. complete F n (suc l) p.words p.numbered.singles all-next (x ∷ fail F w) s h (omega (arith, f-short)))
              (subst (λ z. Row F p.words z x (get_or steps (f * 64 + x) 0)) link.is (p.rows f x (omega (arith, low, p.ordered)) h))

          rows : (u x : ℕ) → u < done + 1 → x < n → Dec (u ≡ done) → Row F p.words (get_or p.words u []) x (get_or new (u * 64 + x) 0)
          rows u x a b (yes e) =
              subst (λ z. Row F p.words (get_or p.words z []) x (get_or new (z * 64 + x) 0)) (sym e)
              (subst (λ z. Row F p.words w x z) (sym (c.there x b)) (inr (λ i'. omega (arith, word-short (x ∷ w) i', w-size), row x b)))
          rows u x a b (no e) =
              subst (λ z. Row F p.words (get_or p.words u []) x z) (sym (c.before (u * 64 + x) (omega (arith, p.numbered.bounded.few-vertices)))) (p.rows u x (omega arith) b)

          too_long : (x j : ℕ) → length (get_or F j []) ≤ suc l → Other F j w x
          too_long x j h e = omega (arith, ap length e, length-reverse (x ∷ w), w-size)

          known : (x b : ℕ) → BitKnown F l i (fail F w) x b → BitKnown F l i w x b
          known x b (raised e t) = raised e (blocked-fail F w x t)
          known x b (clear e g h k) =
              clear e (unblocked F (fail F w) x l f-short (λ j a d. h j (omega arith) a d) g) (λ j a d s. too_long x j s) (λ j a s. too_long x j (omega arith))

          at-state : (u x : ℕ) → u < done + 1 → Dec (u ≡ done) → BitKnown F l i (get_or p.words u []) x (bit (get_or (set blockeds done y) u 0) x)
          at-state u x a (yes e) =
              subst (λ z. BitKnown F l i (get_or p.words z []) x (bit (get_or (set blockeds done y) z 0) x)) (sym e)
              (subst (λ z. BitKnown F l i w x (bit z x)) (sym (get_or-set_same blockeds done y 0 (omega (arith, p.room.of_blockeds, counted p))))
              (known x (bit y x) (subst (λ z. BitKnown F l i z x (bit y x)) link.is (p.bits f x (omega (arith, low, p.ordered))))))
          at-state u x a (no e) =
              subst (λ z. BitKnown F l i (get_or p.words u []) x (bit z x)) (sym (get_or-set_other blockeds done u y 0 e)) (p.bits u x (omega arith))

    -- All rows are there: the next level begins.
    pub next_level : done ≡ m → Progress F n (suc l) 0 m m m steps blockeds latests fails current
    next_level e = record {
      words = p.words;
      numbered = record {
        bounded = p.numbered.bounded;
        positive = omega arith;
        count = p.numbered.count;
        distinct = p.numbered.distinct;
        only = p.numbered.only;
        singles = p.numbered.singles;
        low = λ q a. word-short (get_or p.words q []) (index_member [] p.words q (omega (arith, p.numbered.count)));
        high = λ q a b. absurd (omega arith);
        all = all-next;
      };
      room = p.room;
      current-size = p.current-size;
      ordered = (omega arith, omega arith);
      behind = λ j a b c. absurd (omega arith);
      ahead = λ j a b c. p.behind j (omega arith) b c;
      rows = λ q v a b. p.rows q v (omega arith) b;
      bits = λ q v a. known (get_or p.words q []) v (bit (get_or blockeds q 0) v) (p.bits q v (omega arith));
      links = λ q a b. absurd (omega arith);
      stands = p.stands;
    }
      where
        known : (w : List ℕ) (v b : ℕ) → BitKnown F l i w v b → BitKnown F (suc l) 0 w v b
        known w v b (raised s t) = raised s t
        known w v b (clear s f g h) = clear s f (λ j a c d. absurd (omega arith)) (λ j a d. g j (omega arith) a d)

state-short : {n : ℕ} (F : List (List ℕ)) → Bounded n F → (q : List ℕ) → State F q → length q ≤ 8
state-short F b q s = cases (dec_lt 1 (length q))
  where
    cases : Dec (1 < length q) → length q ≤ 8
    cases (yes h) =
        let f = state-front F q s h in
        omega (arith, f.2, b.short (get_or F f.0 []) (index_member [] F f.0 f.1))
    cases (no h) = omega arith

-- After eight levels the tables are those of the automaton.
pub finished : {F : List (List ℕ)} {n m : ℕ} {steps blockeds latests fails current : List ℕ} → Progress F n 8 0 m m m steps blockeds latests fails current → Built F n m steps blockeds latests
finished {F} {n} {m} {steps} {blockeds} p = record {
  words = p.words;
  count = p.numbered.count;
  few = few p;
  counted = counted p;
  states = record { distinct = p.numbered.distinct; only = p.numbered.only; all = all };
  singles = p.numbered.singles;
  step = λ q v a b. row_settled F p.words (get_or p.words q []) v (get_or steps (q * 64 + v) 0) (λ w i. (p.numbered.only w i).0) (λ s. all (v ∷ get_or p.words q []) s b) (p.rows q v a b);
  bits = λ q v a. known (get_or p.words q []) v (bit (get_or blockeds q 0) v) (p.numbered.low q a) (p.bits q v a);
  stands = p.stands;
  steps_room = omega (arith, p.room.of_steps, counted p);
  blockeds_room = omega (arith, p.room.of_blockeds, counted p);
  latests-room = omega (arith, p.room.of-latests, counted p);
}
  where
    all : (q : List ℕ) → State F q → latest q < n → Memᴰ q p.words
    all q s h = complete F n 8 p.words p.numbered.singles p.numbered.all q s h (state-short F p.numbered.bounded q s)

    known : (w : List ℕ) (v b : ℕ) → length w ≤ 8 → BitKnown F 8 0 w v b → b ≡ flag (blocked F w v)
    known w v b a (raised e t) = e ∙ flag_true (blocked F w v) t
    known w v b a (clear e f g h) = e ∙ flag-false (blocked F w v) (unblocked F w v 8 a (λ j c d. h j c (p.numbered.bounded.short (get_or F j []) (index_member [] F j c))) f)

-- The single vertices below n, in their order.
unfoldable upto : ℕ → List (List ℕ)
upto zero = []
upto (suc n) = upto n ++ ((n ∷ []) ∷ [])

length-upto : (n : ℕ) → length (upto n) ≡ n
unfolding upto
length-upto zero = refl
length-upto (suc n) = length-append (upto n) ((n ∷ []) ∷ []) ∙ omega (arith, length-upto n)

upto_is : (n v : ℕ) → v < n → get_or (upto n) v [] ≡ v ∷ []
unfolding upto
upto_is zero v h = absurd (omega arith)
upto_is (suc n) v h = cases (ℕ_discrete v n) (upto_is n v)
  where
    cases : Dec (v ≡ n) → (v < n → get_or (upto n) v [] ≡ v ∷ []) → get_or (upto n ++ ((n ∷ []) ∷ [])) v [] ≡ v ∷ []
    cases (yes e) rec = get_or_at (upto n) (n ∷ []) [] [] v (length-upto n ∙ sym e) ∙ ap (λ (x : ℕ). x ∷ []) (sym e)
    cases (no e) rec = get_or-append (upto n) ((n ∷ []) ∷ []) [] v (omega (arith, length-upto n)) ∙ rec (omega arith)

upto-member : (n : ℕ) {q : List ℕ} → Memᴰ q (upto n) → (v : ℕ) × (v < n) × (q ≡ v ∷ [])
upto-member n h =
    let s = member_index [] h in
    let b : s.0 < n = omega (arith, s.1, length-upto n) in
    (s.0, b, sym s.2 ∙ upto_is n s.0 b)

upto-distinct : (n : ℕ) → Distinct (upto n)
unfolding upto
upto-distinct zero = tt
upto-distinct (suc n) = distinct_snoc (upto n) (n ∷ []) (upto-distinct n) (λ h. let s = upto-member n h in omega (arith, s.1, mathlib.Core.List.head-eq_of_cons-eq s.2))

-- Before the first level: each vertex steps to each vertex, nothing is blocked, and each path stands at its first vertex.
pub started : {F : List (List ℕ)} {n : ℕ} {steps blockeds latests fails current : List ℕ} → Bounded n F
    → ((q v : ℕ) → q < n → v < n → get_or steps (q * 64 + v) 0 ≡ v)
    → ((q : ℕ) → q < n → get_or blockeds q 0 ≡ 0)
    → ((q : ℕ) → q < n → get_or latests q 0 ≡ q)
    → ((j : ℕ) → j < length F → get_or current j 0 ≡ get_or (get_or F j []) 0 0)
    → Room (states_of n (length F)) steps blockeds latests fails → length current ≡ most_paths
    → Progress F n 1 0 n n n steps blockeds latests fails current
started {F} {n} {steps} {blockeds} b rows_are blockeds_are latests_are current-is room current-size = record {
  words = upto n;
  numbered = record {
    bounded = b;
    positive = omega arith;
    count = length-upto n;
    distinct = upto-distinct n;
    only = only;
    singles = singles;
    low = λ q a. rw (upto_is n q a) (omega arith);
    high = λ q a c. absurd (omega arith);
    all = all;
  };
  room = room;
  current-size = current-size;
  ordered = (omega arith, omega arith);
  behind = λ j a c d. absurd (omega arith);
  ahead = λ j a c d. subst (λ z. Numbers (upto n) z (front (get_or F j []) 1)) (sym (current-is j c)) (first-vertex j c);
  rows = rows;
  bits = known;
  links = λ q a c. absurd (omega arith);
  stands = λ q a. rw (upto_is n q a) (latests_are q a);
}
  where
    only : (q : List ℕ) → Memᴰ q (upto n) → State F q × (latest q < n)
    only q h = let s = upto-member n h in (vertex s.0 s.2, rw s.2 s.1)

    singles : (v : ℕ) → v < n → Numbers (upto n) v (v ∷ [])
    singles v h = record { below = omega (arith, length-upto n); is = upto_is n v h }

    two : (j : ℕ) → j < length F → 2 ≤ length (get_or F j [])
    two j h = b.long (get_or F j []) (index_member [] F j h)

    first-vertex : (j : ℕ) → j < length F → Numbers (upto n) (get_or (get_or F j []) 0 0) (front (get_or F j []) 1)
    first-vertex j h =
        let r = get_or F j [] in
        subst (λ z. Numbers (upto n) (get_or r 0 0) z) (sym (front-suc r 0 (omega (arith, two j h))))
        (singles (get_or r 0 0) (b.below r (index_member [] F j h) (get_or r 0 0) (index_member 0 r 0 (omega (arith, two j h)))))

    all : (j k : ℕ) → j < length F → 1 ≤ k → k ≤ 1 → k < length (get_or F j []) → Memᴰ (front (get_or F j []) k) (upto n)
    all j k a c d e = let one : k ≡ 1 = omega arith in subst (λ z. Memᴰ (front (get_or F j []) z) (upto n)) (sym one) (number-member (upto n) (first-vertex j a))

    go_nil : (v : ℕ) → go F [] v ≡ v ∷ []
    go_nil v = go-cases F [] v

    rows : (q v : ℕ) → q < n → v < n → Row F (upto n) (get_or (upto n) q []) v (get_or steps (q * 64 + v) 0)
    rows q v a c =
        subst (λ z. Row F (upto n) z v (get_or steps (q * 64 + v) 0)) (sym (upto_is n q a))
        (subst (λ z. Row F (upto n) (q ∷ []) v z) (sym (rows_are q v a c))
        (inr (
          λ i. let s = upto-member n i in omega (arith, ap length s.2),
          subst (λ z. Numbers (upto n) v z) (sym (ap (λ (x : List ℕ). go F x v) (fail_single F q) ∙ go_nil v)) (singles v c),
        )))

    known : (q v : ℕ) → q < n → BitKnown F 1 0 (get_or (upto n) q []) v (bit (get_or blockeds q 0) v)
    known q v a =
        clear (ap (λ (x : ℕ). bit x v) (blockeds_are q a) ∙ bit-zero v)
        (λ t. let none : blocked F (fail F (q ∷ [])) v ≡ false = ap (λ (x : List ℕ). blocked F x v) (fail_single F q) ∙ blocked_nil F b.long v in
        rw none at (rw (upto_is n q a) at t))
        (λ j c d e. absurd (omega arith))
        (λ j c d. absurd (omega (arith, two j c)))
