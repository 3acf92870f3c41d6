-- One path at one level: it has ended, it is forbidden here, its next prefix is numbered already, or gets the next number.
use mathlib.Core.List.Memᴰ
use mathlib.Core.List.{List, [], ◌∷◌, ◌++◌, reverse, reverse-reverse, head-eq_of_cons-eq, tail-eq_of_cons-eq, Memᴰ}
use mathlib.Core.Logic.{◌⊎◌, inl, inr}
use mathlib.Core.Path.{◌≡◌, refl, sym, ap, subst, ◌∙◌}
use Prim.Native.Nat.{ℕ, suc, ◌+◌, ◌*◌, ◌^◌, ◌<◌, ◌≤◌}
use native.Mathlib.Omega.{arith}
use native.Mathlib.Decide.{ℕ_discrete, dec_lt}
use lib.Bits.{bit_or}
use lib.ListN.{length, get_or, set, length-append, length-set}
use lib.Seq.{get_or-set_same, get_or-set_other}
use Rattle.states.specs.States.{State, latest}
use Rattle.states.specs.Automaton.{go, fail}
use Rattle.lists.specs.Distinct.{Distinct}
use Rattle.states.specs.Count.{states_of, most_states}
use Rattle.states.proofs.Count.{state-bound, few-states}
use Rattle.automaton.specs.Built.{Numbers, bit}
use Rattle.automaton.specs.Progress.{Row, Other, BitKnown, raised, clear, Room, Progress}
use Rattle.automaton.specs.Words.{index_member, distinct_snoc, number_unique, number_of, old-word, number_more, number-new}
use Rattle.automaton.proofs.Prefixes.{front, front-suc, front_length, front-all, front-state, fail-go, fail-go-short, blocked-path}
use Rattle.automaton.proofs.Bits.{bit_or_lem, bit-same, bit-other}

-- The first l vertices of path i, latest first; the vertex after them; its cell in the step table.
abbrev pub base : List (List ℕ) → ℕ → ℕ → List ℕ
base F i l = front (get_or F i []) l

abbrev pub next : List (List ℕ) → ℕ → ℕ → ℕ
next F i l = get_or (get_or F i []) l 0

abbrev pub cell-of : List (List ℕ) → ℕ → ℕ → List ℕ → ℕ
cell-of F i l current = get_or current i 0 * 64 + next F i l

-- Tables of the same lengths have as much room.
pub room-kept : {most : ℕ} {steps blockeds latests fails steps' blockeds' latests' fails' : List ℕ} → Room most steps blockeds latests fails
    → length steps' ≡ length steps → length blockeds' ≡ length blockeds → length latests' ≡ length latests → length fails' ≡ length fails → Room most steps' blockeds' latests' fails'
room-kept r a b c d = record { of_steps = omega (arith, r.of_steps); of_blockeds = omega (arith, r.of_blockeds); of-latests = omega (arith, r.of-latests); of-fails = omega (arith, r.of-fails) }

-- One path more is entered, of which only one of l + 1 vertices matters.
bit-next : (F : List (List ℕ)) (l i : ℕ) (w : List ℕ) (v b : ℕ) → (length (get_or F i []) ≡ suc l → Other F i w v) → BitKnown F l i w v b → BitKnown F l (i + 1) w v b
bit-next F l i w v b o (raised e t) = raised e t
bit-next F l i w v b o (clear e f g h) = clear e f (λ j a c d. cases j a c d (ℕ_discrete j i)) h
  where
    this : i < length F → length (get_or F i []) ≤ suc l → Dec (length (get_or F i []) ≡ suc l) → Other F i w v
    this c d (yes s) = o s
    this c d (no s) = h i c (omega arith)

    cases : (j : ℕ) → j < i + 1 → j < length F → length (get_or F j []) ≤ suc l → Dec (j ≡ i) → Other F j w v
    cases j a c d (yes s) = subst (λ x. Other F x w v) (sym s) (this (rw s at c) (rw s at d) (ℕ_discrete (length (get_or F i [])) (suc l)))
    cases j a c d (no s) = g j (omega arith) c d

module _ {F : List (List ℕ)} {n l i first done m : ℕ} {steps blockeds latests fails current : List ℕ} (p : Progress F n l i first done m steps blockeds latests fails current) where
  pub counted : m ≤ states_of n (length F)
  counted = rw (← p.numbered.count) (state-bound n F p.words p.numbered.bounded.short p.numbered.distinct p.numbered.only)

  pub few : m ≤ most_states
  few = omega (arith, counted, few-states n (length F) p.numbered.bounded.few-vertices p.numbered.bounded.few)

module _ {F : List (List ℕ)} {n l i first m : ℕ} {steps blockeds latests fails current : List ℕ} (p : Progress F n l i first first m steps blockeds latests fails current) (here : i < length F) where
  -- A path of at most l + 1 vertices stands at no state of l + 1.
  earlier : length (get_or F i []) ≤ suc l → (j : ℕ) → j < i + 1 → j < length F → suc l < length (get_or F j []) → Dec (j ≡ i) → Numbers p.words (get_or current j 0) (front (get_or F j []) (suc l))
  earlier h j a b c (yes e) = absurd (omega (arith, rw e at c))
  earlier h j a b c (no e) = p.behind j (omega arith) b c

  -- The path has ended.
  pub passed : length (get_or F i []) ≤ l → Progress F n l (i + 1) first first m steps blockeds latests fails current
  passed h = record {
    words = p.words;
    numbered = p.numbered;
    ordered = p.ordered;
    behind = λ j a b c. earlier (omega arith) j a b c (ℕ_discrete j i);
    ahead = λ j a b c. p.ahead j (omega arith) b c;
    rows = p.rows;
    bits = λ q v a. bit-next F l i (get_or p.words q []) v (bit (get_or blockeds q 0) v) (λ e. absurd (omega arith)) (p.bits q v a);
    links = p.links;
    stands = p.stands;
    room = p.room;
    current-size = p.current-size;
  }

  module _ (more : l < length (get_or F i [])) where
    at-q : Numbers p.words (get_or current i 0) (base F i l)
    at-q = p.ahead i (omega arith) here more

    w-length : length (base F i l) ≡ l
    w-length = front_length (get_or F i []) l (omega arith)

    pub q-low : get_or current i 0 < first
    q-low = cases (dec_lt (get_or current i 0) first)
      where
        cases : Dec (get_or current i 0 < first) → get_or current i 0 < first
        cases (yes h) = h
        cases (no h) = absurd (omega (arith, p.numbered.high (get_or current i 0) (omega arith) (omega (arith, at-q.below, p.numbered.count)), ap length at-q.is, w-length))

    pub v_low : next F i l < n
    v_low = p.numbered.bounded.below (get_or F i []) (index_member [] F i here) (next F i l) (index_member 0 (get_or F i []) l more)

    row : Row F p.words (base F i l) (next F i l) (get_or steps (cell-of F i l current) 0)
    row = subst (λ x. Row F p.words x (next F i l) (get_or steps (cell-of F i l current) 0)) at-q.is (p.rows (get_or current i 0) (next F i l) q-low v_low)

    -- The path is forbidden here.
    pub forbids : length (get_or F i []) ≡ suc l
        → Progress F n l (i + 1) first first m steps (set blockeds (get_or current i 0) (bit_or (get_or blockeds (get_or current i 0) 0) (2 ^ next F i l))) latests fails current
    forbids h = record {
      words = p.words;
      numbered = p.numbered;
      ordered = p.ordered;
      behind = λ j a b c. earlier (omega arith) j a b c (ℕ_discrete j i);
      ahead = λ j a b c. p.ahead j (omega arith) b c;
      rows = p.rows;
      bits = λ u x a. at-state u x a (ℕ_discrete u q);
      links = p.links;
      stands = p.stands;
      room = room-kept p.room refl (length-set blockeds q y) refl refl;
      current-size = p.current-size;
    }
      where
        q : ℕ
        q = get_or current i 0

        v : ℕ
        v = next F i l

        y : ℕ
        y = bit_or (get_or blockeds q 0) (2 ^ v)

        is : get_or F i [] ≡ reverse (v ∷ base F i l)
        is = front-all (get_or F i []) l h

        same : (w' : List ℕ) (x : ℕ) → get_or F i [] ≡ reverse (x ∷ w') → x ∷ w' ≡ v ∷ base F i l
        same w' x e = sym (reverse-reverse (x ∷ w')) ∙ ap reverse (sym e ∙ is) ∙ reverse-reverse (v ∷ base F i l)

        at-vertex : (x : ℕ) → Dec (x ≡ v) → BitKnown F l (i + 1) (get_or p.words q []) x (bit y x)
        at-vertex x (yes e) =
            subst (λ z. BitKnown F l (i + 1) (get_or p.words q []) z (bit y z)) (sym e)
            (subst (λ z. BitKnown F l (i + 1) z v (bit y v)) (sym at-q.is)
            (raised (omega (arith, bit_or_lem (get_or blockeds q 0) (2 ^ v) v, bit-same v)) (blocked-path F (base F i l) v i here is)))
        at-vertex x (no e) =
            subst (λ z. BitKnown F l (i + 1) (get_or p.words q []) x z) (let z : bit (get_or blockeds q 0) x ≡ bit y x = omega (arith, bit_or_lem (get_or blockeds q 0) (2 ^ v) x, bit-other v x e) in z)
            (bit-next F l i (get_or p.words q []) x (bit (get_or blockeds q 0) x) (λ s o. e (head-eq_of_cons-eq (same (get_or p.words q []) x o))) (p.bits q x q-low))

        at-state : (u x : ℕ) → u < first → Dec (u ≡ q) → BitKnown F l (i + 1) (get_or p.words u []) x (bit (get_or (set blockeds q y) u 0) x)
        at-state u x a (yes e) =
            subst (λ z. BitKnown F l (i + 1) (get_or p.words z []) x (bit (get_or (set blockeds q y) z 0) x)) (sym e)
            (subst (λ z. BitKnown F l (i + 1) (get_or p.words q []) x (bit z x)) (sym (get_or-set_same blockeds q y 0 (omega (arith, q-low, p.ordered, p.room.of_blockeds, counted p))))
            (at-vertex x (ℕ_discrete x v)))
        at-state u x a (no e) =
            subst (λ z. BitKnown F l (i + 1) (get_or p.words u []) x (bit z x)) (sym (get_or-set_other blockeds q u y 0 e))
            (bit-next F l i (get_or p.words u []) x (bit (get_or blockeds u 0) x)
            (λ s o. e (number_unique p.words p.numbered.distinct (number_of p.words u (omega (arith, p.ordered, p.numbered.count))) (rw (sym (tail-eq_of_cons-eq (same (get_or p.words u []) x o))) at at-q)))
            (p.bits u x a))

    module _ (longer : suc l < length (get_or F i [])) where
      -- The next prefix is numbered already.
      pub found : first ≤ get_or steps (cell-of F i l current) 0
          → Progress F n l (i + 1) first first m steps blockeds latests fails (set current i (get_or steps (cell-of F i l current) 0))
      found h = record {
        words = p.words;
        numbered = p.numbered;
        ordered = p.ordered;
        behind = λ j a b c. later j a b c (ℕ_discrete j i);
        ahead = λ j a b c. subst (λ z. Numbers p.words z (front (get_or F j []) l)) (sym (get_or-set_other current i j k' 0 (omega arith))) (p.ahead j (omega arith) b c);
        rows = p.rows;
        bits = λ q v a. bit-next F l i (get_or p.words q []) v (bit (get_or blockeds q 0) v) (λ e. absurd (omega arith)) (p.bits q v a);
        links = p.links;
        stands = p.stands;
        room = p.room;
        current-size = length-set current i k' ∙ p.current-size;
      }
        where
          k' : ℕ
          k' = get_or steps (cell-of F i l current) 0

          child : Row F p.words (base F i l) (next F i l) k' → Numbers p.words k' (next F i l ∷ base F i l)
          child (inl a) = a
          child (inr a) = absurd (omega (arith, p.numbered.high k' h (omega (arith, a.1.below, p.numbered.count)), ap length a.1.is, fail-go-short F (next F i l) (base F i l) (omega (arith, w-length, p.numbered.positive)), w-length))

          later : (j : ℕ) → j < i + 1 → j < length F → suc l < length (get_or F j []) → Dec (j ≡ i) → Numbers p.words (get_or (set current i k') j 0) (front (get_or F j []) (suc l))
          later j a b c (yes e) =
              subst (λ z. Numbers p.words (get_or (set current i k') z 0) (front (get_or F z []) (suc l))) (sym e)
              (rw (get_or-set_same current i k' 0 (omega (arith, p.current-size, p.numbered.bounded.few)), front-suc (get_or F i []) l more) (child row))
          later j a b c (no e) = subst (λ z. Numbers p.words z (front (get_or F j []) (suc l))) (sym (get_or-set_other current i j k' 0 e)) (p.behind j (omega arith) b c)

      -- The next prefix gets the next number.
      module _ (fresh : get_or steps (cell-of F i l current) 0 < first) where
        linked : (Memᴰ (next F i l ∷ base F i l) p.words → ⊥) × Numbers p.words (get_or steps (cell-of F i l current) 0) (go F (fail F (base F i l)) (next F i l))
        linked = cases row
          where
            cases : Row F p.words (base F i l) (next F i l) (get_or steps (cell-of F i l current) 0) → (Memᴰ (next F i l ∷ base F i l) p.words → ⊥) × Numbers p.words (get_or steps (cell-of F i l current) 0) (go F (fail F (base F i l)) (next F i l))
            cases (inl a) = absurd (omega (arith, p.numbered.low (get_or steps (cell-of F i l current) 0) fresh, ap length a.is, w-length))
            cases (inr a) = a

        grown-distinct : Distinct (p.words ++ ((next F i l ∷ base F i l) ∷ []))
        grown-distinct = distinct_snoc p.words (next F i l ∷ base F i l) p.numbered.distinct linked.0

        grown-only : (q : List ℕ) → Memᴰ q (p.words ++ ((next F i l ∷ base F i l) ∷ [])) → State F q × (latest q < n)
        grown-only q m = cases (Memᴰ.append_cases p.words m)
          where
            fine : State F (next F i l ∷ base F i l) × (latest (next F i l ∷ base F i l) < n)
            fine = (rw (front-suc (get_or F i []) l more) at (front-state F (index_member [] F i here) (suc l) (omega arith) longer), v_low)

            cases : Memᴰ q p.words ⊎ Memᴰ q ((next F i l ∷ base F i l) ∷ []) → State F q × (latest q < n)
            cases (inl a) = p.numbered.only q a
            cases (inr a) = rw (Memᴰ.eq_of_singleton a) fine

        pub grown-counted : m + 1 ≤ states_of n (length F)
        grown-counted =
            let longer-words = p.words ++ ((next F i l ∷ base F i l) ∷ []) in
            omega (arith, state-bound n F longer-words p.numbered.bounded.short grown-distinct grown-only, length-append p.words ((next F i l ∷ base F i l) ∷ []), p.numbered.count)

        pub grown : Progress F n l (i + 1) first first (m + 1) (set steps (cell-of F i l current) m) blockeds (set latests m (next F i l)) (set fails m (get_or steps (cell-of F i l current) 0)) (set current i m)
        grown = record {
          words = words;
          numbered = record {
            bounded = p.numbered.bounded;
            positive = p.numbered.positive;
            count = length-append p.words (s ∷ []) ∙ ap (λ (x : ℕ). x + 1) p.numbered.count;
            distinct = grown-distinct;
            only = grown-only;
            singles = λ u a. number_more p.words s (p.numbered.singles u a);
            low = λ u a. rw (old-word p.words s u (omega (arith, p.ordered, p.numbered.count))) (p.numbered.low u a);
            high = λ u a b. high u a b (ℕ_discrete u m);
            all = λ j h a b c d. Memᴰ.append_left (s ∷ []) (p.numbered.all j h a b c d);
          };
          ordered = (omega arith, omega (arith, p.ordered));
          behind = λ j a b c. later j a b c (ℕ_discrete j i);
          ahead = λ j a b c. subst (λ z. Numbers words z (front (get_or F j []) l)) (sym (get_or-set_other current i j m 0 (omega arith))) (number_more p.words s (p.ahead j (omega arith) b c));
          rows = λ u x a b. subst (λ z. Row F words z x (get_or (set steps cell m) (u * 64 + x) 0)) (sym (old-word p.words s u (omega (arith, p.ordered, p.numbered.count)))) (rows u x a b (ℕ_discrete (u * 64 + x) cell));
          bits = λ u x a. subst (λ z. BitKnown F l (i + 1) z x (bit (get_or blockeds u 0) x)) (sym (old-word p.words s u (omega (arith, p.ordered, p.numbered.count)))) (bit-next F l i (get_or p.words u []) x (bit (get_or blockeds u 0) x) (λ e. absurd (omega arith)) (p.bits u x a));
          links = λ u a b. links u a b (ℕ_discrete u m);
          stands = λ u a. stands u a (ℕ_discrete u m);
          room = room-kept p.room (length-set steps cell m) refl (length-set latests m v) (length-set fails m old);
          current-size = length-set current i m ∙ p.current-size;
        }
          where
            q : ℕ
            q = get_or current i 0

            v : ℕ
            v = next F i l

            cell : ℕ
            cell = cell-of F i l current

            old : ℕ
            old = get_or steps cell 0

            s : List ℕ
            s = next F i l ∷ base F i l

            words : List (List ℕ)
            words = p.words ++ (s ∷ [])

            newest : Numbers words m s
            newest = number-new p.words s m p.numbered.count

            high : (u : ℕ) → first ≤ u → u < m + 1 → Dec (u ≡ m) → length (get_or words u []) ≡ suc l
            high u a b (yes e) = rw (e, newest.is) (ap suc w-length)
            high u a b (no e) = rw (old-word p.words s u (omega (arith, p.numbered.count))) (p.numbered.high u a (omega arith))

            later : (j : ℕ) → j < i + 1 → j < length F → suc l < length (get_or F j []) → Dec (j ≡ i) → Numbers words (get_or (set current i m) j 0) (front (get_or F j []) (suc l))
            later j a b c (yes e) =
                subst (λ z. Numbers words (get_or (set current i m) z 0) (front (get_or F z []) (suc l))) (sym e)
                (rw (get_or-set_same current i m 0 (omega (arith, p.current-size, p.numbered.bounded.few)), front-suc (get_or F i []) l more) newest)
            later j a b c (no e) = subst (λ z. Numbers words z (front (get_or F j []) (suc l))) (sym (get_or-set_other current i j m 0 e)) (number_more p.words s (p.behind j (omega arith) b c))

            row_more : (u x k' : ℕ) → u < first → x < n → (u * 64 + x ≡ cell → ⊥) → Row F p.words (get_or p.words u []) x k' → Row F words (get_or p.words u []) x k'
            row_more u x k' a b d (inl h) = inl (number_more p.words s h)
            row_more u x k' a b d (inr h) = inr (λ i'. cases (Memᴰ.append_cases p.words i'), number_more p.words s h.1)
              where
                cases : Memᴰ (x ∷ get_or p.words u []) p.words ⊎ Memᴰ (x ∷ get_or p.words u []) (s ∷ []) → ⊥
                cases (inl t) = h.0 t
                cases (inr t) =
                    let e = Memᴰ.eq_of_singleton t in
                    let same-vertex : x ≡ v = head-eq_of_cons-eq e in
                    let same-state : u ≡ q = number_unique p.words p.numbered.distinct (number_of p.words u (omega (arith, p.ordered, p.numbered.count))) (rw (sym (tail-eq_of_cons-eq e)) at at-q) in
                    d (cc (same-vertex, same-state))

            rows : (u x : ℕ) → u < first → x < n → Dec (u * 64 + x ≡ cell) → Row F words (get_or p.words u []) x (get_or (set steps cell m) (u * 64 + x) 0)
            rows u x a b (yes e) =
                let same-state : u ≡ q = omega (arith, e, v_low, p.numbered.bounded.few-vertices) in
                let same-vertex : x ≡ v = omega (arith, e, v_low, p.numbered.bounded.few-vertices) in
                inl (rw (e, get_or-set_same steps cell m 0 (omega (arith, q-low, v_low, p.numbered.bounded.few-vertices, p.ordered, p.room.of_steps, grown-counted)), same-state, same-vertex, at-q.is) newest)
            rows u x a b (no e) = subst (λ z. Row F words (get_or p.words u []) x z) (sym (get_or-set_other steps cell (u * 64 + x) m 0 e)) (row_more u x (get_or steps (u * 64 + x) 0) a b e (p.rows u x a b))

            links : (u : ℕ) → first ≤ u → u < m + 1 → Dec (u ≡ m) → Numbers words (get_or (set fails m old) u 0) (fail F (get_or words u []))
            links u a b (yes e) =
                rw (e, get_or-set_same fails m old 0 (omega (arith, p.room.of-fails, grown-counted)), newest.is, fail-go F v (base F i l) (omega (arith, w-length, p.numbered.positive)))
                (number_more p.words s linked.1)
            links u a b (no e) =
                rw (get_or-set_other fails m u old 0 e, old-word p.words s u (omega (arith, p.numbered.count))) (number_more p.words s (p.links u a (omega arith)))

            stands : (u : ℕ) → u < m + 1 → Dec (u ≡ m) → get_or (set latests m v) u 0 ≡ latest (get_or words u [])
            stands u a (yes e) = rw (e, get_or-set_same latests m v 0 (omega (arith, p.room.of-latests, grown-counted)), newest.is)
            stands u a (no e) = rw (get_or-set_other latests m u v 0 e, old-word p.words s u (omega (arith, p.numbered.count))) (p.stands u (omega arith))
