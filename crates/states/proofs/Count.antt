-- The laws of what specs/Count.antt defines.
use mathlib.Core.List.Memᴰ
use mathlib.Core.List.{List, [], ◌∷◌, ◌++◌, reverse, reverse_aux, reverse_aux-eq, reverse-reverse, List-discrete, Memᴰ}
use Rattle.std.specs.Prelude.{◌⊎◌, ◌≡◌, refl, ℕ, zero, suc, ◌+◌, ◌-◌, ◌*◌, ◌<◌, ◌≤◌, length, get_or, take, drop}
use Rattle.std.proofs.Common.{inl, inr, sym, ap, ◌∙◌, arith, suc-mul, length-append, take_at, length-take-le}
use Rattle.std.proofs.Math.Logic.{by_cases}
use Rattle.std.proofs.Math.Decide.{ℕ_discrete}
use Rattle.std.proofs.lemmas.List.{length-reverse}
use Rattle.std.proofs.Math.Seq.{split_at}
use Rattle.walks.specs.Avoid.{◌⊆◌}
use Rattle.states.specs.States.{State, vertex, prefix, latest}
use Rattle.lists.specs.Distinct.{Distinct, distinct-length, dedup}
use Rattle.limits.specs.Limits.{most_vertices, most_paths, longest, longest_path}
use Rattle.states.specs.Count.{vertices, fronts, prefixes, Below, States, states_of, most_states}

length-vertices : (n : ℕ) → length (vertices n) ≡ n
length-vertices zero = refl
length-vertices (suc n) = ap suc (length-vertices n)

length-fronts : (r : List ℕ) (k : ℕ) → length (fronts r k) ≡ k
length-fronts r zero = refl
length-fronts r (suc k) = ap suc (length-fronts r k)

length-prefixes : (m : ℕ) (F : List (List ℕ)) → ((r : List ℕ) → Memᴰ r F → length r ≤ 2 + m) → length (prefixes F) ≤ length F * m
length-prefixes m [] h = omega arith
length-prefixes m (r ∷ F) h =
    omega (arith, length-append (fronts r (length r - 2)) (prefixes F), length-fronts r (length r - 2), suc-mul (length F) m, h r (Memᴰ.head refl), length-prefixes m F (λ x i. h x (Memᴰ.tail i)))

∈vertices : (n v : ℕ) → v < n → Memᴰ (v ∷ []) (vertices n)
∈vertices zero v h = absurd (omega arith)
∈vertices (suc n) v h = by_cases (ℕ_discrete v n) (λ e. Memᴰ.head (ap (λ (x : ℕ). x ∷ []) e)) (λ (d : ¬ (v ≡ n)). Memᴰ.tail (∈vertices n v (omega arith)))

∈fronts : (r : List ℕ) (k j : ℕ) → 2 ≤ j → j ≤ suc k → Memᴰ (reverse (take j r)) (fronts r k)
∈fronts r zero j a b = absurd (omega arith)
∈fronts r (suc k) j a b =
    by_cases (ℕ_discrete j (suc (suc k))) (λ e. Memᴰ.head (ap (λ (x : ℕ). reverse (take x r)) e)) (λ (d : ¬ (j ≡ suc (suc k))). Memᴰ.tail (∈fronts r k j a (omega arith)))

∈prefixes : {r : List ℕ} (F : List (List ℕ)) {q : List ℕ} → Memᴰ r F → Memᴰ q (fronts r (length r - 2)) → Memᴰ q (prefixes F)
∈prefixes {r = r} [] {q = q} m i = elim m [ ]
∈prefixes (r ∷ F) (Memᴰ.head e) i = Memᴰ.append_left (prefixes F) (rw e at i)
∈prefixes (r ∷ F) (Memᴰ.tail m) i = Memᴰ.append_right (fronts r (length r - 2)) (∈prefixes F m i)

-- Each state at a vertex below n is a single vertex or a prefix so listed.
pub state-listed : (F : List (List ℕ)) (n : ℕ) (q : List ℕ) → State F q → latest q < n → Memᴰ q (vertices n ++ prefixes F)
state-listed F n [] (vertex v e) h = absurd (omega (arith, ap length e))
state-listed F n [] (prefix m v b e l) h = absurd (omega arith)
state-listed F n (u ∷ []) s h = Memᴰ.append_left (prefixes F) (∈vertices n u h)
state-listed F n (u ∷ u' ∷ q) (vertex v e) h = absurd (omega (arith, ap length e))
state-listed F n (u ∷ u' ∷ q) (prefix {r = r} m v b e l) h = Memᴰ.append_right (vertices n) (∈prefixes F m (Memᴰ.cast whole (∈fronts r (length r - 2) (length p) (omega arith) (omega (arith, size)))))
  where
    p : List ℕ
    p = u ∷ u' ∷ q

    split : r ≡ reverse p ++ (v ∷ b)
    split = e ∙ reverse_aux-eq p (v ∷ b)

    size : length r ≡ length p + suc (length b)
    size = simp (length-append, length-reverse) at (ap length split)

    whole : p ≡ reverse (take (length p) r)
    whole = sym (ap reverse (ap (take (length p)) split ∙ take_at (reverse p) (v ∷ b) (length p) (length-reverse p)) ∙ reverse-reverse p)

vertices→state : (F : List (List ℕ)) (n : ℕ) {q : List ℕ} → Memᴰ q (vertices n) → State F q × (latest q < n)
vertices→state F zero i = absurd (Memᴰ.not-nil i)
vertices→state F (suc n) (Memᴰ.head e) = (vertex n e, rw e (omega arith))
vertices→state F (suc n) (Memᴰ.tail i) =
    let s = vertices→state F n i in
    (s.0, omega (arith, s.1))

prefix-latest : {r : List ℕ} (q : List ℕ) (c : List ℕ) → r ≡ reverse_aux q c → 0 < length q → Memᴰ (latest q) r
prefix-latest [] c e l = absurd (omega arith)
prefix-latest (u ∷ q) c e l = rw (e, reverse_aux-eq q (u ∷ c)) (Memᴰ.append_right (reverse q) (Memᴰ.head refl))

fronts→state : {F : List (List ℕ)} {n : ℕ} → Below n F → {r : List ℕ} → Memᴰ r F → (k : ℕ) {q : List ℕ} → k ≤ length r - 2 → Memᴰ q (fronts r k) → State F q × (latest q < n)
fronts→state w m zero h i = absurd (Memᴰ.not-nil i)
fronts→state w m (suc k) h (Memᴰ.tail i) = fronts→state w m k (omega arith) i
fronts→state {n = n} w {r} m (suc k) {q} h (Memᴰ.head e) = (prefix m (get_or r j 0) (drop (suc j) r) split nonempty, w r m (latest q) (prefix-latest q c split nonempty))
  where
    j : ℕ
    j = suc (suc k)

    nonempty : 0 < length q
    nonempty = rw (e, length-reverse (take j r), length-take-le j r (omega arith)) (omega arith)

    c : List ℕ
    c = get_or r j 0 ∷ drop (suc j) r

    split : r ≡ reverse_aux q c
    split = split_at r j 0 (omega arith) ∙ sym (ap (λ (x : List ℕ). reverse_aux x c) e ∙ reverse_aux-eq (reverse (take j r)) c ∙ ap (λ (x : List ℕ). x ++ c) (reverse-reverse (take j r)))

prefixes→state : {F : List (List ℕ)} {n : ℕ} → Below n F → (G : List (List ℕ)) → G ⊆ F → {q : List ℕ} → Memᴰ q (prefixes G) → State F q × (latest q < n)
prefixes→state w [] s i = absurd (Memᴰ.not-nil i)
prefixes→state {F} {n} w (r ∷ G) s {q} i = cases (prefixes→state w G (λ x m. s x (Memᴰ.tail m))) (Memᴰ.append_cases (fronts r (length r - 2)) i)
  where
    cases : (Memᴰ q (prefixes G) → State F q × (latest q < n)) → Memᴰ q (fronts r (length r - 2)) ⊎ Memᴰ q (prefixes G) → State F q × (latest q < n)
    cases rec (inl j) = fronts→state w (s r (Memᴰ.head refl)) (length r - 2) (omega arith) j
    cases rec (inr j) = rec j

pub states : (n : ℕ) (F : List (List ℕ)) → Below n F → (l : List (List ℕ)) × States n F l
states n F w =
    let d = dedup (List-discrete ℕ_discrete) (vertices n ++ prefixes F) in
    (d.0, record { distinct = d.1.distinct; only = λ q i. listed (Memᴰ.append_cases (vertices n) (d.1.from q i)); all = λ q s h. d.1.into q (state-listed F n q s h) })
  where
    listed : {q : List ℕ} → Memᴰ q (vertices n) ⊎ Memᴰ q (prefixes F) → State F q × (latest q < n)
    listed (inl i) = vertices→state F n i
    listed (inr i) = prefixes→state w F (λ r m. m) i

-- Distinct states are no more than n, and m for each path of at most 2 + m vertices.
pub state-count : (n m : ℕ) (F l : List (List ℕ)) → Distinct l → ((q : List ℕ) → Memᴰ q l → State F q × (latest q < n)) → ((r : List ℕ) → Memᴰ r F → length r ≤ 2 + m) → length l ≤ n + length F * m
state-count n m F l d only h =
    omega (arith, distinct-length l (vertices n ++ prefixes F) d (λ q i. state-listed F n q (only q i).0 (only q i).1), length-append (vertices n) (prefixes F), length-vertices n, length-prefixes m F h)

pub state-bound : (n : ℕ) (F l : List (List ℕ)) → ((r : List ℕ) → Memᴰ r F → length r ≤ longest_path) → Distinct l → ((q : List ℕ) → Memᴰ q l → State F q × (latest q < n)) → length l ≤ states_of n (length F)
state-bound n F l h d only = state-count n 6 F l d only h

pub few-states : (n k : ℕ) → n ≤ most_vertices → k ≤ most_paths → states_of n k ≤ most_states
few-states n k a b = omega arith

-- A walk that comes to no state twice is not too long.
pub states-longest : (m : ℕ) → m ≤ most_states → m ≤ longest
states-longest m h = omega arith
