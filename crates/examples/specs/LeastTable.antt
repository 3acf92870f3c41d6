-- A test that shows a given table to be least: it is settled, and every entry is accounted for.
use Rattle.std.specs.Prelude.{ℕ, zero, suc, ◌+◌, ◌<◌, ◌≤◌, ◌≡◌, refl, Bool, true, false, ◌&&◌, ◌||◌, List, [], ◌∷◌, ◌⊎◌, length, T, leb, ltb, eqb}
use Rattle.std.proofs.Common.{sym, ◌∙◌, inl, inr, ⊎_elim, arith, leb→le, ltb→lt, eqb→eq}
use mathlib.Core.List.Memᴰ
use Rattle.std.proofs.Math.Logic.{by_cases}
use Rattle.std.proofs.Math.Decide.{dec_lt, ℕ_discrete}
use Rattle.std.proofs.Math.ListN.{get_or-eq_default}
use Rattle.distances.specs.Edge.{Edge, ◌∈◌}
use Rattle.distances.specs.Table.{at, Attained, Least, settled}
use Rattle.lists.specs.Test.{T_and}
use Rattle.std.proofs.Math.Facts.{or_yes}
use Rattle.distances.proofs.Settled.{settled-attained}

-- an edge from q, not free, that gives q its entry
abbrev pub gives : List ℕ → ℕ → Edge → Bool
gives t q e = eqb e.tail q && (ltb 0 e.cost && eqb (at t q) (at t e.head + e.cost))

abbrev pub given : List Edge → List ℕ → ℕ → Bool
given [] t q = false
given (e ∷ es) t q = gives t q e || given es t q

-- each entry below n is at most its base entry, and is that one or given by an edge
abbrev pub accounted : List Edge → List ℕ → List ℕ → ℕ → Bool
accounted es base t zero = true
accounted es base t (suc n) = (leb (at t n) (at base n) && (leb (at base n) (at t n) || given es t n)) && accounted es base t n

abbrev pub certified : List Edge → List ℕ → List ℕ → Bool
certified es base t = settled es t && (eqb (length t) (length base) && accounted es base t (length t))

abbrev Given : List Edge → List ℕ → ℕ → Type 0
Given es t q = (e : Edge) × (e ∈ es) × (e.tail ≡ q) × (0 < e.cost) × (at t q ≡ at t e.head + e.cost)

given-edge : (es : List Edge) (t : List ℕ) (q : ℕ) → T (given es t q) → Given es t q
given-edge [] t q h = absurd h
given-edge (e ∷ es) t q h =
    ⊎_elim
    (λ here.
    let (tail, rest) = T_and (eqb e.tail q) (ltb 0 e.cost && eqb (at t q) (at t e.head + e.cost)) here in
    let (paid, entry) = T_and (ltb 0 e.cost) (eqb (at t q) (at t e.head + e.cost)) rest in
    (e, Memᴰ.head refl, eqb→eq _ _ tail, ltb→lt _ _ paid, eqb→eq _ _ entry))
    (λ later. let (x, m, tail, paid, entry) = given-edge es t q later in (x, Memᴰ.tail m, tail, paid, entry))
    (or_yes (gives t q e) (given es t q) h)

abbrev Accounted : List Edge → List ℕ → List ℕ → ℕ → Type 0
Accounted es base t q = (at t q ≤ at base q) × ((at base q ≤ at t q) ⊎ Given es t q)

accounted-at : (es : List Edge) (base t : List ℕ) (n : ℕ) → T (accounted es base t n) → (q : ℕ) → q < n → Accounted es base t q
accounted-at es base t zero h q l = absurd (omega arith)
accounted-at es base t (suc n) h q l =
    let (now, rest) = T_and (leb (at t n) (at base n) && (leb (at base n) (at t n) || given es t n)) (accounted es base t n) h in
    let (low, why) = T_and (leb (at t n) (at base n)) (leb (at base n) (at t n) || given es t n) now in
    by_cases (ℕ_discrete q n)
    (λ i. rw i (leb→le _ _ low, ⊎_elim (λ b. inl (leb→le _ _ b)) (λ g. inr (given-edge es t n g)) (or_yes (leb (at base n) (at t n)) (given es t n) why)))
    (λ d. accounted-at es base t n rest q (omega arith))

-- following the given edges lowers the entry, and ends at a base entry
attained : (es : List Edge) (base t : List ℕ) → ((q : ℕ) → Accounted es base t q) → (d q : ℕ) → at t q < d → Attained es base q (at t q)
attained es base t a zero q h = absurd (omega arith)
attained es base t a (suc d) q h =
    ⊎_elim (λ b. ([], q, refl, omega (arith, (a q).0)))
    (λ g.
    let (e, m, tail, paid, entry) = g in
    let (p, r, path, c) = attained es base t a d e.head (omega arith) in
    (e ∷ p, r, (m, tail, path), omega arith))
    (a q).1

pub certificate : (es : List Edge) (base t : List ℕ) → T (certified es base t) → (q : ℕ) → Least es base q (at t q)
certificate es base t h q =
    let (low, rest) = T_and (settled es t) (eqb (length t) (length base) && accounted es base t (length t)) h in
    let (same, why) = T_and (eqb (length t) (length base)) (accounted es base t (length t)) rest in
    let all : (q : ℕ) → Accounted es base t q =
    λ q. by_cases (dec_lt q (length t)) (accounted-at es base t (length t) why q)
    (λ out.
    let none : at t q ≡ at base q = get_or-eq_default t 0 (omega arith) ∙ sym (get_or-eq_default base 0 (omega (arith, eqb→eq (length t) (length base) same))) in
    (omega arith, inl (omega arith))) in
    settled-attained es base t low (λ r. (all r).0) q (attained es base t all (suc (at t q)) q (omega arith))
