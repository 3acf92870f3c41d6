-- The laws of what specs/Pass.antt defines.
use Rattle.std.specs.Prelude.{ℕ, zero, suc, ◌+◌, ◌≤◌, min, ◌≡◌, refl, List, [], ◌∷◌, ◌≢◌, ◌⊎◌, length, set}
use Rattle.std.proofs.Common.{◌∙◌, inl, inr, ⊎_elim, arith, length-set, get_or-set_other}
use mathlib.Core.List.Memᴰ
use Rattle.std.proofs.Math.Logic.{by_cases}
use Rattle.std.proofs.Math.Decide.{ℕ_discrete, dec_lt}
use Rattle.distances.specs.Edge.{Edge, ◌∈◌, Path, cost}
use Rattle.distances.specs.Table.{at, LeastWithin, relax, relaxes, pass, passes}
use Rattle.distances.specs.Pass.{FromEdge}

-- a store that does not raise an entry is what is read there, in the table or outside
pub at_set : (t : List ℕ) (q v : ℕ) → v ≤ at t q → at (set t q v) q ≡ v
at_set [] q v h = omega arith
at_set (x ∷ t) zero v h = refl
at_set (x ∷ t) (suc q) v h = at_set t q v h

pub relax-tail : (old : List ℕ) (e : Edge) (new : List ℕ) → at (relax old e new) e.tail ≡ min (at new e.tail) (at old e.head + e.cost)
relax-tail old e new = at_set new e.tail _ (omega arith)

relax-other : (old : List ℕ) (e : Edge) (new : List ℕ) (q : ℕ) → q ≢ e.tail → at (relax old e new) q ≡ at new q
relax-other old e new q h = get_or-set_other new e.tail q _ 0 h

pub relax_le : (old : List ℕ) (e : Edge) (new : List ℕ) (q : ℕ) → at (relax old e new) q ≤ at new q
relax_le old e new q = by_cases (ℕ_discrete q e.tail) same (λ h. omega (arith, relax-other old e new q h))
  where
    same : q ≡ e.tail → at (relax old e new) q ≤ at new q
    same h = rw h (omega (arith, relax-tail old e new))

-- relaxing never raises an entry
pub relaxes_le : (old : List ℕ) (es : List Edge) (new : List ℕ) (q : ℕ) → at (relaxes old es new) q ≤ at new q
relaxes_le old [] new q = omega arith
relaxes_le old (e ∷ es) new q = omega (arith, relaxes_le old es (relax old e new) q, relax_le old e new q)

-- after every edge was relaxed, none is left to lower an entry
pub relaxes-edge : (old : List ℕ) {e : Edge} {es : List Edge} (new : List ℕ) → e ∈ es → at (relaxes old es new) e.tail ≤ at old e.head + e.cost
relaxes-edge old {e} new (Memᴰ.head {x} {xs} h) =
    rw h (omega (arith, relaxes_le old xs (relax old x new) x.tail, relax-tail old x new))
relaxes-edge old new (Memᴰ.tail {x} m) = relaxes-edge old (relax old x new) m

pub relax-from : (old : List ℕ) (e : Edge) (new : List ℕ) (q : ℕ) →
    (at (relax old e new) q ≡ at new q) ⊎ ((e.tail ≡ q) × (at (relax old e new) q ≡ at old e.head + e.cost))
relax-from old e new q = by_cases (ℕ_discrete q e.tail) same (λ h. inl (relax-other old e new q h))
  where
    same : q ≡ e.tail → (at (relax old e new) q ≡ at new q) ⊎ ((e.tail ≡ q) × (at (relax old e new) q ≡ at old e.head + e.cost))
    same h = rw h (by_cases (dec_lt (at old e.head + e.cost) (at new e.tail))
        (λ l. inr (refl, omega (arith, relax-tail old e new)))
        (λ l. inl (omega (arith, relax-tail old e new))))

-- an entry is the one that was there or that of an edge
pub relaxes-from : (old : List ℕ) (es : List Edge) (new : List ℕ) (q : ℕ) → (at (relaxes old es new) q ≡ at new q) ⊎ FromEdge old es q (at (relaxes old es new) q)
relaxes-from old [] new q = inl refl
relaxes-from old (e ∷ es) new q =
    ⊎_elim (λ h. ⊎_elim (λ h'. inl (h ∙ h')) (λ h'. inr (e, Memᴰ.head refl, h'.0, h ∙ h'.1)) (relax-from old e new q))
    (λ f. inr (f.0, Memᴰ.tail f.1, f.2, f.3))
    (relaxes-from old es (relax old e new) q)

pub length-relaxes : (old : List ℕ) (es : List Edge) (new : List ℕ) → length (relaxes old es new) ≡ length new
length-relaxes old [] new = refl
length-relaxes old (e ∷ es) new = length-relaxes old es (relax old e new) ∙ length-set new e.tail _

pub length-pass : (es : List Edge) (t : List ℕ) → length (pass es t) ≡ length t
unfolding pass
length-pass es t = length-relaxes t es t

pub length-passes : (es : List Edge) (k : ℕ) (t : List ℕ) → length (passes es k t) ≡ length t
unfolding passes
length-passes es zero t = refl
length-passes es (suc k) t = length-pass es (passes es k t) ∙ length-passes es k t

pub pass_le : (es : List Edge) (t : List ℕ) (q : ℕ) → at (pass es t) q ≤ at t q
unfolding pass
pass_le es t q = relaxes_le t es t q

pub passes_le : (es : List Edge) (k : ℕ) (t : List ℕ) (q : ℕ) → at (passes es k t) q ≤ at t q
unfolding passes
passes_le es zero t q = omega arith
passes_le es (suc k) t q = omega (arith, pass_le es (passes es k t) q, passes_le es k t q)

pub pass-edge : {es : List Edge} (t : List ℕ) {e : Edge} → e ∈ es → at (pass es t) e.tail ≤ at t e.head + e.cost
unfolding pass
pass-edge t m = relaxes-edge t t m

pub pass-from : (es : List Edge) (t : List ℕ) (q : ℕ) → (at (pass es t) q ≡ at t q) ⊎ FromEdge t es q (at (pass es t) q)
unfolding pass
pass-from es t q = relaxes-from t es t q

-- one pass turns the least within k edges into the least within one more
pub pass-least : (es : List Edge) (base t : List ℕ) (k : ℕ) → ((q : ℕ) → LeastWithin k es base q (at t q)) → (q : ℕ) → LeastWithin (suc k) es base q (at (pass es t) q)
pass-least es base t k l q = record { attained = attained; least = least }
  where
    attained : (p : List Edge) × (r : ℕ) × Path es q r p × (length p ≤ suc k) × (at (pass es t) q ≡ cost p + at base r)
    attained =
        ⊎_elim (λ h. let (p, r, path, few, e) = (l q).attained in (p, r, path, omega arith, h ∙ e))
        (λ f. let (p, r, path, few, e) = (l f.0.head).attained in (f.0 ∷ p, r, (f.1, f.2, path), omega arith, omega (arith, f.3)))
        (pass-from es t q)

    least : (p : List Edge) (r : ℕ) → Path es q r p → length p ≤ suc k → at (pass es t) q ≤ cost p + at base r
    least [] r path few = omega (arith, pass_le es t q, (l q).least [] r path (omega arith))
    least (e ∷ p) r path few = rw (← path.1) (omega (arith, pass-edge t path.0, (l e.head).least p r path.2 (omega arith)))

-- k passes give the least within k edges
pub passes-least : (es : List Edge) (base : List ℕ) (k q : ℕ) → LeastWithin k es base q (at (passes es k base) q)
unfolding passes
passes-least es base zero q = record { attained = ([], q, refl, omega arith, omega arith); least = none }
  where
    none : (p : List Edge) (r : ℕ) → Path es q r p → length p ≤ 0 → at base q ≤ cost p + at base r
    none [] r path few = rw path (omega arith)
    none (e ∷ p) r path few = absurd (omega arith)
passes-least es base (suc k) q = pass-least es base (passes es k base) k (passes-least es base k) q
