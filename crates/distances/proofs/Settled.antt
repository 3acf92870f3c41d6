-- Where a pass changes nothing, the table is least over all paths, of any length.
use Rattle.std.specs.Prelude.{ℕ, ◌+◌, ◌≤◌, ◌≡◌, refl, List, [], ◌∷◌, T, leb}
use Rattle.std.proofs.Common.{ap, ◌∙◌, arith, leb→le, le→leb}
use mathlib.Core.List.Memᴰ
use Rattle.std.proofs.Math.Decide.{le_ind}
use Rattle.distances.specs.Edge.{Edge, ◌∈◌, Path, cost}
use Rattle.distances.specs.Table.{at, Attained, Least, pass, passes, settled}
use Rattle.std.specs.Float.Ieee.Fits.{and_i}
use Rattle.lists.specs.Test.{T_and}
use Rattle.distances.proofs.PassLaws.{passes-least}
use Rattle.distances.proofs.Rows.{relaxes-kept}

-- the least cost from a state is one number
pub least_unique : {es : List Edge} {base : List ℕ} {q d d' : ℕ} → Least es base q d → Least es base q d' → d ≡ d'
least_unique l l' =
    let (p, r, path, e) = l.attained in
    let (p', r', path', e') = l'.attained in
    omega (arith, l.least p' r' path', l'.least p r path)

pub settled_cons : (e : Edge) (es : List Edge) (t : List ℕ) → T (settled (e ∷ es) t) → (at t e.tail ≤ at t e.head + e.cost) × T (settled es t)
settled_cons e es t h = let both = T_and (leb (at t e.tail) (at t e.head + e.cost)) (settled es t) h in (leb→le _ _ both.0, both.1)

-- a settled table is one that no edge lowers
pub settled-edge : {e : Edge} {es : List Edge} (t : List ℕ) → T (settled es t) → e ∈ es → at t e.tail ≤ at t e.head + e.cost
settled-edge t h (Memᴰ.head {x} {xs} i) = rw i (settled_cons x xs t h).0
settled-edge t h (Memᴰ.tail {x} {xs} m) = settled-edge t (settled_cons x xs t h).1 m

pub edge-settled : (es : List Edge) (t : List ℕ) → ((e : Edge) → e ∈ es → at t e.tail ≤ at t e.head + e.cost) → T (settled es t)
edge-settled [] t h = tt
edge-settled (e ∷ es) t h =
    and_i (leb (at t e.tail) (at t e.head + e.cost)) (settled es t) (le→leb _ _ (h e (Memᴰ.head refl))) (edge-settled es t (λ x m. h x (Memᴰ.tail m)))

-- a pass over a settled table changes nothing
pub pass-settled : (es : List Edge) (t : List ℕ) → T (settled es t) → pass es t ≡ t
unfolding pass
pass-settled es t h = relaxes-kept t es t (λ e m. settled-edge t h m)

-- once settled, further passes change nothing
pub passes_stay : (es : List Edge) (t : List ℕ) (k : ℕ) → T (settled es (passes es k t)) → (m : ℕ) → k ≤ m → passes es m t ≡ passes es k t
unfolding passes
passes_stay es t k h = le_ind (λ m. passes es m t ≡ passes es k t) refl (λ m l e. ap (pass es) e ∙ pass-settled es (passes es k t) h)

-- in a settled table no path goes below an entry, by induction over the path
pub settled-path : (es : List Edge) (t : List ℕ) → T (settled es t) → (p : List Edge) (q r : ℕ) → Path es q r p → at t q ≤ cost p + at t r
settled-path es t h [] q r path = rw path (omega arith)
settled-path es t h (e ∷ p) q r path =
    rw (← path.1) (omega (arith, settled-edge t h path.0, settled-path es t h p e.head r path.2))

-- a settled table with no entry above its base has the least at each state whose entry is attained
pub settled-attained : (es : List Edge) (base t : List ℕ) → T (settled es t) → ((r : ℕ) → at t r ≤ at base r) → (q : ℕ) →
    Attained es base q (at t q) → Least es base q (at t q)
settled-attained es base t h low q a = record { attained = a; least = λ p r path. omega (arith, settled-path es t h p q r path, low r) }

-- passes up to a settled table give the least over all paths
pub settled-least : (es : List Edge) (base : List ℕ) (k : ℕ) → T (settled es (passes es k base)) → (q : ℕ) → Least es base q (at (passes es k base) q)
settled-least es base k h q =
    let (p, r, path, few, e) = (passes-least es base k q).attained in
    settled-attained es base (passes es k base) h (λ r. omega (arith, (passes-least es base k r).least [] r refl (omega arith))) q (p, r, path, e)
