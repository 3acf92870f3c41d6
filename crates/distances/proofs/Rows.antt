-- Edges in rows: relaxing a row after a row, and a row of edges from one state, which is one store.
use Rattle.std.specs.Prelude.{ℕ, ◌+◌, ◌<◌, ◌≤◌, min, ◌≡◌, refl, List, [], ◌∷◌, ◌++◌, set}
use Rattle.std.proofs.Common.{sym, ap, ◌∙◌, arith}
use mathlib.Core.List.Memᴰ
use Rattle.std.proofs.Math.Nat.{min-eq_left}
use Rattle.std.proofs.lemmas.List.{set-get_or, set-set}
use Rattle.distances.specs.Edge.{Edge, ◌∈◌}
use Rattle.distances.specs.Table.{at, relax, relaxes, lowest}
use Rattle.distances.proofs.PassLaws.{at_set}

pub relaxes-append : (old : List ℕ) (es fs : List Edge) (new : List ℕ) → relaxes old (es ++ fs) new ≡ relaxes old fs (relaxes old es new)
relaxes-append old [] fs new = refl
relaxes-append old (e ∷ es) fs new = relaxes-append old es fs (relax old e new)

pub lowest-append : (old : List ℕ) (es fs : List Edge) (d : ℕ) → lowest old (es ++ fs) d ≡ lowest old fs (lowest old es d)
lowest-append old [] fs d = refl
lowest-append old (e ∷ es) fs d = lowest-append old es fs (min d (at old e.head + e.cost))

-- relaxing edges that all go from q stores the lowest at q, and nothing else
pub relaxes-row : (old : List ℕ) (es : List Edge) (new : List ℕ) (q : ℕ) → ((e : Edge) → e ∈ es → e.tail ≡ q) →
    relaxes old es new ≡ set new q (lowest old es (at new q))
relaxes-row old [] new q from = sym (set-get_or new q 0)
relaxes-row old (e ∷ es) new q from =
    let reach : ℕ = at old e.head + e.cost in
    let d : ℕ = min (at new q) reach in
    let first : relax old e new ≡ set new q d = ap (λ s. set new s (min (at new s) reach)) (from e (Memᴰ.head refl)) in
    ap (relaxes old es) first ∙ relaxes-row old es (set new q d) q (λ x m. from x (Memᴰ.tail m))
    ∙ set-set new q d _ ∙ ap (λ v. set new q (lowest old es v)) (at_set new q d (omega arith))

-- an edge by itself: it stores what is lower, or nothing
pub relax-lower : (old : List ℕ) (e : Edge) (new : List ℕ) → at old e.head + e.cost < at new e.tail → relax old e new ≡ set new e.tail (at old e.head + e.cost)
relax-lower old e new low = ap (set new e.tail) (omega arith)

pub relax-kept : (old : List ℕ) (e : Edge) (new : List ℕ) → at new e.tail ≤ at old e.head + e.cost → relax old e new ≡ new
relax-kept old e new low = ap (set new e.tail) (min-eq_left low) ∙ set-get_or new e.tail 0

-- edges that lower no entry change nothing
pub relaxes-kept : (old : List ℕ) (es : List Edge) (new : List ℕ) → ((e : Edge) → e ∈ es → at new e.tail ≤ at old e.head + e.cost) → relaxes old es new ≡ new
relaxes-kept old [] new low = refl
relaxes-kept old (e ∷ es) new low = ap (relaxes old es) (relax-kept old e new (low e (Memᴰ.head refl))) ∙ relaxes-kept old es new (λ x m. low x (Memᴰ.tail m))
