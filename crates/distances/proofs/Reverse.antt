-- The laws of what specs/Reverse.antt defines.
use Rattle.std.specs.Prelude.{ℕ, ◌+◌, ◌≡◌, refl, List, [], ◌∷◌, ◌++◌}
use Rattle.std.proofs.Common.{sym, ap, ◌∙◌, subst, arith}
use mathlib.Core.List.Memᴰ
use Rattle.distances.specs.Edge.{Edge, ◌∈◌, Path, total, cost, Within}
use Rattle.distances.specs.Table.{at, Least}
use Rattle.distances.specs.Reverse.{swap, swapped, reversed, LeastFrom}

pub within-swapped : {n : ℕ} {es : List Edge} → Within n es → Within n (swapped es)
within-swapped {n} {es} w e m = let (x, i, is) = Memᴰ.of_map swap es m in rw (← is) ((w x i).1, (w x i).0)

pub swapped-swapped : (es : List Edge) → swapped (swapped es) ≡ es
swapped-swapped [] = refl
swapped-swapped (e ∷ es) = ap (λ l. e ∷ l) (swapped-swapped es)

path_snoc : (es p : List Edge) (q r : ℕ) (e : Edge) → Path es q r p → e ∈ es → e.tail ≡ r → Path es q e.head (p ++ (e ∷ []))
path_snoc es [] q r e path m t = (m, t ∙ sym path, refl)
path_snoc es (x ∷ p) q r e path m t = (path.0, path.1, path_snoc es p x.head r e path.2 m t)

pub path-reversed : (es p : List Edge) (q r : ℕ) → Path es q r p → Path (swapped es) r q (reversed p)
path-reversed es [] q r path = sym path
path-reversed es (e ∷ p) q r path =
    subst (λ x. Path (swapped es) r x (reversed (e ∷ p))) path.1
    (path_snoc (swapped es) (reversed p) r e.head (swap e) (path-reversed es p e.head r path.2) (Memᴰ.map swap path.0) refl)

pub path_restored : (es p : List Edge) (q r : ℕ) → Path (swapped es) r q p → Path es q r (reversed p)
path_restored es p q r path = subst (λ l. Path l q r (reversed p)) (swapped-swapped es) (path-reversed (swapped es) p r q path)

total_append : (f : Edge → ℕ) (p p' : List Edge) → total f (p ++ p') ≡ total f p + total f p'
total_append f [] p' = omega arith
total_append f (e ∷ p) p' = omega (arith, total_append f p p')

pub total-reversed : (f : Edge → ℕ) (p : List Edge) → total f (reversed p) ≡ total (λ e. f (swap e)) p
total-reversed f [] = refl
total-reversed f (e ∷ p) = omega (arith, total_append f (reversed p) (swap e ∷ []), total-reversed f p)

pub cost-reversed : (p : List Edge) → cost (reversed p) ≡ cost p
cost-reversed p = total-reversed (λ e. e.cost) p

pub least-swapped : {es : List Edge} {base : List ℕ} {q d : ℕ} → Least (swapped es) base q d → LeastFrom es base q d
least-swapped {es} {base} {q} {d} l =
    let (p, r, path, e) = l.attained in record {
      attained = (reversed p, r, path_restored es p r q path, e ∙ ap (λ c. c + at base r) (sym (cost-reversed p)));
      least = λ p r path. omega (arith, l.least (reversed p) r (path-reversed es p r q path), cost-reversed p);
    }
