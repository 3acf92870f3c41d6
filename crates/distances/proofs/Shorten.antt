-- The laws of what specs/Shorten.antt defines.
use Rattle.std.specs.Prelude.{ℕ, suc, ◌<◌, ◌≤◌, length}
use mathlib.Core.List.Memᴰ
use mathlib.Core.List.{List, [], ◌∷◌, Memᴰ}
use Rattle.std.proofs.Common.{⊎_elim, arith}
use Rattle.std.proofs.Math.Logic.{by_cases}
use Rattle.std.proofs.lemmas.List.{length-map}
use Rattle.distances.specs.Edge.{Edge, Path, Within}
use Rattle.std.proofs.Math.Decide.{ℕ_discrete}
use Rattle.lists.specs.Distinct.{Distinct, mem?}
use Rattle.lists.specs.Pigeonhole.{pigeonhole}
use Rattle.distances.specs.Table.{at, Least, LeastWithin, passes}
use Rattle.distances.proofs.PassLaws.{passes-least}
use Rattle.distances.specs.Shorten.{visits, NoDearer, Simple}

-- the part of a path from a state that it visits
from_visited : (es : List Edge) (p : List Edge) (q r x : ℕ) → Path es q r p → Distinct (visits q p) → Memᴰ x (visits q p) → Simple es x r p
from_visited es [] q r x path d m = rw (Memᴰ.eq_of_singleton m) ([], path, d, λ f. omega arith)
from_visited es (e ∷ p) q r x path d m =
    ⊎_elim (λ i. rw i (e ∷ p, path, d, λ f. omega arith))
    (λ m'. let (p', path', d', le) = from_visited es p e.head r x path.2 d.1 m' in (p', path', d', λ f. omega (arith, le f)))
    (Memᴰ.cases_cons m)

pub simple : (es : List Edge) (p : List Edge) (q r : ℕ) → Path es q r p → Simple es q r p
simple es [] q r path = ([], path, (Memᴰ.not-nil, tt), λ f. omega arith)
simple es (e ∷ p) q r (m, t, path) =
    let (p', path', d, le) = simple es p e.head r path in
    by_cases (mem? ℕ_discrete q (visits e.head p'))
    (λ k. let (p'', path'', d'', le'') = from_visited es p' e.head r q path' d k in (p'', path'', d'', λ f. omega (arith, le f, le'' f)))
    (λ n. (e ∷ p', (m, t, path'), (n, d), λ f. omega (arith, le f)))

visits-below : (n : ℕ) (es : List Edge) → Within n es → (p : List Edge) (q r : ℕ) → q < n → Path es q r p → (x : ℕ) → Memᴰ x (visits q p) → x < n
visits-below n es w [] q r h path x m = rw (Memᴰ.eq_of_singleton m) h
visits-below n es w (e ∷ p) q r h path x m =
    ⊎_elim (λ i. rw i h) (visits-below n es w p e.head r (w e path.0).1 path.2 x) (Memᴰ.cases_cons m)

-- a path no dearer, between the same ends, with fewer edges than states
pub shorten : (n : ℕ) (es : List Edge) → Within n es → (p : List Edge) (q r : ℕ) → q < n → Path es q r p →
    (p' : List Edge) × Path es q r p' × (length p' < n) × NoDearer p' p
shorten n es w p q r h path =
    let (p', path', d, le) = simple es p q r path in
    (p', path', omega (arith, length-map p' (λ e. e.head), pigeonhole n (visits q p') d (visits-below n es w p' q r h path')), le)

module _ (n : ℕ) (es : List Edge) (w : Within n es) (base : List ℕ) (k : ℕ) (enough : n ≤ suc k) (q : ℕ) (h : q < n) where
  -- with at most one edge fewer than states, the least within k edges is the least of all, and the other way round
  pub within-least : {d : ℕ} → LeastWithin k es base q d → Least es base q d
  within-least l =
      let (p, r, path, few, e) = l.attained in record {
        attained = (p, r, path, e);
        least = λ p r path.
            let (p', path', short, le) = shorten n es w p q r h path in
            omega (arith, l.least p' r path' (omega arith), le (λ e. e.cost));
      }

  pub least-within : {d : ℕ} → Least es base q d → LeastWithin k es base q d
  least-within l =
      let (p, r, path, e) = l.attained in
      let (p', path', short, le) = shorten n es w p q r h path in record {
        attained = (p', r, path', omega arith, omega (arith, le (λ e. e.cost), l.least p' r path'));
        least = λ p r path few. l.least p r path;
      }

  -- with a pass for each state but one, the passes give the least of all
  pub passes-least-of-all : Least es base q (at (passes es k base) q)
  passes-least-of-all = within-least (passes-least es base k q)
