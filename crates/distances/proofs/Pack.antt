-- The laws of what specs/Pack.antt defines.
use Rattle.std.specs.Prelude.{ℕ, suc, ◌-◌, ◌*◌, ◌<◌, ◌≤◌, ◌≡◌, refl, List, [], ◌∷◌, length}
use Rattle.std.proofs.Common.{inl, inr, ⊎_elim, arith, lit<}
use Rattle.std.proofs.Math.Logic.{by_cases}
use Rattle.std.proofs.Math.Decide.{dec_lt}
use Rattle.limits.specs.Limits.{heaviest}
use Rattle.distances.specs.Edge.{Edge, Path, total, cost}
use Rattle.distances.specs.Table.{at, inf, Least, LeastWithin}
use Rattle.distances.proofs.Shorten.{shorten, least-within}
use Rattle.distances.specs.Pack.{hops_limit, pack, NoWorse, Weighted, Targets, BestWithin, Best, Answered}

-- below the limit packing keeps the order, both ways
pub pack-order : (w h w' h' : ℕ) → h' < hops_limit → pack w h ≤ pack w' h' → NoWorse w h w' h'
pack-order w h w' h' small le = by_cases (dec_lt w w') inl (λ n. inr (omega arith))

pub order-pack : (w h w' h' : ℕ) → h < hops_limit → NoWorse w h w' h' → pack w h ≤ pack w' h'
order-pack w h w' h' small = ⊎_elim (λ l. omega arith) (λ e. omega arith)

total_ones : (p : List Edge) → total (λ e. 1) p ≡ length p
total_ones [] = refl
total_ones (e ∷ p) = omega (arith, total_ones p)

no_worse_trans : (w h w' h' w'' h'' : ℕ) → NoWorse w h w' h' → w' ≤ w'' → h' ≤ h'' → NoWorse w h w'' h''
no_worse_trans w h w' h' w'' h'' nw lw lh = ⊎_elim (λ l. inl (omega arith)) (λ e. by_cases (dec_lt w w'') inl (λ n. inr (omega arith))) nw

module _ {n : ℕ} {es : List Edge} {weight : Edge → ℕ} (g : Weighted n es weight) where
  pub cost-packed : (p : List Edge) (q r : ℕ) → Path es q r p → cost p ≡ pack (total weight p) (length p)
  cost-packed [] q r path = refl
  cost-packed (e ∷ p) q r path = omega (arith, g.packed e path.0, cost-packed p e.head r path.2)

  pub weight-bound : (p : List Edge) (q r : ℕ) → Path es q r p → total weight p ≤ length p * heaviest
  weight-bound [] q r path = omega arith
  weight-bound (e ∷ p) q r path = omega (arith, g.light e path.0, weight-bound p e.head r path.2)

  -- a least entry below inf is the weight and the number of edges of a best path, and a least entry of inf says that there is none
  module _ (base : List ℕ) (k q : ℕ) (small : k < hops_limit) where
    pub found_within : Targets base → {d : ℕ} → LeastWithin k es base q d → d < inf →
        (r : ℕ) × (p : List Edge) × BestWithin k es weight base q r p × (d ≡ pack (total weight p) (length p))
    found_within targets l below =
        let (p, r, path, few, e) = l.attained in
        let packed = cost-packed p q r path in
        ⊎_elim
        (λ target. (
          r,
          p,
          record {
            path = path;
            short = few;
            target = target;
            best = λ p' r' path' few' target'. pack-order _ _ _ (length p') (omega arith) (omega (arith, l.least p' r' path' few', cost-packed p' q r' path'));
          },
          omega arith,
        ))
        (λ far. absurd (omega arith))
        (targets r)

    pub none_within : LeastWithin k es base q inf → (r : ℕ) (p : List Edge) → Path es q r p → length p ≤ k → at base r ≡ 0 → ⊥
    none_within l r p path few target = omega (arith, l.least p r path few, cost-packed p q r path, weight-bound p q r path)

  module _ (base : List ℕ) (q : ℕ) (h : q < n) where
    -- best with at most one edge fewer than states is best of all, by weight and then by edges
    pub best-of-all : (k r : ℕ) (p : List Edge) → n ≤ suc k → BestWithin k es weight base q r p → Best es weight base q r p
    best-of-all k r p enough b = record {
      path = b.path;
      target = b.target;
      best = λ p' r' path' target'.
          let (p'', path'', short, le) = shorten n es g.within p' q r' h path' in
          no_worse_trans _ _ (total weight p'') (length p'') _ _ (b.best p'' r' path'' (omega arith) target') (le weight)
          (omega (arith, le (λ e. 1), total_ones p', total_ones p''));
    }

    -- a best path has fewer edges than states
    pub best_bounds : (r : ℕ) (p : List Edge) → Best es weight base q r p → (length p < n) × (total weight p ≤ length p * heaviest)
    best_bounds r p b =
        let (p', path', short, le) = shorten n es g.within p q r h b.path in
        let few : length p < n = ⊎_elim (λ l. absurd (omega (arith, le weight))) (λ e. omega arith) (b.best p' r path' b.target) in
        (few, weight-bound p q r b.path)

    pub found : Targets base → {d : ℕ} → Least es base q d → d < inf →
        (r : ℕ) × (p : List Edge) × Best es weight base q r p × (d ≡ pack (total weight p) (length p))
    found targets l below =
        let (r, p, b, e) = found_within base (hops_limit - 1) q (lit< tt) targets (least-within n es g.within base (hops_limit - 1) g.few q h l) below in
        (r, p, best-of-all (hops_limit - 1) r p g.few b, e)

    pub none_found : Least es base q inf → (r : ℕ) (p : List Edge) → Path es q r p → at base r ≡ 0 → ⊥
    none_found l r p path target =
        let (p', path', short, le) = shorten n es g.within p q r h path in
        none_within base (hops_limit - 1) q (lit< tt) (least-within n es g.within base (hops_limit - 1) g.few q h l) r p' path' (omega (arith, g.few)) target

    pub answered : Targets base → {d : ℕ} → Least es base q d → Answered es weight base q d
    answered targets {d} l = by_cases (dec_lt d inf) near none
      where
        near : d < inf → Answered es weight base q d
        near below =
            let (r, p, b, e) = found targets l below in
            inl (r, p, b, e, omega (arith, best_bounds r p b, g.few), below)

        none : (d < inf → ⊥) → Answered es weight base q d
        none far =
            let top : d ≡ inf = ⊎_elim (λ e. absurd (omega (arith, l.least [] q refl))) (λ e. omega (arith, l.least [] q refl)) (targets q) in
            inr (top, none_found (rw top at l))
