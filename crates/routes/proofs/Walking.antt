-- What `walk` has done when it has written k vertices and is at state q, and what one turn of its loop does. Its loop has what is lent of the area after the first byte.
use mathlib.Core.List.{List, [], ◌∷◌, ◌++◌, append_assoc, append-nil}
use mathlib.Core.Path.{◌≡◌, refl, sym, ap, ap₂, ◌∙◌}
use Prim.Native.Nat.{ℕ, suc, ◌+◌, ◌-◌, ◌%◌, ◌<◌, ◌≤◌}
use native.Mathlib.Numerals.{add-one}
use native.Mathlib.Omega.{arith}
use lib.ListN.{length, take, drop, set, length-append, drop_of_length-le}
use lib.Seq.{drop-cons, set_at}
use Rattle.std.proofs.lemmas.List.{length-take, drop-drop, set_split}
use borrow.Rule.Slice.PartMut.{put_mid}
use Rattle.distances.specs.Table.{at, inf}
use Rattle.distances.specs.Pack.{hops_limit}
use Rattle.product.specs.Product.{step_to}
use Rattle.routes.specs.Route.{next, route, walk_from, length-route, Guided}
use Rattle.routes.specs.Guiding.{Guiding}

module _ (weights steps blockeds latests d : List ℕ) (n s : ℕ) (old : List ℕ) where
  pub record Walking (area : List ℕ) (q k : ℕ) : Type 0 where
    pub written : List ℕ
    pub written-length : length written ≡ k
    pub area-is : area ≡ written ++ drop k old
    pub state-below : q < length d
    pub near : at d q < inf
    pub left : at d q % hops_limit + k ≡ at d s % hops_limit + 1
    pub goes_on : written ++ route weights steps blockeds latests d n (at d q % hops_limit) q ≡ walk_from weights steps blockeds latests d n s

  module _ (g : Guiding n weights steps blockeds latests d) {area : List ℕ} {q k : ℕ} (w : Walking area q k) where
    pub walking_guided : k < at d s % hops_limit + 1 → Guided weights steps blockeds latests d n (length d) q
    walking_guided more = g.guides q w.state-below w.near (omega (arith, w.left))

    pub walking_next : k < at d s % hops_limit + 1 → k < length old → Walking (set area k (next weights steps blockeds latests d n q)) (step_to weights steps blockeds latests q (next weights steps blockeds latests d n q)) (k + 1)
    unfolding route
    walking_next more room =
        let v = next weights steps blockeds latests d n q in
        let r = step_to weights steps blockeds latests q v in
        let way = walking_guided more in
        let fewer : at d q % hops_limit ≡ suc (at d r % hops_limit) = omega (arith, way.falls, w.left) in
        record {
          written = w.written ++ (v ∷ []);
          written-length = rw length-append (omega (arith, w.written-length));
          area-is = rw (w.area-is, drop-cons old k 0 room, add-one k, append_assoc) (set_at w.written _ (drop (suc k) old) v k w.written-length);
          state-below = way.state-below;
          near = omega (arith, way.falls, w.near);
          left = omega (arith, w.left);
          goes_on = rw append_assoc (rw fewer at w.goes_on);
        }

-- The first vertex is written.
module _ (weights steps blockeds latests d : List ℕ) (n s : ℕ) where
  pub walking_start : (lent : List ℕ) → s < length d → at d s < inf → Walking weights steps blockeds latests d n s (s ∷ lent) (s ∷ lent) s 1
  walking_start lent h near = record {
    written = s ∷ [];
    written-length = refl;
    area-is = refl;
    state-below = h;
    near = near;
    left = omega arith;
    goes_on = refl;
  }

  -- The next one.
  pub walking_turn : (lent : List ℕ) {items : List ℕ} {q : ℕ} (i : ℕ) → Guiding n weights steps blockeds latests d → Walking weights steps blockeds latests d n s (s ∷ lent) (s ∷ items) q (i + 1)
      → i + 1 < at d s % hops_limit + 1 → i + 1 < length (s ∷ lent)
      → Walking weights steps blockeds latests d n s (s ∷ lent) (s ∷ set items i (next weights steps blockeds latests d n q)) (step_to weights steps blockeds latests q (next weights steps blockeds latests d n q)) (i + 1 + 1)
  walking_turn lent {items} {q} i g w more room =
      let entered : set (s ∷ items) (i + 1) (next weights steps blockeds latests d n q) ≡ s ∷ set items i (next weights steps blockeds latests d n q) = rw add-one refl in
      rw entered at (walking_next weights steps blockeds latests d n s (s ∷ lent) g w more room)

  -- All hops are walked.
  pub walk-length : at d s % hops_limit + 1 ≡ length (walk_from weights steps blockeds latests d n s)
  walk-length = omega (arith, length-route weights steps blockeds latests d n (at d s % hops_limit) s)

  pub walking_done : (old : List ℕ) {items : List ℕ} {q k : ℕ} → at d s % hops_limit < length old
      → Walking weights steps blockeds latests d n s (s ∷ take (at d s % hops_limit + 1 - 1) (drop 1 (set old 0 s))) (s ∷ items) q k → at d s % hops_limit + 1 ≤ k
      → put_mid 1 (at d s % hops_limit + 1 - 1) (set old 0 s) items ≡ walk_from weights steps blockeds latests d n s ++ drop (at d s % hops_limit + 1) old
  unfolding route
  walking_done old {items} {q} {k} room w all =
      let h : ℕ = at d s % hops_limit + 1 - 1 in
      let none : at d q % hops_limit ≡ 0 = omega (arith, w.left) in
      let same : w.written ≡ walk_from weights steps blockeds latests d n s = sym (append-nil w.written) ∙ rw none at w.goes_on in
      let over : drop k (s ∷ take h (drop 1 (set old 0 s))) ≡ [] = drop_of_length-le (s ∷ take h (drop 1 (set old 0 s))) (omega (arith, length-take h (drop 1 (set old 0 s)))) in
      let front : s ∷ items ≡ walk_from weights steps blockeds latests d n s = w.area-is ∙ ap (λ l. w.written ++ l) over ∙ append-nil w.written ∙ same in
      let rest : drop h (drop 1 old) ≡ drop (at d s % hops_limit + 1) old = drop-drop h 1 old ∙ ap (λ x. drop x old) (omega arith) in
      ap (λ l. put_mid 1 h l items) (set_split old 0 s (omega arith)) ∙ ap₂ (λ x y. x ++ y) front rest
