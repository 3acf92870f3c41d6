-- The laws of what specs/Ends.antt defines.
use Rattle.std.specs.Prelude.{ℕ, zero, suc, ◌<◌, ◌≤◌, min, ◌≡◌, refl, Bool, true, false, cond, List, [], ◌∷◌, ◌⊎◌, eqb}
use Rattle.std.proofs.Common.{sym, ap, ◌∙◌, true≢false, inl, inr, ⊎_elim, arith, eq-eqb, eqb-true}
use Rattle.std.proofs.Math.Logic.{by_cases}
use Rattle.std.proofs.Math.Decide.{ℕ_discrete, dec_lt}
use Rattle.lists.specs.Test.{either}
use Rattle.distances.specs.Edge.{Edge, Path, Within}
use Rattle.distances.specs.Table.{at, inf, Least}
use Rattle.distances.specs.Reverse.{swapped, reversed}
use Rattle.distances.proofs.Reverse.{within-swapped, path_restored, cost-reversed, least-swapped}
use Rattle.distances.specs.Ends.{Marks, least_over, LeastOver}

pub over-is : (f : ℕ → Bool) (t : List ℕ) (m : ℕ) → LeastOver f t m (least_over f t m)
unfolding least_over
over-is f t zero = record { capped = omega arith; least = λ q h e. absurd (omega arith); attained = inl refl }
over-is f t (suc m) = next (least_over f t m) (over-is f t m) (f m) refl
  where
    next : (d : ℕ) → LeastOver f t m d → (b : Bool) → f m ≡ b → LeastOver f t (suc m) (cond b (min d (at t m)) d)
    next d l true e = record {
      capped = omega (arith, l.capped);
      least = λ q h k. by_cases (ℕ_discrete q m) (λ same. rw same (omega arith)) (λ other. omega (arith, l.least q (omega arith) k));
      attained = by_cases (dec_lt (at t m) d) (λ low. inr (m, omega arith, e, omega arith))
          (λ high. ⊎_elim (λ none. inl (omega arith)) (λ (q, h, k, is). inr (q, omega arith, k, omega arith)) l.attained);
    }
    next d l false e = record {
      capped = l.capped;
      least = λ q h k. by_cases (ℕ_discrete q m) (λ same. absurd (true≢false (sym k ∙ rw same e))) (λ other. l.least q (omega arith) k);
      attained = ⊎_elim inl (λ (q, h, k, is). inr (q, omega arith, k, is)) l.attained;
    }

path-end : {m : ℕ} {es : List Edge} → Within m es → (p : List Edge) (q r : ℕ) → q < m → Path es q r p → r < m
path-end w [] q r h path = rw (← path) h
path-end w (e ∷ p) q r h path = path-end w p e.head r (w e path.0).1 path.2

module _ (f : ℕ → Bool) {m : ℕ} (base : List ℕ) (marks : Marks f m base) (q : ℕ) (h : q < m) where
  marked_as : {b : Bool} → f q ≡ b → at base q ≡ cond b 0 inf
  marked_as e = marks q h ∙ ap (λ b. cond b 0 inf) e

  marked : ((f q ≡ true) × (at base q ≡ 0)) ⊎ (at base q ≡ inf)
  marked = ⊎_elim (λ e. inl (e, marked_as e)) (λ e. inr (marked_as e)) (either (f q))

-- t has the distances from s, and d is the distance of s to the ends: both are the least cost of a path from s to an end, or inf where that is less
pub least-over-ends : {m : ℕ} {es : List Edge} → Within m es → (s : ℕ) → s < m → (f : ℕ → Bool) (start ends t : List ℕ) →
    Marks (λ q. eqb q s) m start → Marks f m ends → ((q : ℕ) → q < m → Least (swapped es) start q (at t q)) → {d : ℕ} → Least es ends s d → least_over f t m ≡ d
least-over-ends {m} {es} within s below f start ends t marks-start marks-ends from {d} to = omega (arith, above, beneath)
  where
    l : LeastOver f t m (least_over f t m)
    l = over-is f t m

    capped : d ≤ inf
    capped = ⊎_elim (λ (e, z). omega (arith, to.least [] s refl)) (λ z. omega (arith, to.least [] s refl)) (marked f ends marks-ends s below)

    above : least_over f t m ≤ d
    above =
        let (p, r, path, e) = to.attained in
        let end = path-end within p s r below path in
        ⊎_elim
        (λ (k, z). omega (
          arith,
          l.least r end k,
          (least-swapped (from r end)).least p s path,
          marked_as (λ q. eqb q s) start marks-start s below (eq-eqb s s refl),
        ))
        (λ z. omega (arith, l.capped))
        (marked f ends marks-ends r end)

    by_end : (q : ℕ) → q < m → f q ≡ true → d ≤ at t q
    by_end q h k =
        let (p, r, path, e) = (from q h).attained in
        ⊎_elim
        (λ (same, z). omega (
          arith,
          to.least (reversed p) q (path_restored es p s q (rw (eqb-true r s same) at path)),
          cost-reversed p,
          marked_as f ends marks-ends q h k,
        ))
        (λ z. omega (arith, capped))
        (marked (λ q. eqb q s) start marks-start r (path-end (within-swapped within) p q r h path))

    beneath : d ≤ least_over f t m
    beneath = ⊎_elim (λ none. omega (arith, capped)) (λ (q, h, k, is). omega (arith, by_end q h k)) l.attained
