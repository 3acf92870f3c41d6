-- The laws of what specs/Most.antt defines: the most hops are no fewer than those of any entry of the tables.
use Rattle.std.specs.Prelude.{ℕ, zero, suc, ◌+◌, ◌*◌, ◌≤◌, ◌<◌, ◌≢◌, List, get_or}
use Rattle.std.proofs.Common.{arith, le_trans, eq-eqb, ne_eqb}
use Rattle.std.proofs.Math.Logic.{by_cases}
use Rattle.std.proofs.Math.Decide.{ℕ_discrete}
use Rattle.std.proofs.Math.Nat.{le-max_left, le-max_right}
use Rattle.ends.specs.Ends.{no_end}
use Rattle.pass_counts.specs.Most.{greater, most_hops, free_table, most_from}

greater-keeps : (most hops : ℕ) → most ≤ greater most hops
greater-keeps most hops =
    by_cases (ℕ_discrete hops no_end)
    (λ none. rw (eq-eqb hops no_end none) (omega arith))
    (λ some. rw (ne_eqb hops no_end some) (le-max_left most hops))

greater-takes : (most hops : ℕ) → hops ≢ no_end → hops ≤ greater most hops
greater-takes most hops some = rw (ne_eqb hops no_end some) (le-max_right most hops)

module _ (table : List ℕ) (most : ℕ) where
  pub most_hops-keeps : (n : ℕ) → most ≤ most_hops table n most
  unfolding most_hops
  most_hops-keeps zero = omega arith
  most_hops-keeps (suc n) = le_trans (most_hops-keeps n) (greater-keeps (most_hops table n most) _)

  -- The hops of v stand at 2 * v + 1.
  pub most_hops-entry : (n v : ℕ) → v < n → get_or table (2 * v + 1) 0 ≢ no_end → get_or table (2 * v + 1) 0 ≤ most_hops table n most
  unfolding most_hops
  most_hops-entry zero v h some = absurd (omega arith)
  most_hops-entry (suc n) v h some =
      by_cases (ℕ_discrete v n)
      (λ e. rw e (greater-takes (most_hops table n most) (get_or table (2 * n + 1) 0) (rw e at some)))
      (λ d. le_trans (most_hops-entry n v (omega arith) some) (greater-keeps (most_hops table n most) _))

-- An entry of a start below k, to an end below n.
pub most_from-entry : (s : List ℕ) (n k start v : ℕ) → start < k → v < n → get_or (free_table s start) (2 * v + 1) 0 ≢ no_end
    → get_or (free_table s start) (2 * v + 1) 0 ≤ most_from s n k
unfolding most_from
most_from-entry s n zero start v below h some = absurd (omega arith)
most_from-entry s n (suc k) start v below h some =
    by_cases (ℕ_discrete start k)
    (λ e. rw e (most_hops-entry (free_table s k) (most_from s n k) n v h (rw e at some)))
    (λ d. le_trans (most_from-entry s n k start v (omega arith) h some) (most_hops-keeps (free_table s k) (most_from s n k) n))
