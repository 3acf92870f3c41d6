-- Examples on book A under marks 3, start 0, end 3, which 01 does not star: the oracle theorem speaks of its trials, and reports that are
-- refused. On every date, and for all lent areas that are long enough.
use Rattle.std.specs.Prelude.{ℕ, ◌≤◌, ◌≡◌, List, [], ◌∷◌, length}
use Rattle.std.proofs.Math.Path.{refl, subst}
use Rattle.std.proofs.Common.{sym}
use mathlib.Core.List.Memᴰ
use Rattle.std.proofs.Math.Option.{some}
use native.Mathlib.Omega.{arith}
use Rattle.dates.specs.declared.Date.{Date}
use Rattle.dates.specs.Calendar.{IsDate}
use Rattle.walks.proofs.Avoid.{occurs→Occurs}
use Rattle.walks.specs.Feasible.{is_feasible}
use Rattle.book.specs.declared.Refusal.TheVariants.{Ended, PathLength, NoVertex, NotStanding}
use Rattle.book.specs.Refusal.{refusal_by}
use Rattle.book.specs.Book.{is_path, are_vertices}
use Rattle.examples.specs.Batches.{marks}
use Rattle.examples.specs.Books.{book_a}
use Rattle.rules.specs.Binding.{covers, applied, once}
use Rattle.limits.specs.Limits.{area_size, longest}
use Rattle.trial_rules.specs.Trials.{Report, passed, failed, State, Valid, Begin, EachAccepted, run, refusal, oracle_tests, is_valid, is_forbidden_set, is_record}
use Rattle.trial_rules.proofs.Tests.{is_forbidden_set→, is_valid→Valid}
use Rattle.trial_rules.proofs.Accepted.{only-oracle}
use Rattle.trial_rules.specs.Lacking.{lacking}
use Rattle.trials.specs.Replanning.{trials_of}
use Rattle.trial_rules.specs.Oracle.{OracleSet, TrueOracle, TrueTo}
use Rattle.examples.specs.Sums.{graph_a, begun-3, after-13, well-A, opens, first-is, run-123, long_after, valid-3}

-- the paths of the oracle
abbrev oracles : List (List ℕ)
oracles = (1 ∷ 2 ∷ 3 ∷ []) ∷ (1 ∷ 3 ∷ []) ∷ []

module _ (paths walk : List ℕ) (fits : area_size ≤ length paths) (long : longest ≤ length walk) where
  module _ (date : Date) (valid : IsDate date) where
    abbrev pub trials_a : Begin
    trials_a = trials_of book_a well-A (marks 3 date) 0 3 paths walk (opens paths walk fits long date valid)

    -- The oracle with these two paths is true, in reports that name them.
    pub oracle-set : OracleSet trials_a oracles
    unfolding covers applied is_forbidden_set once is_path are_vertices lacking
    oracle-set = record { taken = (is_forbidden_set→ 4 oracles tt).taken; few = omega arith }

    pub oracle-true : TrueOracle trials_a oracles (failed (1 ∷ 2 ∷ 3 ∷ []) ∷ failed (1 ∷ 3 ∷ []) ∷ [])
    unfolding run EachAccepted
    oracle-true = (
      λ e. subst (λ (σ : State). TrueTo oracles σ (failed (1 ∷ 2 ∷ 3 ∷ []))) (sym (first-is paths walk fits long date))
          (Memᴰ.head refl, occurs→Occurs (1 ∷ 2 ∷ 3 ∷ []) (0 ∷ 1 ∷ 2 ∷ 1 ∷ 2 ∷ 3 ∷ []) tt),
      (
        λ e. subst (λ (σ : State). TrueTo oracles σ (failed (1 ∷ 3 ∷ []))) (sym (run-123 paths walk fits long date))
            (Memᴰ.tail (Memᴰ.head refl), occurs→Occurs (1 ∷ 3 ∷ []) (0 ∷ 1 ∷ 3 ∷ []) tt),
        tt,
      ),
    )

  -- Refused at the start: no vertex, one vertex, and nine of which one is none of the graph (16, before 17); two of which one is none (17); and under 12 a path
  -- that names a vertex twice in succession, one that does not stand in the walk, and one that is known already. Refused at the end: a passed report, and a
  -- path of no vertex, for 11 is before 16.
  pub at-start : (r : List ℕ) → refusal graph_a (begun-3 paths walk) (failed r) ≡ refusal_by (oracle_tests graph_a (begun-3 paths walk) (failed r))
  at-start r =
      only-oracle graph_a (begun-3 paths walk) (failed r) (long_after paths walk fits long (0 ∷ 1 ∷ 2 ∷ 1 ∷ 2 ∷ 3 ∷ []) refl) (valid-3 paths walk fits long)

  pub empty : refusal graph_a (begun-3 paths walk) (failed []) ≡ some PathLength
  empty = at-start []

  pub too_short : refusal graph_a (begun-3 paths walk) (failed (1 ∷ [])) ≡ some PathLength
  too_short = at-start (1 ∷ [])

  pub too_long : refusal graph_a (begun-3 paths walk) (failed (0 ∷ 1 ∷ 2 ∷ 1 ∷ 2 ∷ 1 ∷ 2 ∷ 3 ∷ 4 ∷ [])) ≡ some PathLength
  too_long = at-start (0 ∷ 1 ∷ 2 ∷ 1 ∷ 2 ∷ 1 ∷ 2 ∷ 3 ∷ 4 ∷ [])

  pub no_vertex : refusal graph_a (begun-3 paths walk) (failed (3 ∷ 4 ∷ [])) ≡ some NoVertex
  unfolding are_vertices
  no_vertex = at-start (3 ∷ 4 ∷ [])

  pub in_succession : refusal graph_a (begun-3 paths walk) (failed (1 ∷ 1 ∷ [])) ≡ some NotStanding
  unfolding are_vertices
  in_succession = at-start (1 ∷ 1 ∷ [])

  pub not_there : refusal graph_a (begun-3 paths walk) (failed (1 ∷ 3 ∷ [])) ≡ some NotStanding
  unfolding are_vertices
  not_there = at-start (1 ∷ 3 ∷ [])

  pub known_already : refusal graph_a (begun-3 paths walk) (failed (0 ∷ 1 ∷ 2 ∷ 3 ∷ [])) ≡ some NotStanding
  unfolding are_vertices
  known_already = at-start (0 ∷ 1 ∷ 2 ∷ 3 ∷ [])

  valid-13 : Valid graph_a (after-13 paths walk)
  unfolding is_valid is_record is_forbidden_set once is_feasible is_path are_vertices
  valid-13 = is_valid→Valid graph_a (after-13 paths walk) tt

  at-end : (ρ : Report) → refusal graph_a (after-13 paths walk) ρ ≡ refusal_by (oracle_tests graph_a (after-13 paths walk) ρ)
  at-end ρ = only-oracle graph_a (after-13 paths walk) ρ (long_after paths walk fits long (0 ∷ 1 ∷ 3 ∷ 1 ∷ 2 ∷ 3 ∷ []) refl) valid-13

  pub too_late : refusal graph_a (after-13 paths walk) passed ≡ some Ended
  too_late = at-end passed

  pub empty_late : refusal graph_a (after-13 paths walk) (failed []) ≡ some Ended
  empty_late = at-end (failed [])
