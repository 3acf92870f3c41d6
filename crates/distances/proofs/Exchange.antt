-- Two tables take turns, so a pass finds the table of two passes before where it writes. It comes out as if it had begun with a copy of the last.
use Rattle.std.specs.Prelude.{ℕ, suc, ◌≤◌, ◌≡◌, List}
use Rattle.std.proofs.Common.{sym, ◌∙◌, ⊎_elim, arith, ext_get_or}
use Rattle.distances.specs.Edge.{Edge}
use Rattle.distances.specs.Table.{at, relaxes, pass, passes}
use Rattle.distances.proofs.PassLaws.{relaxes_le, relaxes-edge, relaxes-from, length-relaxes, length-pass, pass_le, pass-edge, pass-from}

module _ (es : List Edge) (t : List ℕ) (q : ℕ) where
  -- no entry is lower than the next pass's
  over_low : at (pass es (pass es t)) q ≤ at (relaxes (pass es t) es t) q
  over_low =
      ⊎_elim (λ stale. omega (arith, pass_le es t q, pass_le es (pass es t) q))
      (λ (e, m, tail, v). omega (arith, rw tail at (pass-edge (pass es t) m)))
      (relaxes-from (pass es t) es t q)

  -- nor higher: what the last pass took from an edge is no lower than what that edge gives now
  over_high : at (relaxes (pass es t) es t) q ≤ at (pass es (pass es t)) q
  over_high =
      ⊎_elim (λ kept. omega (arith, last))
      (λ (e, m, tail, v). omega (arith, rw tail at (relaxes-edge (pass es t) t m)))
      (pass-from es (pass es t) q)
    where
      last : at (relaxes (pass es t) es t) q ≤ at (pass es t) q
      last =
          ⊎_elim (λ kept. omega (arith, relaxes_le (pass es t) es t q))
          (λ (e, m, tail, v). omega (arith, pass_le es t e.head, rw tail at (relaxes-edge (pass es t) t m)))
          (pass-from es t q)

pub exchange : (es : List Edge) (t : List ℕ) (k : ℕ) → relaxes (passes es (suc k) t) es (passes es k t) ≡ passes es (suc (suc k)) t
unfolding passes
exchange es t k =
    let s : List ℕ = passes es k t in
    ext_get_or 0 _ _ (length-relaxes (pass es s) es s ∙ sym (length-pass es (pass es s) ∙ length-pass es s))
    (λ q h. omega (arith, over_low es s q, over_high es s q))
