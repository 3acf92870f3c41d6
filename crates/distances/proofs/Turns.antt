-- Two tables take turns: each pass reads the last table, and writes over the one before it. What they hold, and what ends the passes.
use Rattle.std.specs.Prelude.{ℕ, zero, suc, ◌-◌, ◌<◌, ◌≤◌, ◌≡◌, refl, true, false, List, length}
use Rattle.std.proofs.Common.{sym, ap, ◌∙◌, true≢false, arith}
use Rattle.std.proofs.Math.Logic.{by_cases}
use Rattle.std.proofs.Math.Decide.{ℕ_discrete, dec_lt}
use Rattle.lists.specs.Test.{T→true, true→T}
use Rattle.distances.specs.Edge.{Edge, Within}
use Rattle.distances.specs.Table.{at, inf, relaxes, pass, passes, settled, made}
use Rattle.distances.proofs.PassLaws.{length-passes, passes_le}
use Rattle.distances.proofs.Settled.{pass-settled}
use Rattle.distances.proofs.Exchange.{exchange}
use Rattle.distances.proofs.Made.{settled-last, settled-final, made-is}

-- after k passes from t, each of which changed an entry: old is the last table and new the one before it; with none made both are t
pub record Turns (es : List Edge) (t : List ℕ) (k : ℕ) (old new : List ℕ) : Type 0 where
  pub last : old ≡ passes es k t
  pub before : new ≡ passes es (k - 1) t
  pub changed : (j : ℕ) → j < k → settled es (passes es j t) ≡ false

pub turns-none : {es : List Edge} {t old new : List ℕ} → old ≡ t → new ≡ t → Turns es t 0 old new
unfolding passes
turns-none o n = record { last = o; before = n; changed = λ j h. absurd (omega arith) }

module _ {es : List Edge} {t : List ℕ} {k : ℕ} {old new : List ℕ} (u : Turns es t k old new) where
  -- relaxing into the table before the last is as if it had begun with a copy of the last
  pub turns-pass : relaxes old es new ≡ pass es old
  unfolding pass passes
  turns-pass = ap (λ o. relaxes o es new) u.last ∙ ap (relaxes (passes es k t) es) u.before ∙ over k ∙ ap (pass es) (sym u.last)
    where
      over : (k : ℕ) → relaxes (passes es k t) es (passes es (k - 1) t) ≡ passes es (suc k) t
      over zero = refl
      over (suc k) = let e : suc k - 1 ≡ k = omega arith in rw e (exchange es t k)

  pub turns-length : (length old ≡ length t) × (length new ≡ length t)
  turns-length = (ap length u.last ∙ length-passes es k t, ap length u.before ∙ length-passes es (k - 1) t)

  -- no entry has risen
  pub turns_le : (q : ℕ) → (at old q ≤ at t q) × (at new q ≤ at t q)
  turns_le q = (rw u.last (passes_le es k t q), rw u.before (passes_le es (k - 1) t q))

  pub turns-capped : ((q : ℕ) → at t q ≤ inf) → ((q : ℕ) → at old q ≤ inf) × ((q : ℕ) → at new q ≤ inf)
  turns-capped low = (λ q. omega (arith, (turns_le q).0, low q), λ q. omega (arith, (turns_le q).1, low q))

  -- the pass changed an entry: the tables change places
  pub turns-next : {new' : List ℕ} → new' ≡ pass es old → settled es old ≡ false → Turns es t (suc k) new' old
  unfolding passes
  turns-next written unsettled = record {
    last = written ∙ ap (pass es) u.last;
    before = let e : suc k - 1 ≡ k = omega arith in rw e u.last;
    changed = λ j h. by_cases (ℕ_discrete j k) (λ same. rw same (rw u.last at unsettled)) (λ other. u.changed j (omega arith));
  }

module _ {es : List Edge} {t : List ℕ} (n : ℕ) (w : Within n es) {k : ℕ} {old new : List ℕ} (u : Turns es t k old new) where
  -- as many passes as states cannot all have changed an entry
  pub turns-few : settled es old ≡ false → k < n
  turns-few unsettled = by_cases (dec_lt k n) (λ l. l) (λ l. absurd (true≢false (sym (T→true _ (settled-last n es w t k (omega arith))) ∙ rw u.last at unsettled)))

  turns-within : k ≤ n
  turns-within = by_cases (dec_lt n k) (λ l. absurd (true≢false (sym (T→true _ (settled-last n es w t n (omega arith))) ∙ u.changed n l))) (λ l. omega arith)

  -- it changed none: both tables hold what a pass for each state gives, and it was the last that is made
  pub turns-last : {new' : List ℕ} → new' ≡ pass es old → settled es old ≡ true → (old ≡ passes es n t) × (new' ≡ passes es n t) × (suc k ≡ made es n t)
  turns-last written s = (final, written ∙ pass-settled es old (true→T _ s) ∙ final, sym (made-is es n k t turns-within (rw u.last at (true→T _ s)) u.changed))
    where
      final : old ≡ passes es n t
      final = u.last ∙ settled-final n es w t k (rw u.last at (pass-settled es old (true→T _ s)))
