-- A pass over two tables that take turns, and what it answers.
use Rattle.std.specs.Prelude.{Bool, true, false, not, List, ℕ, suc, ◌<◌, ◌≡◌, refl, length}
use Rattle.std.proofs.Common.{sym, ◌∙◌}
use Rattle.distances.specs.Edge.{Within}
use Rattle.distances.specs.Table.{pass, passes, settled, made}
use Rattle.distances.proofs.Turns.{Turns, turns-pass, turns-capped, turns-length, turns-next, turns-few, turns-last}
use Rattle.product.specs.Base.{is_towards, within-directed}
use Rattle.product.specs.Fits.{fits-within}
use Rattle.sweeps.specs.declared.Sweep.{Sweep}
use Rattle.sweeps.specs.Sweep.{edges_in, Ready, Before, Capped}

-- Such tables are what a pass asks.
pub turned-before : (s : Sweep) {t old new : List ℕ} {k : ℕ} → Capped t → Turns (edges_in s (length t)) t k old new → Before (edges_in s (length old)) old new
turned-before s capped turns =
    let (size, new-size) = turns-length turns in
    rw size (record { same_length = new-size ∙ sym size; capped = (turns-capped turns capped).0; new_capped = (turns-capped turns capped).1; as_copied = turns-pass turns })

when-changed : {r : Bool} (b : Bool) → r ≡ not b → r ≡ true → b ≡ false
when-changed false e h = refl
when-changed true e h = sym h ∙ e

when-kept : {r : Bool} (b : Bool) → r ≡ not b → r ≡ false → b ≡ true
when-kept true e h = refl
when-kept false e h = sym h ∙ e

module _ (s : Sweep) {t old new : List ℕ} {k : ℕ} (turns : Turns (edges_in s (length t)) t k old new) {new' : List ℕ} {changed : Bool}
    (after : new' ≡ pass (edges_in s (length old)) old) (is : changed ≡ not (settled (edges_in s (length old)) old)) where
  size : length old ≡ length t
  size = (turns-length turns).0

  written : new' ≡ pass (edges_in s (length t)) old
  written = rw size at after

  told : changed ≡ not (settled (edges_in s (length t)) old)
  told = rw size at is

  -- It changed an entry: the tables change places.
  pub turned-next : changed ≡ true → Turns (edges_in s (length t)) t (suc k) new' old
  turned-next h = turns-next turns written (when-changed _ told h)

  module _ (r : Ready s (length t)) where
    within : Within (length t) (edges_in s (length t))
    within = within-directed (is_towards s.goal) (fits-within r.fits)

    pub turned-few : changed ≡ true → k < length t
    turned-few h = turns-few (length t) within turns (when-changed _ told h)

    -- It changed none: it was the last.
    pub turned-last : changed ≡ false → (old ≡ passes (edges_in s (length t)) (length t) t) × (new' ≡ passes (edges_in s (length t)) (length t) t) × (suc k ≡ made (edges_in s (length t)) (length t) t)
    turned-last h = turns-last (length t) within turns written (when-kept _ told h)
