-- The laws of what specs/Guiding.antt defines.
use Rattle.std.specs.Prelude.{true, List, ◌≢◌, ◌≡◌, ℕ, ◌<◌, length}
use Rattle.std.proofs.Common.{⊎_elim, ap, ◌∙◌, arith}
use Rattle.std.proofs.Math.Logic.{by_cases}
use Rattle.std.proofs.Math.Decide.{dec_lt}
use Rattle.std.proofs.Math.ListN.{get_or-eq_default}
use Rattle.walks.specs.Graph.{Graph}
use Rattle.distances.specs.Table.{at, inf, passes}
use Rattle.distances.proofs.PassLaws.{length-passes}
use Rattle.automaton.specs.Built.{Built}
use Rattle.walks.specs.Weights.{Weights}
use Rattle.product.specs.Product.{state_edges}
use Rattle.product.specs.Base.{targets, length-base, base-is}
use Rattle.routes.specs.Distance.{at_most}
use Rattle.routes.proofs.Route.{guided}
use Rattle.product.specs.Fits.{fits}
use Rattle.routes.specs.Guiding.{Node, Guiding}

pub node : {n : ℕ} {weights steps blockeds latests d : List ℕ} → Guiding n weights steps blockeds latests d → (q : ℕ) → q < length d → Node n weights steps blockeds latests d q
node g q h = record { row = g.fits.rows q h; entry-below = h; next-below = λ v b. g.fits.state-below q v h b; capped = g.capped }

pub entry-near : {n : ℕ} {weights steps blockeds latests d : List ℕ} → Guiding n weights steps blockeds latests d → (q : ℕ) → at d q ≢ inf → at d q < inf
entry-near g q h = omega (arith, g.capped q)

module _ {g : Graph} {F : List (List ℕ)} {m : ℕ} {steps blockeds latests weights : List ℕ} (built : Built F g.count m steps blockeds latests) (table : Weights g weights) where
  pub guiding : (t : ℕ) (d : List ℕ) → d ≡ passes (state_edges weights steps blockeds latests g.count m) m (targets latests t m) → Guiding g.count weights steps blockeds latests d
  guiding t d final = record {
    fits = rw size (fits built table);
    capped = λ q. by_cases (dec_lt q m)
        (λ h. ⊎_elim (λ e. omega (arith, at_most built table t d final q h)) (λ e. omega (arith, at_most built table t d final q h)) (base-is true latests t m q))
        (λ h. omega (arith, get_or-eq_default d 0 {n = q} (omega (arith, size))));
    guides = rw size (guided built table t d final);
  }
    where
      size : length d ≡ m
      size = ap length final ∙ length-passes (state_edges weights steps blockeds latests g.count m) m (targets latests t m) ∙ length-base true latests t m
