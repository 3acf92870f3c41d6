-- One turn of the loop of `base`.
use mathlib.Core.Bool.{Bool}
use mathlib.Core.List.{List, ◌++◌, append_assoc}
use mathlib.Core.Path.{◌≡◌, refl}
use Prim.Native.Nat.{ℕ, suc, ◌+◌, ◌<◌}
use native.Mathlib.Numerals.{add-one}
use lib.ListN.{length, drop, set}
use lib.Seq.{drop-cons, set_at}
use Rattle.product.specs.Base.{base_entry, base, length-base}

module _ (towards : Bool) (latests : List ℕ) (v : ℕ) (old : List ℕ) where
  pub base-none : old ≡ base towards latests v 0 ++ drop 0 old
  unfolding base
  base-none = refl

  pub base-next : (q : ℕ) {table : List ℕ} {entry : ℕ} → q < length old → entry ≡ base_entry towards latests v q → table ≡ base towards latests v q ++ drop q old
      → set table q entry ≡ base towards latests v (q + 1) ++ drop (q + 1) old
  unfolding base
  base-next q {table} {entry} room is done =
      rw (done, is, add-one q, drop-cons old q 0 room, append_assoc) (set_at (base towards latests v q) _ (drop (suc q) old) (base_entry towards latests v q) q (length-base towards latests v q))
