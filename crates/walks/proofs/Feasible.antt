-- The laws of what specs/Feasible.antt defines.
use Rattle.std.specs.Prelude.{List, ℕ, T, get_or}
use Rattle.std.proofs.Math.Dec.{eqb→eq}
use Rattle.std.specs.Float.Ieee.Fits.{eq→eqb}
use Rattle.lists.specs.Test.{conj}
use Rattle.walks.specs.Graph.{Graph}
use Rattle.walks.specs.Walk.{hops}
use Rattle.walks.proofs.Walk.{is_walk→Walk, Walk→is_walk}
use Rattle.walks.proofs.Avoid.{avoids→Avoids, Avoids→avoids}
use Rattle.walks.specs.Best.{Feasible}
use Rattle.walks.specs.Feasible.{is_feasible}

module _ (g : Graph) (F : List (List ℕ)) (s t : ℕ) (w : List ℕ) where
  pub is_feasible→Feasible : T (is_feasible g F s t w) → Feasible g F s t w
  unfolding is_feasible
  is_feasible→Feasible h =
      record {
        walk = is_walk→Walk w (search conj);
        starts = eqb→eq (get_or w 0 0) s (search conj);
        ends = eqb→eq (get_or w (hops w) 0) t (search conj);
        clear = avoids→Avoids F w (search conj);
      }

  pub Feasible→is_feasible : Feasible g F s t w → T (is_feasible g F s t w)
  unfolding is_feasible
  Feasible→is_feasible f = search (conj, Walk→is_walk w f.walk, eq→eqb f.starts, eq→eqb f.ends, Avoids→avoids F w f.clear)
