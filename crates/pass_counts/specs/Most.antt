-- The most hops (01: changeovers) of the plans of tables of ends.
use Rattle.std.specs.Prelude.{ℕ, zero, suc, ◌+◌, ◌*◌, cond, List, eqb, get_or, max, replicate}
use Rattle.limits.specs.Limits.{most_vertices, area_size}
use Rattle.book.specs.Reading.{reading}
use Rattle.ends.specs.Ends.{no_end}
use Rattle.reach.specs.Reaching.{table_after}

-- The greater of two numbers of hops, where the second is not that of no plan.
abbrev pub greater : ℕ → ℕ → ℕ
greater most hops = cond (eqb hops no_end) most (max most hops)

-- The greatest of a number and the hops of the first n entries of a table of ends.
unfoldable pub most_hops : List ℕ → ℕ → ℕ → ℕ
most_hops table zero most = most
most_hops table (suc n) most = greater (most_hops table n most) (get_or table (2 * n + 1) 0)

-- The table of ends from a start without known runs.
abbrev pub free_table : List ℕ → ℕ → List ℕ
free_table bytes start = table_after (reading bytes) (replicate area_size 0) 0 start (replicate (2 * most_vertices) 0)

-- The most hops to the first n vertices, of the plans from the first k.
unfoldable pub most_from : List ℕ → ℕ → ℕ → ℕ
most_from bytes n zero = 0
most_from bytes n (suc k) = most_hops (free_table bytes k) n (most_from bytes n k)
