-- 02, order 3, proved of line-ups: where a pass changes none, distances are those of the best line-ups; and the passes to an end are few, by the
-- contracts of planning and of the table of ends, so that the test never prints OVER.
use Rattle.std.specs.Prelude.{ℕ, suc, ◌+◌, ◌*◌, ◌%◌, ◌≤◌, ◌<◌, ◌≡◌, refl, true, false, List, [], ◌++◌, length, drop, get_or, replicate}
use Rattle.std.proofs.Common.{sym, ap, subst, inl, inr, ⊎_elim, arith}
use Rattle.std.proofs.Math.Logic.{by_cases}
use Rattle.std.proofs.Math.Decide.{dec_lt}
use Rattle.std.proofs.lemmas.List.{length-replicate, take-replicate}
use mathlib.Core.List.Memᴰ
use Rattle.limits.specs.Limits.{most_vertices, area_size, longest}
use Rattle.walks.specs.Graph.{Graph}
use Rattle.walks.specs.Walk.{weight_of, hops}
use Rattle.walks.specs.Avoid.{Long}
use Rattle.walks.proofs.Avoid.{Avoids-single}
use Rattle.walks.specs.Best.{Best}
use Rattle.distances.specs.Edge.{Edge}
use Rattle.distances.specs.Table.{at, inf, pass, passes}
use Rattle.distances.specs.Pack.{hops_limit}
use Rattle.distances.specs.Reverse.{swapped}
use Rattle.distances.proofs.Reverse.{within-swapped}
use Rattle.distances.specs.Made.{First}
use Rattle.distances.proofs.Made.{made-first, settled-final}
use Rattle.automaton.specs.Area.{Bounded}
use Rattle.product.specs.Product.{state_edges}
use Rattle.product.specs.ProductLaws.{weighted}
use Rattle.product.specs.Base.{base, targets, base-is}
use Rattle.routes.specs.Distance.{at_most}
use Rattle.routes.specs.Route.{walk_from, length-route}
use Rattle.routes.proofs.Route.{walk-best, walk-weight, start_none}
use Rattle.routes.specs.Plan.{Prepared}
use Rattle.routes.proofs.Planned.{prepared-start}
use Rattle.measuring.specs.Counted.{Counted}
use Rattle.measuring.proofs.Few.{few-passes}
use Rattle.book.specs.Book.{Book, WellFormed, graph}
use Rattle.book.proofs.BookLaws.{reading-is-book}
use Rattle.book.proofs.TableLaws.{book-weights}
use Rattle.book.specs.Tables as tables
use Rattle.book.specs.Reading.{accepted, reading}
use Rattle.rules.specs.Binding.{once}
use Rattle.rules.specs.Area.{blocks}
use Rattle.rules.specs.ValidLaws.{Valid}
use Rattle.planner.specs.Planning.{walked}
use Rattle.ends.specs.Ends.{ends}
use Rattle.ends.proofs.EndsLaws.{best-numbers}
use Rattle.ends.specs.Least.{entries}
use Rattle.ends.proofs.Filled.{entries_are}
use Rattle.reach.specs.Reaching.{reached}
use Rattle.pass_counts.specs.Most.{free_table, most_from}
use Rattle.pass_counts.proofs.Most.{most_from-entry}
use Rattle.demands.specs.Demands.{PlanTo, IsDistance, EntryWithin}
use Rattle.demands.proofs.EndLaws.{plan-to, every_end}

module _ {g : Graph} {F : List (List ℕ)} {m : ℕ} {weights steps blockeds latests : List ℕ} (p : Prepared g F g.count m weights steps blockeds latests) (long : Long F) (end : ℕ) where
  abbrev es : List Edge
  es = state_edges weights steps blockeds latests g.count m

  abbrev d : List ℕ
  d = passes es m (targets latests end m)

  -- After as many passes as there are states the entries are those of the best line-ups.
  distance : (start : ℕ) → start < g.count → IsDistance g F start end (at d start)
  distance start h =
      let low = at_most p.built p.table end d refl start (prepared-start p start h) in
      by_cases (dec_lt (at d start) inf)
      (λ near.
      let weight_is = walk-weight p.built p.table end d refl start h (Avoids-single long start) near in
      let hops-are = length-route weights steps blockeds latests d g.count (at d start % hops_limit) start in
      inl (walk_from weights steps blockeds latests d g.count start, walk-best p.built p.table end d refl start h (Avoids-single long start) near, omega arith, omega arith, near))
      (λ far. inr (
        ⊎_elim (λ e. absurd (omega arith)) (λ e. omega arith) (base-is true latests end m start),
        start_none p.built p.table end d refl start h (Avoids-single long start) (omega arith),
      ))

  -- Where a pass changes none, they are the same.
  pub settled-plans : (k : ℕ) → pass es (passes es k (targets latests end m)) ≡ passes es k (targets latests end m) → (start : ℕ) → start < g.count
      → IsDistance g F start end (at (passes es k (targets latests end m)) start)
  settled-plans k same start h =
      subst (λ t. IsDistance g F start end (at t start)) (sym (settled-final m es (weighted p.built p.table).within (targets latests end m) k same)) (distance start h)

module _ {g : Graph} {F : List (List ℕ)} {m : ℕ} {weights steps blockeds latests : List ℕ} (p : Prepared g F g.count m weights steps blockeds latests) (bounded : Bounded g.count F) where
  -- The same of the passes from a start.
  pub settled-ends : (start k : ℕ) → start < g.count
      → let es : List Edge = swapped (state_edges weights steps blockeds latests g.count m) in
      let t : List ℕ = passes es k (base false latests start m) in pass es t ≡ t → entries latests t m g.count ≡ ends g F start g.count
  settled-ends start k h same =
      let es : List Edge = swapped (state_edges weights steps blockeds latests g.count m) in
      let t : List ℕ = base false latests start m in
      entries_are p.built p.table start h (Avoids-single bounded.long start) bounded.few bounded.short (passes es k t)
      (settled-final m es (within-swapped (weighted p.built p.table).within) t k same)
      g.count

-- The passes that are counted end with the first that changes none.
pub counted-first : {g : Graph} {end r : ℕ} (c : Counted g end r)
    → First (state_edges c.weights c.steps c.blockeds c.latests g.count c.m) (targets c.latests end c.m) r
counted-first {g} {end} c =
    let es = state_edges c.weights c.steps c.blockeds c.latests g.count c.m in
    let t = targets c.latests end c.m in
    subst (First es t) (sym c.passes-are) (made-first c.m es (weighted c.prepared.built c.prepared.table).within t)

module _ (s : List ℕ) (b : Book) (read : reading s ≡ accepted b) (paths : List ℕ) (area : area_size ≤ length paths) (runs : Valid b.count paths 0) (end r H : ℕ) (end-below : end < b.count) (c : Counted (graph b) end r) where
  -- A best line-up without known runs is a plan.
  plan-of : (start : ℕ) → start < b.count → (w : List ℕ) → Best (graph b) [] start end w → PlanTo s paths 0 start end (walked (weight_of (graph b) w) (hops w))
  unfolding blocks
  plan-of start below w best =
      let walk : List ℕ = replicate longest 0 in
      plan-to s b read paths 0 start area runs below end end-below walk (omega (arith, length-replicate {A = ℕ} longest 0)) (walked (weight_of (graph b) w) (hops w)) (w ++ drop (length w) walk)
      (record { walk = w; best = best; weight_is = refl; hops-is = refl; area-is = refl })

  pub few-by-plans : ((start litres changeovers : ℕ) → start < b.count → PlanTo s paths 0 start end (walked litres changeovers) → changeovers ≤ H) → r ≤ suc H
  few-by-plans few = few-passes c (λ start w below best. few start (weight_of (graph b) w) (hops w) below (plan-of start below w best))

  well : WellFormed b
  well = (reading-is-book s b read).well_formed

  -- The entry of a best line-up has its changeovers, which are far below the mark of none.
  pub few-by-tables : ((start : ℕ) → start < b.count → EntryWithin s b paths start end H) → r ≤ suc H
  few-by-tables few = few-passes c (λ start w below best.
      let e = few start below in
      let every = every_end s b read paths 0 start area runs below e.table e.room e.answer e.new e.filled in
      let is : get_or e.new (2 * end + 1) 0 ≡ hops w = ap (λ l. get_or l 1 0) (every.entry end end-below _ (plan-of start below w best)) in
      let (light, short) = best-numbers (graph b) [] start end well.few-vertices (omega arith) (λ x i. absurd (Memᴰ.not-nil i)) (book-weights b well) best in
      let within = e.few (λ none. omega arith) in
      omega arith)

-- A runs area without runs is valid.
abbrev blank : List ℕ
blank = replicate area_size 0

blank-valid : (n : ℕ) → Valid n blank 0
unfolding blocks once tables.entries
blank-valid n = record { few = omega arith; paths = tt; different = refl; bytes = take-replicate area_size area_size 0 (omega arith) }

-- The test never prints OVER: the tables whose most changeovers it prints are those of every start.
pub never-over : (s : List ℕ) (b : Book) → reading s ≡ accepted b → (end r : ℕ) → end < b.count → Counted (graph b) end r → r ≤ suc (most_from s b.count b.count)
never-over s b read end r end-below c =
    let few = (reading-is-book s b read).well_formed.few-vertices in
    few-by-tables s b read blank (omega (arith, length-replicate {A = ℕ} area_size 0)) (blank-valid b.count) end r (most_from s b.count b.count) end-below c
    (λ start below. record {
      table = replicate (2 * most_vertices) 0;
      room = omega (arith, few, length-replicate {A = ℕ} (2 * most_vertices) 0);
      answer = reached (reading s) blank 0 start (replicate (2 * most_vertices) 0);
      new = free_table s start;
      filled = (refl, refl);
      few = most_from-entry s b.count b.count start end below end-below;
    })
