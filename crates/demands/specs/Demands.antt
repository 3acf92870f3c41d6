-- The three demands (docs/RULES.md), sentence by sentence: each is a record with a part for each sentence, over the definitions that the contracts of the
-- operations name; and after the second demand what requests 1 to 6 add (02). A sentence that a comment has in quotation marks is the demand's, 02's in the part of a
-- request, or 01's where it says so. Theorems.antt proves them.
use Rattle.std.specs.Prelude
use Rattle.std.specs.Prelude.{ℕ, Bool, suc, ◌≤◌, ◌<◌, ◌+◌, ◌*◌, ◌≡◌, ◌⊎◌, ◌↔◌, ◌≢◌, true, false, map, length, drop, get_or, take, Option, Some, Result, Ok, Err}
use Rattle.planner.specs.Planning.{walked, Answer as Outcome}
use Rattle.trials.specs.Operations.{rejected}
use Rattle.walk_check.specs.declared.Occurrence.{Occurrence}
use mathlib.Core.List.{List, [], ◌∷◌, ◌++◌, flat_map, Permᴰ, Memᴰ}
use Rattle.std.proofs.Math.Option.{some}
use Rattle.lists.specs.Distinct.{Distinct}
use Rattle.limits.specs.Limits.{area_size, longest, longest_path, most_sets, most_paths}
use Rattle.dates.specs.declared.MonthDay.{MonthDay}
use Rattle.dates.specs.declared.Date.{Date}
use Rattle.dates.specs.declared.Window.{Window}
use Rattle.dates.specs.Dates.{month_day, is_date}
use Rattle.dates.specs.Calendar.{Months, LeapYear, IsDay, IsDate, Rising, Inside, InSeason, IsWindow, leap_day, day_after, Complements}
use Rattle.walks.specs.Graph.{Graph, Arc}
use Rattle.walks.specs.Walk.{Walk, weight_of, hops}
use Rattle.walks.specs.Avoid.{Occurs, Long, ◌⊆◌}
use Rattle.walks.specs.Order.{Lex, ◌≼⟨◌⟩◌}
use Rattle.walks.specs.Best.{Best, None}
use Rattle.walks.specs.Stutter.{Stutters, ButStutters}
use Rattle.states.specs.Chosen.{chosen}
use Rattle.distances.specs.Edge.{Edge, Within}
use Rattle.distances.specs.Table.{at, inf, pass, passes as after_passes, made}
use Rattle.distances.specs.Pack.{hops_limit, pack, Weighted, Targets, Answered}
use Rattle.distances.specs.Reverse.{swapped}
use Rattle.distances.specs.Made.{First, Short}
use Rattle.automaton.specs.Area.{Bounded}
use Rattle.product.specs.Product.{state_edges}
use Rattle.product.specs.Base.{base, targets}
use Rattle.routes.specs.Plan.{Prepared}
use Rattle.measuring.specs.Counted.{Counted}
use Rattle.pass_counts.specs.Most.{most_from}
use Rattle.book.specs.declared.Needs.{Needs}
use Rattle.book.specs.declared.Refusal.{Refusal}
use Rattle.book.specs.Refusal.{Test, number_of, place_of, refusals_in_order}
use Rattle.book.specs.Book.{Book, counts, graph, RuleSet, All, all_paths}
use Rattle.book.specs.Reading.{Reading, accepted, refused, reading, read_as, refusal_of}
use Rattle.book_bytes.specs.Bytes.{AreBytes, bytes_of, ProperNeeds, Keeps, longest_book}
use Rattle.content.specs.Content.{an_arc, a_set, a_path, cut, content}
use Rattle.writing.specs.Rising.{Rising as RisingArcs}
use Rattle.writing.specs.Contents.{set_list, book_items, arc_numbers, set_numbers, SetsSaid, Said, EndInArc, EndInSet, EndInPaths, CutArcs, CutSets, SameButOrder}
use Rattle.writing.specs.Writing.{bytes_in_order, write_tests, length_written, area_after as written_after, WritingOf}
use Rattle.rewriting.specs.Rewriting.{rewritten as rewrite}
use Rattle.text.specs.Text.{refusal_text}
use Rattle.rules.specs.Binding.{known}
use Rattle.rules.specs.Area.{spelled, written}
use Rattle.rules.specs.ValidLaws.{Valid}
use Rattle.rules.specs.Operations.{bind_tests, bound_as, binding, area_after}
use Rattle.walk_check.specs.Checking.{check_tests, checking}
use Rattle.planner.specs.Planning.{plan_tests, PlanningOf, Planning}
use Rattle.planner.specs.RuleSets.{SameGraph, Reordered}
use Rattle.ends.specs.Ends.{no_end, ends}
use Rattle.ends.specs.Least.{entries}
use Rattle.reach.specs.Reaching.{reach_tests, reached, table_after, Reaching}
use Rattle.book.specs.declared.Arc.{Arc as Listed}
use Rattle.rules.specs.declared.Batch.{Batch}
use Rattle.listed.specs.Listing.{listing}
use Rattle.listed.specs.SameBook.{arcs_of}
use Rattle.trial_record.specs.declared.Record.{Record}
use Rattle.trial_rules.specs.Trials.{Report, failed, Valid as ValidState, run, begin_tests, ForbiddenSet, overlaid, Plan, Planner, accepted as acceptedFrom, named, failures, passes, replanned}
use Rattle.judging.specs.Judging.{state_of, report_tests}
use Rattle.trials.specs.Operations.{first_state, beginning, reporting, answering, Leaves}
use Rattle.series.specs.Reports.{reports_of}
use Rattle.series.specs.Making.{replaying}
use Rattle.series.specs.Whole.{leaves_of, reports_on}
use Rattle.demands.specs.Conditions.{Condition, AllHold}
use Rattle.demands.specs.Asked.{plan_conditions, check_conditions, report_conditions, bind_conditions, reach_conditions, begin_conditions, write_conditions, Cause}
use Rattle.demands.specs.Fields.{BadBook, BadList, count_conditions, BadFrom, BadContent}
use Rattle.demands.specs.Marks.{Binds, OfSheet, Clear}
use Rattle.demands.specs.Calls.{AcceptedBegin, opening, answer_on, accepted_on, standing_in, TrueReport, TrueLab, HowMany, LabsOnly, LabSet, Free}

-- ==== Demand 1
-- ---- 'Every batch, start grade and end grade within it, with areas of the sizes set there, gets a line-up or the answer none.'
-- What the check answers for a walk: it is clear, or a path occurs in it.
abbrev pub ClearOrOccurs : Result (Option Occurrence) Refusal → Type 0
ClearOrOccurs c = (c ≡ Ok Prelude.None) ⊎ ((place : ℕ) × (size : ℕ) × (c ≡ Ok (Some (record { place = place; length = size }))))

abbrev pub WalkOrNone : Outcome → Type 0
WalkOrNone r = ((weight : ℕ) × (hops' : ℕ) × (r ≡ walked weight hops')) ⊎ (r ≡ Ok Prelude.None)

-- P says which answers planning gives and what the line-up area holds then: there is such an answer, and each is a walk or none.
pub record GetsPlan (P : Outcome → List ℕ → Type 0) : Type 0 where
  pub answered : (r : Outcome) × (new : List ℕ) × P r new
  pub each : (r : Outcome) (new : List ℕ) → P r new → WalkOrNone r

-- A book b, a batch, start and end; the runs area and the line-up area as lent.
pub record Answers (s : List ℕ) (b : Book) (batch : Batch) (start end : ℕ) (paths walk : List ℕ) : Type 0 where
  -- The book is read: the counts of grades, changeovers, sheets and runs are answered.
  pub read : read_as (reading s) ≡ Ok (counts b)
  -- Binding answers the count of known runs.
  pub bound : bound_as (binding s batch paths) ≡ Ok (length (known batch b.sets))
  -- Planning under what binding left answers a line-up or none ...
  pub planned : GetsPlan (Planning s (area_after (binding s batch paths) paths) (length (known batch b.sets)) start end walk)
  -- ... and so does planning from the book's changeovers as a list, in any order.
  pub planned_list : (n : ℕ) (xs : List Listed) → n ≡ b.count → Permᴰ b.arcs (arcs_of xs)
      → GetsPlan (PlanningOf (listing n xs) (area_after (binding s batch paths) paths) (length (known batch b.sets)) start end walk)
  -- The check of a line-up under what binding left answers that it is clear, or where a run stands.
  pub checked : (w : List ℕ) → length w ≤ longest → Walk (graph b) w
      → ClearOrOccurs (checking s (area_after (binding s batch paths) paths) (length (known batch b.sets)) w)
  -- Begin answers a record, and so does begin with any list of reports.
  pub begun : (r : Record) × ((beginning s batch start end paths walk).answer ≡ Ok r)
  pub replayed : (reports : List ℕ) → (r : Record) × ((replaying s batch start end reports paths walk).answer ≡ Ok r)
  -- Planning and the check answer under every valid runs area, not only under what binding left.
  pub planned-under : (count : ℕ) → Valid b.count paths count → GetsPlan (Planning s paths count start end walk)
  pub checked_under : (count : ℕ) → Valid b.count paths count → (w : List ℕ) → length w ≤ longest → Walk (graph b) w → ClearOrOccurs (checking s paths count w)

-- ---- 'Everything else gets its numbered refusal, under that refusal's stated condition and no other, and a refusal writes to no lent memory.'
-- What begin, and begin with a list of reports, are refused for.
abbrev pub tests_of_begin : Batch → ℕ → ℕ → List ℕ → List ℕ → Book → List Test
tests_of_begin batch start end paths walk b = begin_tests batch (graph b) start end paths walk

-- An operation answers with the refusal x exactly where the one definition of what it is refused for gives x; and that is where the book is refused
-- under x, or x has the number of the first condition that does not hold.
pub record Exactly (r : Reading) (tests : Book → List Test) (conditions : Book → List Condition) (x : Refusal) (answer : Type 0) : Type 0 where
  pub defined : answer ↔ (refusal_of r tests ≡ some x)
  pub cause : answer ↔ Cause r conditions x

pub record Refusals (s : List ℕ) (x : Refusal) : Type 0 where
  -- 'Everything else gets its numbered refusal, under that refusal's stated condition and no other.'
  -- A book, a list of changeovers and a content is refused for its first bad field or item.
  pub read : (read_as (reading s) ≡ Err x) ↔ (reading s ≡ refused x)
  pub read-cause : (reading s ≡ refused x) ↔ BadBook s x
  pub list_cause : (n : ℕ) (xs : List Listed) → (listing n xs ≡ refused x) ↔ BadList n xs x
  pub content_cause : (n : ℕ) (arcs sets : List ℕ) → (content n arcs sets ≡ refused x) ↔ BadContent n arcs sets x
  pub bind : (batch : Batch) (area : List ℕ) → Exactly (reading s) (bind_tests batch area) (bind_conditions batch area) x (bound_as (binding s batch area) ≡ Err x)
  pub check : (area : List ℕ) (count : ℕ) (w : List ℕ)
      → Exactly (reading s) (check_tests area count w) (check_conditions area count w) x (checking s area count w ≡ Err x)
  pub plan : (paths : List ℕ) (count start end : ℕ) (old : List ℕ) (r : Outcome) (new : List ℕ) → Planning s paths count start end old r new
      → Exactly (reading s) (plan_tests paths count start end old) (plan_conditions paths count start end old) x (r ≡ Err x)
  pub plan_list : (n : ℕ) (xs : List Listed) (paths : List ℕ) (count start end : ℕ) (old : List ℕ) (r : Outcome) (new : List ℕ)
      → PlanningOf (listing n xs) paths count start end old r new
      → Exactly (listing n xs) (plan_tests paths count start end old) (plan_conditions paths count start end old) x (r ≡ Err x)
  pub reach : (paths : List ℕ) (count start : ℕ) (table : List ℕ)
      → Exactly (reading s) (reach_tests paths count start table) (reach_conditions paths count start table) x (reached (reading s) paths count start table ≡ Err x)
  pub begin : (batch : Batch) (start end : ℕ) (paths walk : List ℕ)
      → Exactly (reading s) (tests_of_begin batch start end paths walk) (begin_conditions batch start end paths walk) x ((beginning s batch start end paths walk).answer ≡ Err x)
  pub replay : (batch : Batch) (start end : ℕ) (reports paths walk : List ℕ)
      → Exactly (reading s) (tests_of_begin batch start end paths walk) (begin_conditions batch start end paths walk) x
      ((replaying s batch start end reports paths walk).answer ≡ Err x)
  -- A report is passed, or failed with a named run.
  pub report : (q : Record) (paths walk : List ℕ) (ρ : Report)
      → Exactly (reading s) (report_tests q paths walk ρ) (report_conditions q paths walk ρ) x
      ((q' : Record) × ((reporting s q paths walk ρ).answer ≡ Err (rejected x q')))
  -- 02, order 6: 'It refuses with 18, after these, a lent area shorter than the exact bytes needed'.
  pub write : (n : ℕ) (arcs sets area : List ℕ)
      → Exactly (content n arcs sets) (write_tests area) (write_conditions area) x (length_written (content n arcs sets) area ≡ Err x)
  -- '.. and a refusal writes to no lent memory.' Reading and the check are lent none to write to. 01: it 'hands back as it came a record that the call took'.
  pub bind-keeps : (batch : Batch) (area : List ℕ) → bound_as (binding s batch area) ≡ Err x → area_after (binding s batch area) area ≡ area
  pub plan-keeps : (paths : List ℕ) (count start end : ℕ) (old : List ℕ) (r : Outcome) (new : List ℕ) → Planning s paths count start end old r new
      → r ≡ Err x → new ≡ old
  pub plan_list_keeps : (n : ℕ) (xs : List Listed) (paths : List ℕ) (count start end : ℕ) (old : List ℕ) (r : Outcome) (new : List ℕ)
      → PlanningOf (listing n xs) paths count start end old r new → r ≡ Err x → new ≡ old
  pub reach-keeps : (paths : List ℕ) (count start : ℕ) (table : List ℕ) → reached (reading s) paths count start table ≡ Err x
      → table_after (reading s) paths count start table ≡ table
  pub begin-keeps : (batch : Batch) (start end : ℕ) (paths walk : List ℕ) → (beginning s batch start end paths walk).answer ≡ Err x
      → beginning s batch start end paths walk ≡ answering (Err x) paths walk
  pub replay-keeps : (batch : Batch) (start end : ℕ) (reports paths walk : List ℕ) → (replaying s batch start end reports paths walk).answer ≡ Err x
      → replaying s batch start end reports paths walk ≡ answering (Err x) paths walk
  pub report-keeps : (q : Record) (paths walk : List ℕ) (ρ : Report) → (q' : Record) × ((reporting s q paths walk ρ).answer ≡ Err (rejected x q'))
      → reporting s q paths walk ρ ≡ answering (Err (rejected x q)) paths walk
  pub write-keeps : (n : ℕ) (arcs sets area : List ℕ) → length_written (content n arcs sets) area ≡ Err x → written_after (content n arcs sets) area ≡ area

-- ---- the demand
pub record Demand1 : Type 0 where
  -- 'Every book of changeovers and rule sheets that keeps the rules of document 01 is read': just these, each from one string of bytes, its own.
  pub read-exactly : (s : List ℕ) → AreBytes s → (b : Book) → (reading s ≡ accepted b) ↔ (Keeps b × (s ≡ bytes_of b))
  pub own-bytes : (b : Book) → Keeps b → AreBytes (bytes_of b)
  pub every_book : (b : Book) → Keeps b → reading (bytes_of b) ≡ accepted b
  pub one_string : (s t : List ℕ) → AreBytes s → AreBytes t → (b : Book) → reading s ≡ accepted b → reading t ≡ accepted b → s ≡ t
  -- 02: 'The longest book becomes 39,252 bytes'. There is one.
  pub no_longer : (s : List ℕ) (b : Book) → reading s ≡ accepted b → length s ≤ longest_book
  pub attained : (b : Book) × Keeps b × (length (bytes_of b) ≡ longest_book)
  -- '.. and every batch, start grade and end grade within it, with areas of the sizes set there, gets a line-up or the answer none.' 02: a batch has
  -- a date of the years 1900 to 2199.
  pub answered : (s : List ℕ) (b : Book) → reading s ≡ accepted b → (batch : Batch) → IsDate batch.date → (start end : ℕ) → start < b.count → end < b.count
      → (paths walk : List ℕ) → area_size ≤ length paths → longest ≤ length walk → Answers s b batch start end paths walk
  -- 'Everything else gets its numbered refusal, under that refusal's stated condition and no other, and a refusal writes to no lent memory.'
  pub else_refused : (s : List ℕ) → AreBytes s → ((x : Refusal) × (reading s ≡ refused x)) ↔ ((b : Book) → Keeps b → s ≡ bytes_of b → ⊥)
  pub refusals : (s : List ℕ) (x : Refusal) → Refusals s x
  -- Of the refusals only a book's carry a place (01: 1 to 6; 02: and 14): those of the other list, which are all the others, carry none.
  pub no_place : (x : Refusal) → Memᴰ x refusals_in_order → place_of x ≡ Prelude.None

-- ==== Demand 2
-- A line-up from start to end that contains no forbidden run of any sheet that binds the batch.
pub record Allowed (b : Book) (batch : Batch) (start end : ℕ) (w : List ℕ) : Type 0 where
  pub walk : Walk (graph b) w
  pub starts : get_or w 0 0 ≡ start
  pub ends : get_or w (hops w) 0 ≡ end
  pub clear : Clear b batch w

-- Where planning answers litres and changeovers, the line-up is the front of the area: a grade more than changeovers.
abbrev pub line_up : ℕ → List ℕ → List ℕ
line_up changeovers new = take (suc changeovers) new

pub record Shortest (b : Book) (batch : Batch) (start end : ℕ) (old : List ℕ) (litres changeovers : ℕ) (new : List ℕ) : Type 0 where
  -- 'it contains no forbidden run of any sheet that binds the batch'; and it is a line-up from start to end
  pub allowed : Allowed b batch start end (line_up changeovers new)
  pub litres_are : litres ≡ weight_of (graph b) (line_up changeovers new)
  pub changeovers_are : changeovers ≡ hops (line_up changeovers new)
  -- 'every other such line-up loses at least as many litres to slop'
  pub least : (v : List ℕ) → Allowed b batch start end v → litres ≤ weight_of (graph b) v
  -- 'ties fall as 01 says': of those with the least litres, the fewest changeovers; of these, the one whose first differing grade is the lower
  pub fewest : (v : List ℕ) → Allowed b batch start end v → weight_of (graph b) v ≡ litres → changeovers ≤ hops v
  pub lowest : (v : List ℕ) → Allowed b batch start end v → weight_of (graph b) v ≡ litres → hops v ≡ changeovers → Lex (line_up changeovers new) v
  -- (all three as 01's one order)
  pub ordered : (v : List ℕ) → Allowed b batch start end v → line_up changeovers new ≼⟨ graph b ⟩ v
  -- 01: 'A plan has at most 1,600 grades, a byte each in the area; bytes after it are untouched.'
  pub short : length (line_up changeovers new) ≤ longest
  pub untouched : drop (suc changeovers) new ≡ drop (suc changeovers) old
  pub same_length : length new ≡ length old

-- What planning answers and leaves, for a batch.
pub record Plans (b : Book) (batch : Batch) (start end : ℕ) (old : List ℕ) (r : Outcome) (new : List ℕ) : Type 0 where
  -- The answer is a line-up or none, never a refusal.
  pub answer : WalkOrNone r
  -- A line-up is the shortest of those that are allowed.
  pub shortest : (litres changeovers : ℕ) → r ≡ walked litres changeovers → Shortest b batch start end old litres changeovers new
  -- 'none is the answer exactly when no such line-up exists'
  pub none-exactly : (r ≡ Ok Prelude.None) ↔ ((v : List ℕ) → Allowed b batch start end v → ⊥)
  -- 01: 'If there is none, .. the line-up area is untouched.'
  pub none-untouched : r ≡ (Ok Prelude.None) → new ≡ old

-- Binding for a batch, and planning under the count that it answered and the runs area as it left it.
pub record BatchPlans (s : List ℕ) (b : Book) (batch : Batch) (area : List ℕ) (known' start end : ℕ) (old : List ℕ) : Type 0 where
  -- There is an answer, and only one, with one set of bytes.
  pub answered : (r : Outcome) × (new : List ℕ) × Planning s (area_after (binding s batch area) area) known' start end old r new
  pub one : (r r' : Outcome) (new new' : List ℕ) → Planning s (area_after (binding s batch area) area) known' start end old r new
      → Planning s (area_after (binding s batch area) area) known' start end old r' new' → (r ≡ r') × (new ≡ new')
  -- What it is.
  pub plans : (r : Outcome) (new : List ℕ) → Planning s (area_after (binding s batch area) area) known' start end old r new → Plans b batch start end old r new
  -- So is a plan from the book's changeovers as a list.
  pub plans_list : (n : ℕ) (xs : List Listed) → n ≡ b.count → Permᴰ b.arcs (arcs_of xs) → (r : Outcome) (new : List ℕ)
      → PlanningOf (listing n xs) (area_after (binding s batch area) area) known' start end old r new → Plans b batch start end old r new
  -- 01: 'A sheet that needs 0 binds every batch.' 02: if it has no window.
  pub needs_0 : (set : RuleSet) → set.needs.flags ≡ 0 → set.needs.window ≡ Prelude.None → Binds set batch

-- Two begins leave the same trials: equal answers and line-up areas; and where it is a record, runs areas with the same runs, in another order
-- perhaps, and the same bytes after them.
pub record SameTrials (l l' : Leaves (Result Record Refusal)) : Type 0 where
  pub answers : l.answer ≡ l'.answer
  pub walks : l.walk ≡ l'.walk
  pub runs : (r : Record) → l.answer ≡ Ok r → (spelled r.known l.paths ⊆ spelled r.known l'.paths) × (spelled r.known l'.paths ⊆ spelled r.known l.paths)
  pub beyond : drop area_size l.paths ≡ drop area_size l'.paths

-- Of the bytes of two books: equal plans and tables of ends.
pub record SamePlans (s s' : List ℕ) : Type 0 where
  -- For every batch, start and end, and every line-up area, refusals included.
  pub plans : (batch : Batch) (area area' : List ℕ) → area_size ≤ length area → area_size ≤ length area'
      → (n n' : ℕ) → bound_as (binding s batch area) ≡ Ok n → bound_as (binding s' batch area') ≡ Ok n'
      → (start end : ℕ) (old : List ℕ) (r r' : Outcome) (new new' : List ℕ)
      → Planning s (area_after (binding s batch area) area) n start end old r new
      → Planning s' (area_after (binding s' batch area') area') n' start end old r' new'
      → (r ≡ r') × (new ≡ new')
  -- The table of every end, of every length, refusals included.
  pub tables : (batch : Batch) (area area' : List ℕ) → area_size ≤ length area → area_size ≤ length area'
      → (n n' : ℕ) → bound_as (binding s batch area) ≡ Ok n → bound_as (binding s' batch area') ≡ Ok n'
      → (start : ℕ) (table : List ℕ)
      → (reached (reading s) (area_after (binding s batch area) area) n start table ≡ reached (reading s') (area_after (binding s' batch area') area') n' start table)
      × (table_after (reading s) (area_after (binding s batch area) area) n start table ≡ table_after (reading s') (area_after (binding s' batch area') area') n' start table)

-- ... and with them as many known runs, and the same trials.
pub record SameAnswers (s s' : List ℕ) : Type 0 where
  pub counts : (batch : Batch) (area area' : List ℕ) → area_size ≤ length area → area_size ≤ length area' → bound_as (binding s batch area) ≡ bound_as (binding s' batch area')
  pub planning : SamePlans s s'
  pub trials : (batch : Batch) (start end : ℕ) (paths walk : List ℕ) → SameTrials (beginning s batch start end paths walk) (beginning s' batch start end paths walk)

-- ---- the demand
pub record Demand2 : Type 0 where
  -- 'A plan under the known runs that binding gives is a shortest path avoiding forbidden subpaths': n is the count that binding answered.
  pub plan : (s : List ℕ) (b : Book) → reading s ≡ accepted b → (batch : Batch) (area : List ℕ) → area_size ≤ length area
      → (n : ℕ) → bound_as (binding s batch area) ≡ Ok n → (start end : ℕ) → start < b.count → end < b.count → (old : List ℕ) → longest ≤ length old
      → BatchPlans s b batch area n start end old
  -- 'Two accepted books that differ only in the order of their sheets give equal plans.' Of what is read, and of the books' bytes.
  pub order-of_sheets : (s t : List ℕ) (b c : Book) → reading s ≡ accepted b → reading t ≡ accepted c → Reordered b c → SameAnswers s t
  pub order_in_bytes : (b c : Book) → Keeps b → Keeps c → Reordered b c → SameAnswers (bytes_of b) (bytes_of c)

-- ==== Every end from one start (02, order 1)
-- What planning to an end says, as the two numbers of an entry.
abbrev pub entry_for : Outcome → List ℕ
entry_for (Ok (Some found)) = found.weight ∷ found.hops ∷ []
entry_for (Ok Prelude.None) = no_end ∷ no_end ∷ []
entry_for (Err x) = []

-- The entry of an end in a table.
abbrev pub entry_at : List ℕ → ℕ → List ℕ
entry_at table end = get_or table (2 * end) 0 ∷ get_or table (2 * end + 1) 0 ∷ []

-- A plan to that end: in some line-up area that fits, planning answers r.
pub record PlanTo (s paths : List ℕ) (count start end : ℕ) (r : Outcome) : Type 0 where
  pub walk : List ℕ
  pub fits : longest ≤ length walk
  pub new : List ℕ
  pub planned : Planning s paths count start end walk r new

-- What the call answers, and the table after it.
pub record EveryEnd (s : List ℕ) (b : Book) (paths : List ℕ) (count start : ℕ) (table : List ℕ) (r : Result ℕ Refusal) (new : List ℕ) : Type 0 where
  -- The answer is the number of grades.
  pub answer : r ≡ Ok b.count
  -- 'Each entry must equal what a single plan to that grade would say': in every line-up area that fits, and planning answers in each.
  pub entry : (end : ℕ) → end < b.count → (p : Outcome) → PlanTo s paths count start end p → entry_at new end ≡ entry_for p
  pub planned : (end : ℕ) → end < b.count → (walk : List ℕ) → longest ≤ length walk → GetsPlan (Planning s paths count start end walk)
  -- 'none is the greatest 32-bit number in both': and nothing else is, in either.
  pub none_first : (end : ℕ) → end < b.count → (get_or new (2 * end) 0 ≡ no_end) ↔ PlanTo s paths count start end (Ok Prelude.None)
  pub none-second : (end : ℕ) → end < b.count → (get_or new (2 * end + 1) 0 ≡ no_end) ↔ PlanTo s paths count start end (Ok Prelude.None)
  -- '.. the start itself with 0 and 0.'
  pub start-entry : entry_at new start ≡ 0 ∷ 0 ∷ []
  -- 'Further entries are untouched', and a number after them.
  pub untouched : drop (2 * b.count) new ≡ drop (2 * b.count) table
  pub same_length : length new ≡ length table

pub record Order1 : Type 0 where
  -- Under every valid runs area; what is refused else is in demand 1 (`Refusals`).
  pub every_end : (s : List ℕ) (b : Book) → reading s ≡ accepted b → (paths : List ℕ) (count start : ℕ) → area_size ≤ length paths → Valid b.count paths count → start < b.count
      → (table : List ℕ) → 2 * b.count ≤ length table → (r : Result ℕ Refusal) (new : List ℕ) → Reaching (reading s) paths count start table r new
      → EveryEnd s b paths count start table r new
  -- So under the known runs that binding gives, where n is the count that it answered.
  pub batch : (s : List ℕ) (b : Book) → reading s ≡ accepted b → (batch : Batch) (area : List ℕ) → area_size ≤ length area → (n : ℕ) → bound_as (binding s batch area) ≡ Ok n
      → (start : ℕ) → start < b.count → (table : List ℕ) → 2 * b.count ≤ length table
      → (r : Result ℕ Refusal) (new : List ℕ) → Reaching (reading s) (area_after (binding s batch area) area) n start table r new
      → EveryEnd s b (area_after (binding s batch area) area) n start table r new

-- ==== Runs that come back to a grade (02, order 2)
-- Two to eight grades below the count: all that the rules ask of a run. Said apart from `IsPath`, so that what is proved of it does not follow a test that `IsPath` might get.
abbrev pub IsRun : ℕ → List ℕ → Type 0
IsRun count r = (2 ≤ length r) × (length r ≤ longest_path) × All (λ v. v < count) r

-- A report on this record and these areas is refused for nothing before 11 (`report_conditions`) ...
pub record InOrder (b : Book) (q : Record) (paths walk : List ℕ) : Type 0 where
  pub paths-fit : area_size ≤ length paths
  pub walk-fits : longest ≤ length walk
  pub runs : Valid b.count paths q.known
  pub state : ValidState (graph b) (state_of q paths walk)

-- ... and a failed one for nothing that comes before the run that it names.
abbrev pub Tried : Book → Record → List ℕ → List ℕ → Type 0
Tried b q paths walk = InOrder b q paths walk × (q.stage ≡ 0)

-- The same grades and changeovers; and each run of the one's binding sheets is one of the other's, or names a grade twice in succession.
pub record ButStutteringRuns (b c : Book) : Type 0 where
  pub same : SameGraph b c
  pub to : (batch : Batch) (r : List ℕ) → OfSheet b batch r → OfSheet c batch r ⊎ Stutters r
  pub from : (batch : Batch) (r : List ℕ) → OfSheet c batch r → OfSheet b batch r ⊎ Stutters r

pub record Order2 : Type 0 where
  -- 'A run may name a grade more than once, in a sheet and from the lab. .. Refusals 4, 9 and 12 no longer turn on a grade named twice.' A book is
  -- read with any runs in its sheets; a runs area holds any different runs; and from the lab any is accepted that stands in the line-up, while there is room.
  pub in_sheets : (b : Book) → Keeps b → (sets : List RuleSet) → length sets ≤ most_sets → All (λ s. ProperNeeds s.needs) sets → length (all_paths sets) ≤ most_paths
      → All (IsRun b.count) (all_paths sets)
      → let c : Book = record { count = b.count; arcs = b.arcs; sets = sets } in reading (bytes_of c) ≡ accepted c
  pub in_area : (count : ℕ) (F : List (List ℕ)) → length F ≤ most_paths → Distinct F → All (IsRun count) F → (beyond : List ℕ) → Valid count (written F ++ beyond) (length F)
  pub from_lab : (s : List ℕ) (b : Book) → reading s ≡ accepted b → (q : Record) (paths walk : List ℕ) → Tried b q paths walk → q.known < most_paths
      → (r : List ℕ) → 2 ≤ length r → length r ≤ longest_path → Occurs r (take q.length walk)
      → (q' : Record) × ((reporting s q paths walk (failed r)).answer ≡ Ok q')
  -- Binding writes the runs of the binding sheets, whatever grades they name again: just these, each once, and as many as it answers.
  pub bound : (s : List ℕ) (b : Book) → reading s ≡ accepted b → (batch : Batch) (area : List ℕ) → area_size ≤ length area → (n : ℕ) → bound_as (binding s batch area) ≡ Ok n
      → (runs : HowMany (OfSheet b batch) n) × (runs.listed ≡ spelled n (area_after (binding s batch area) area))
  -- 'A run may also name the same grade twice in succession, and then it never occurs.'
  pub never-occurs : (s : List ℕ) (b : Book) → reading s ≡ accepted b → (r : List ℕ) → Stutters r → (w : List ℕ) → Walk (graph b) w → Occurs r w → ⊥
  -- So the best line-up is the same with it and without it, and so is that there is none ...
  pub best : (s : List ℕ) (b : Book) → reading s ≡ accepted b → (F G : List (List ℕ)) → ButStutters F G → ButStutters G F → (start end : ℕ) (w : List ℕ)
      → Best (graph b) F start end w ↔ Best (graph b) G start end w
  pub none : (s : List ℕ) (b : Book) → reading s ≡ accepted b → (F G : List (List ℕ)) → ButStutters F G → ButStutters G F → (start end : ℕ)
      → None (graph b) F start end ↔ None (graph b) G start end
  -- ... and so are plans and tables of ends, for every batch.
  pub plans : (s t : List ℕ) (b c : Book) → reading s ≡ accepted b → reading t ≡ accepted c → ButStutteringRuns b c → SamePlans s t
  -- From the lab it is refused under 12, like any other run by the rules that does not stand.
  pub never-named : (s : List ℕ) (b : Book) → reading s ≡ accepted b → (q : Record) (paths walk : List ℕ) → Tried b q paths walk → (r : List ℕ) → IsRun b.count r → Stutters r
      → (x : Refusal) × (number_of x ≡ 12) × (reporting s q paths walk (failed r) ≡ answering (Err (rejected x q)) paths walk)

-- ==== Passes that end with the first that changes none (02, order 3)
-- Distances are worked out in passes over all edges of a graph of states. An entry is litres and changeovers in one number (`pack`), or `inf` while no path is known, so
-- that a pass which changes neither leaves the table as it is. `pass es t` is the table after a pass: over every edge of es once, each from the table t alone.
-- `after_passes es k t` is that after k passes. In a graph of n states the contracts of `sweeps::distances` and `measuring::Work::measure`, through which planning and
-- the table of ends work their distances out, answer `made es n t` as the number of passes; and by the same contracts the table that is left is that after n passes.

-- What a distance is, under the forbidden runs F: litres and changeovers of the best line-up, or that there is none. Changeovers are below the limit of packing, and the
-- number below `inf`, so that it tells which of the two, and both can be read off it.
abbrev pub IsDistance : Graph → List (List ℕ) → ℕ → ℕ → ℕ → Type 0
IsDistance g F start end d =
    ((w : List ℕ) × Best g F start end w × (d ≡ pack (weight_of g w) (hops w)) × (hops w < hops_limit) × (d < inf))
    ⊎ ((d ≡ inf) × None g F start end)

-- A table of ends is filled from start without known runs, and its entry of this end is none or has at most H changeovers.
pub record EntryWithin (s : List ℕ) (b : Book) (paths : List ℕ) (start end H : ℕ) : Type 0 where
  pub table : List ℕ
  pub room : 2 * b.count ≤ length table
  pub answer : Result ℕ Refusal
  pub new : List ℕ
  pub filled : Reaching (reading s) paths 0 start table answer new
  pub few : get_or new (2 * end + 1) 0 ≢ no_end → get_or new (2 * end + 1) 0 ≤ H

pub record Order3 : Type 0 where
  -- 'distances shall be worked out in passes over the whole book, ending at the latest after the first pass that changes none, in litres or in changeovers': the last
  -- pass that is made is the first that changes none ...
  pub first : (n : ℕ) (es : List Edge) → Within n es → (t : List ℕ) → First es t (made es n t)
  -- ... also of those that `Counted` counts, to an end without known runs, and whatever the tables they are as many ...
  pub counted : {g : Graph} {end r : ℕ} (c : Counted g end r)
      → First (state_edges c.weights c.steps c.blockeds c.latests g.count c.m) (targets c.latests end c.m) r
  pub one : {g : Graph} {end r r' : ℕ} → Counted g end r → Counted g end r' → r ≡ r'
  -- ... and it leaves the same table as a pass for each state, which is why the contract of measuring names the table that it named: 'Every plan, tie and refusal is as
  -- before', by the contracts of planning and of the table of ends, which stand unchanged.
  pub enough : (n : ℕ) (es : List Edge) → Within n es → (t : List ℕ) → after_passes es (made es n t) t ≡ after_passes es n t
  -- 'Proved is that where a pass changes none, each distance is already the least, litres first, then changeovers': of each state, over its paths of any length to a
  -- target (`Weighted`: in a graph of at most 2,048 states, with at most 1,000,000 litres an edge) ...
  pub settled : {n : ℕ} {es : List Edge} {weight : Edge → ℕ} → Weighted n es weight → (base : List ℕ) → Targets base
      → (k : ℕ) → let t : List ℕ = after_passes es k base in pass es t ≡ t → (q : ℕ) → q < n → Answered es weight base q (at t q)
  -- ... and of each start, over the line-ups to an end, whatever runs are forbidden.
  pub settled-plans : {g : Graph} {F : List (List ℕ)} {m : ℕ} {weights steps blockeds latests : List ℕ}
      → Prepared g F g.count m weights steps blockeds latests → Long F → (end k : ℕ)
      → let es : List Edge = state_edges weights steps blockeds latests g.count m in
      let t : List ℕ = after_passes es k (targets latests end m) in pass es t ≡ t → (start : ℕ) → start < g.count → IsDistance g F start end (at t start)
  -- The table of request 1 goes by passes from a start, over the edges the other way round: where one of these changes none, the litres and changeovers that are read
  -- off the distances are already those of the plans to each grade, or none.
  pub settled-ends : {g : Graph} {F : List (List ℕ)} {m : ℕ} {weights steps blockeds latests : List ℕ}
      → Prepared g F g.count m weights steps blockeds latests → Bounded g.count F → (start k : ℕ) → start < g.count
      → let es : List Edge = swapped (state_edges weights steps blockeds latests g.count m) in
      let t : List ℕ = after_passes es k (base false latests start m) in pass es t ≡ t → entries latests t m g.count ≡ ends g F start g.count
  -- 'A test counts the passes: without known runs, at most one more than the most changeovers of a plan between any two grades.' H need only bound the plans to the end
  -- of the distances. In any graph: where every state has a least path with at most H edges ...
  pub few : (n : ℕ) (es : List Edge) → Within n es → (base : List ℕ) (H : ℕ) → Short H n es base → made es n base ≤ suc H
  -- ... in a graph of grades: where the best line-ups to the end have at most H changeovers ...
  pub best : {g : Graph} {end r H : ℕ} → Counted g end r
      → ((start : ℕ) (w : List ℕ) → start < g.count → Best g [] start end w → hops w ≤ H) → r ≤ suc H
  -- ... in a book: where every plan to the end has at most H, by the contract of planning ...
  pub plans : (s : List ℕ) (b : Book) → reading s ≡ accepted b → (paths : List ℕ) → area_size ≤ length paths → Valid b.count paths 0
      → (end r H : ℕ) → end < b.count → Counted (graph b) end r
      → ((start litres changeovers : ℕ) → start < b.count → PlanTo s paths 0 start end (walked litres changeovers) → changeovers ≤ H) → r ≤ suc H
  -- ... or every entry of the end, by that of request 1, which the test calls.
  pub tables : (s : List ℕ) (b : Book) → reading s ≡ accepted b → (paths : List ℕ) → area_size ≤ length paths → Valid b.count paths 0
      → (end r H : ℕ) → end < b.count → Counted (graph b) end r
      → ((start : ℕ) → start < b.count → EntryWithin s b paths start end H) → r ≤ suc H
  -- ... so with the number that the test program counts as the most changeovers (`most_from`): there is never more than one pass over it.
  pub test : (s : List ℕ) (b : Book) → reading s ≡ accepted b → (end r : ℕ) → end < b.count → Counted (graph b) end r → r ≤ suc (most_from s b.count b.count)

-- ==== Sheets with a season (02, order 4)
-- A sheet without its window.
abbrev pub always : RuleSet → RuleSet
always set = record { needs = record { flags = set.needs.flags; window = Prelude.None }; paths = set.paths }

-- '.. schedulers now add and remove it by the calendar': the sheets of the one list that are in season on a day, without their windows, are the other list.
pub data ByHand (day : MonthDay) : List RuleSet → List RuleSet → Type 0 where
  no_more : ByHand day [] []
  added : {set : RuleSet} {sets sets' : List RuleSet} → InSeason set.needs.window day → ByHand day sets sets' → ByHand day (set ∷ sets) (always set ∷ sets')
  removed : {set : RuleSet} {sets sets' : List RuleSet} → (InSeason set.needs.window day → ⊥) → ByHand day sets sets' → ByHand day (set ∷ sets) sets'

-- Of the bytes of two books, each with a batch: binding, planning, the table of ends, the check and the trials answer the same and leave the same bytes, refusals included.
pub record SameBatches (s : List ℕ) (batch : Batch) (s' : List ℕ) (batch' : Batch) : Type 0 where
  pub bound : (area : List ℕ) → bound_as (binding s batch area) ≡ bound_as (binding s' batch' area)
  pub left : (area : List ℕ) → area_after (binding s batch area) area ≡ area_after (binding s' batch' area) area
  pub plans : (area : List ℕ) (count start end : ℕ) (old : List ℕ) (r : Outcome) (new : List ℕ) → Planning s area count start end old r new ↔ Planning s' area count start end old r new
  pub tables : (area : List ℕ) (count start : ℕ) (table : List ℕ)
      → (reached (reading s) area count start table ≡ reached (reading s') area count start table) × (table_after (reading s) area count start table ≡ table_after (reading s') area count start table)
  pub checks : (area : List ℕ) (count : ℕ) (w : List ℕ) → checking s area count w ≡ checking s' area count w
  pub begun : (start end : ℕ) (paths walk : List ℕ) → beginning s batch start end paths walk ≡ beginning s' batch' start end paths walk
  pub reports : (q : Record) (paths walk : List ℕ) (ρ : Report) → reporting s q paths walk ρ ≡ reporting s' q paths walk ρ
  pub replayed : (start end : ℕ) (reports paths walk : List ℕ) → replaying s batch start end reports paths walk ≡ replaying s' batch' start end reports paths walk

-- The days of a year, as dates that a batch may have, in their order; and how many.
pub record DatesOf (year n : ℕ) : Type 0 where
  pub days : List MonthDay
  pub each : (d : MonthDay) → Memᴰ d days ↔ IsDate (record { day = d.day; month = d.month; year = year })
  pub rising : Rising days
  pub number : length days ≡ n

-- From 29 February to 29 February.
abbrev pub from_leap_day : Window
from_leap_day = record { first = leap_day; last = leap_day }

pub record Order4 : Type 0 where
  -- 'A sheet field may have length 6', 14 and 15, and the longest book are in demand 1 (`read-exactly`, `refusals`, `no_longer` and `attained`): 14 stands between 4 and 5
  -- in the conditions of a field (`field_conditions`), 15 last in those of binding, after 8, and of begin, after 8 and 7 (`bind_conditions`, `begin_conditions`). What `plan` and
  -- `board` read stands in the contracts of `answer` and `board`, and the listing in `examples` (`listing_printed`).
  -- 'A batch has a date of the Gregorian calendar, years 1900 to 2199': the test of 15 takes just these, so that a leap year has 366 days and another 365.
  pub dates : (d : Date) → (is_date d ≡ true) ↔ IsDate d
  -- The days of each month; and 'a window edge that no year has' (14): a leap year has each day that some year has.
  pub months : (leap : Bool) → Months leap
  pub edges : (d : MonthDay) → IsDay true d ↔ ((year : ℕ) × IsDate (record { day = d.day; month = d.month; year = year }))
  pub leap_years : (year : ℕ) → 1900 ≤ year → year ≤ 2199 → LeapYear year → DatesOf year 366
  pub other-years : (year : ℕ) → 1900 ≤ year → year ≤ 2199 → (LeapYear year → ⊥) → DatesOf year 365
  -- 15 is the refusal of any other date, where all that is asked before it holds.
  pub no_date_bound : (s : List ℕ) (b : Book) → reading s ≡ accepted b → (batch : Batch) → (IsDate batch.date → ⊥) → (area : List ℕ) → area_size ≤ length area
      → (x : Refusal) × (number_of x ≡ 15) × (bound_as (binding s batch area) ≡ Err x)
  pub no_date-begun : (s : List ℕ) (b : Book) → reading s ≡ accepted b → (batch : Batch) → (IsDate batch.date → ⊥) → (start end : ℕ) → start < b.count → end < b.count
      → (paths walk : List ℕ) → area_size ≤ length paths → longest ≤ length walk
      → (x : Refusal) × (number_of x ≡ 15) × (beginning s batch start end paths walk ≡ answering (Err x) paths walk)
  -- 'Both days count. A window whose last day comes before its first runs over the year's end' (`Inside`); 'equal days make one day'.
  pub both_days : (w : Window) → Inside w w.first × Inside w w.last
  pub one_day : (w : Window) → w.first ≡ w.last → (d : MonthDay) → Inside w d ↔ (d ≡ w.first)
  -- A window that begins on the day after its end is the whole year.
  pub whole_year : (w : Window) → IsWindow w → day_after w.last ≡ w.first → (d : MonthDay) → IsDay true d → Inside w d
  -- Where each of two windows begins on the day after the other ends, every day lies in one of them and no day in both. They are two, and begin on different days: a window
  -- of the whole year has no complement.
  pub one_of_two : (v w : Window) → IsWindow v → IsWindow w → Complements v w → (d : MonthDay) → IsDay true d
      → (Inside v d × (Inside w d → ⊥)) ⊎ ((Inside v d → ⊥) × Inside w d)
  -- '29 February is a valid edge': a window from it to it holds on no day of a year that is no leap year.
  pub leap_day_alone : IsWindow from_leap_day × ((d : MonthDay) → IsDay false d → Inside from_leap_day d → ⊥)
  -- 'A sheet binds when the batch has the marks that it needs and the date lies in its window, if it has one': the known runs are those of the sheets that bind.
  pub known-runs : (b : Book) (batch : Batch) (r : List ℕ) → Memᴰ r (known batch b.sets) ↔ OfSheet b batch r
  -- What the window does is what schedulers do by hand: the book with the sheets of the day, without their windows, gives the same under the same marks on any date.
  pub by_hand : (s s' : List ℕ) (b c : Book) → reading s ≡ accepted b → reading s' ≡ accepted c → SameGraph b c
      → (batch batch' : Batch) → IsDate batch.date → IsDate batch'.date → batch.flags ≡ batch'.flags → ByHand (month_day batch.date) b.sets c.sets
      → SameBatches s batch s' batch'
  -- So the date decides nothing in a book without windows.
  pub no_windows : (s : List ℕ) (b : Book) → reading s ≡ accepted b → All (λ set. set.needs.window ≡ Prelude.None) b.sets
      → (batch batch' : Batch) → IsDate batch.date → IsDate batch'.date → batch.flags ≡ batch'.flags → SameBatches s batch s batch'

-- ==== Tell the lab what was off (02, order 5)
-- A report that names the run r as failed is refused under the number n; the record comes back as it was, and nothing is written.
abbrev pub RefusedUnder : ℕ → List ℕ → Record → List ℕ → List ℕ → List ℕ → Type 0
RefusedUnder n s q paths walk r = (x : Refusal) × (number_of x ≡ n) × (reporting s q paths walk (failed r) ≡ answering (Err (rejected x q)) paths walk)

-- What a lab is told of the run r that it names, where nothing comes before it (`Tried`).
pub record Told (s : List ℕ) (b : Book) (q : Record) (paths walk r : List ℕ) : Type 0 where
  -- 'It refuses with 16 a named run of under 2 or over 8 grades, ..'
  pub size : RefusedUnder 16 s q paths walk r ↔ ((length r < 2) ⊎ (8 < length r))
  -- '.. then with 17 one with a grade not below the count, ..'
  pub grade : RefusedUnder 17 s q paths walk r ↔ ((2 ≤ length r) × (length r ≤ 8) × (v : ℕ) × Memᴰ v r × (b.count ≤ v))
  -- '.. both just before 12.' '12 keeps only a proper run that isn't in the standing line-up.'
  pub elsewhere : RefusedUnder 12 s q paths walk r ↔ (IsRun b.count r × (Occurs r (take q.length walk) → ⊥))
  -- 13 comes after them, and is for what it was for.
  pub full : RefusedUnder 13 s q paths walk r ↔ (IsRun b.count r × Occurs r (take q.length walk) × (256 ≤ q.known))
  -- 12 was for every run that is not by the rules or does not stand; now one of the three is ...
  pub together : (RefusedUnder 16 s q paths walk r ⊎ RefusedUnder 17 s q paths walk r ⊎ RefusedUnder 12 s q paths walk r)
      ↔ (IsRun b.count r × Occurs r (take q.length walk) → ⊥)
  -- ... there is no other number, and what was accepted is accepted.
  pub no_other : (n : ℕ) → RefusedUnder n s q paths walk r → Memᴰ n (16 ∷ 17 ∷ 12 ∷ 13 ∷ [])
  pub taken : ((q' : Record) × ((reporting s q paths walk (failed r)).answer ≡ Ok q')) ↔ (IsRun b.count r × Occurs r (take q.length walk) × (q.known < 256))

pub record Order5 : Type 0 where
  pub told : (s : List ℕ) (b : Book) → reading s ≡ accepted b → (q : Record) (paths walk : List ℕ) → Tried b q paths walk → (r : List ℕ) → Told s b q paths walk r
  -- A run that is known already is by the rules and does not stand in the line-up: 12.
  pub known : (s : List ℕ) (b : Book) → reading s ≡ accepted b → (q : Record) (paths walk : List ℕ) → Tried b q paths walk → (r : List ℕ) → Memᴰ r (spelled q.known paths)
      → RefusedUnder 12 s q paths walk r
  -- 11 comes before all of them: after the trials it is told of any run.
  pub over : (s : List ℕ) (b : Book) → reading s ≡ accepted b → (q : Record) (paths walk : List ℕ) → InOrder b q paths walk → q.stage ≢ 0
      → (r : List ℕ) → RefusedUnder 11 s q paths walk r

-- ==== Writing books (02, order 6)
-- 'From a count of grades, changeovers and sheets with their windows and runs', in numbers: they say the content of b where the count is b's, and the others are
-- the numbers of its changeovers and of its sheets, each with its window and its runs (`Said`, which is told with no parser).
abbrev pub Says : ℕ → List ℕ → List ℕ → Book → Type 0
Says n arcs sets b = (n ≡ b.count) × Said b arcs sets

-- 'the book is written with changeovers in rising order of from, then to, sheets and runs as given'
pub record InRisingOrder (b written : Book) : Type 0 where
  pub count_is : written.count ≡ b.count
  pub sets_are : written.sets ≡ b.sets
  pub rising : RisingArcs written.arcs
  pub permuted : Permᴰ b.arcs written.arcs

-- What is answered and left in the area where numbers say b and are taken.
pub record BookWritten (b : Book) (area : List ℕ) (r : Result ℕ Refusal) (new : List ℕ) : Type 0 where
  pub written : Book
  pub ordered : InRisingOrder b written
  -- '.. a sheet without a window in the short form' (`bytes_of`). 'The answer is the book's length, and bytes after it are untouched.'
  pub answer : r ≡ Ok (length (bytes_of written))
  pub bytes : take (length (bytes_of written)) new ≡ bytes_of written
  pub untouched : drop (length (bytes_of written)) new ≡ drop (length (bytes_of written)) area
  pub same_length : length new ≡ length area
  -- 'Reading it yields the same content with the changeovers so ordered.'
  pub read : reading (take (length (bytes_of written)) new) ≡ accepted written
  -- Order 4: the longest book.
  pub no_longer : length (bytes_of written) ≤ longest_book

-- What the program `rewrite` writes for the bytes of a book b.
pub record Anew (b : Book) (new : List ℕ) : Type 0 where
  pub written : Book
  pub ordered : InRisingOrder b written
  pub bytes : new ≡ bytes_of written
  pub read : reading new ≡ accepted written

pub record Order6 : Type 0 where
  -- Of the refusals of a content, with their indices, and of 18, demand 1 has parts (`refusals`: `content_cause`, `write` and `write-keeps`). Numbers are taken where
  -- they say a book that keeps the rules, and just there.
  pub taken : (n : ℕ) (arcs sets : List ℕ) (b : Book) → (content n arcs sets ≡ accepted b) ↔ (Keeps b × Says n arcs sets b)
  -- Every book is said by numbers, a bad one too; those of a book that keeps the rules have 32 bits.
  pub every_book : (b : Book) → Says b.count (flat_map arc_numbers b.arcs) (flat_map set_numbers b.sets) b
  pub in_32_bits : (b : Book) → Keeps b → All (λ x. x < 4294967296) (flat_map arc_numbers b.arcs) × All (λ x. x < 4294967296) (flat_map set_numbers b.sets)
  -- 'Content is checked in the order count, changeovers as given, sheets each followed by its runs, and the first bad item decides.' So it is of every book that numbers
  -- say, a 17th sheet and a 257th run of it too ...
  pub whole : (n : ℕ) (arcs sets : List ℕ) (b : Book) → Says n arcs sets b → (x : Refusal) → (content n arcs sets ≡ refused x) ↔ BadFrom 1 n (book_items b) x
  -- ... and of numbers that end within a changeover, whatever the sheets' are, within a sheet, or within its runs: there is one item more, and it is bad (3).
  pub cut_changeover : (n : ℕ) (given : List Arc) (rest sets : List ℕ) → EndInArc rest
      → (x : Refusal) → (content n (flat_map arc_numbers given ++ rest) sets ≡ refused x) ↔ BadFrom 1 n (map an_arc given ++ (cut ∷ [])) x
  pub cut_sheet : (n : ℕ) (given : List Arc) (ss : List RuleSet) (front rest : List ℕ) → SetsSaid ss front → EndInSet rest
      → (x : Refusal) → (content n (flat_map arc_numbers given) (front ++ rest) ≡ refused x) ↔ BadFrom 1 n (map an_arc given ++ (flat_map set_list ss ++ (cut ∷ []))) x
  pub cut_run : (n : ℕ) (given : List Arc) (ss : List RuleSet) (front rest : List ℕ) → SetsSaid ss front → (f : Needs) (runs : List (List ℕ)) → EndInPaths f runs rest
      → (x : Refusal)
      → (content n (flat_map arc_numbers given) (front ++ rest) ≡ refused x)
      ↔ BadFrom 1 n (map an_arc given ++ (flat_map set_list ss ++ (a_set f ∷ (map a_path runs ++ (cut ∷ []))))) x
  -- There are no other numbers, and none say two books.
  pub no_others : (n : ℕ) (arcs sets : List ℕ)
      → ((b : Book) × Says n arcs sets b) ⊎ CutArcs arcs ⊎ (((given : List Arc) × (arcs ≡ flat_map arc_numbers given)) × CutSets sets)
  pub one_book : (n : ℕ) (arcs sets : List ℕ) (b c : Book) → Says n arcs sets b → Says n arcs sets c → b ≡ c
  -- What is taken is written in every area that has the room.
  pub written : (n : ℕ) (arcs sets : List ℕ) (b : Book) → content n arcs sets ≡ accepted b → (area : List ℕ) → length (bytes_in_order b) ≤ length area
      → (r : Result ℕ Refusal) (new : List ℕ) → WritingOf (content n arcs sets) area r new → BookWritten b area r new
  -- 'It refuses with 18, after these, a lent area shorter than the exact bytes needed, and writes nothing.'
  pub no_room : (n : ℕ) (arcs sets : List ℕ) (b : Book) → content n arcs sets ≡ accepted b → (area : List ℕ) → length area < length (bytes_in_order b)
      → (r : Result ℕ Refusal) (new : List ℕ) → WritingOf (content n arcs sets) area r new → ((x : Refusal) × (number_of x ≡ 18) × (r ≡ Err x)) × (new ≡ area)
  -- 'Two contents that differ only in the order of changeovers give equal bytes': the area is left the same, whatever they are ...
  pub any_order_bytes : (n : ℕ) (arcs arcs' sets : List ℕ) → SameButOrder arcs arcs' → (area : List ℕ)
      → (r r' : Result ℕ Refusal) (new new' : List ℕ) → WritingOf (content n arcs sets) area r new → WritingOf (content n arcs' sets) area r' new' → new ≡ new'
  -- ... and they give equal answers, 18 too, and what is refused of the sheets and runs, where the changeovers are good, or the count is bad.
  pub any_order : (n : ℕ) (arcs arcs' sets : List ℕ) → SameButOrder arcs arcs'
      → ((c : Book) × (content n arcs [] ≡ accepted c)) ⊎ (AllHold (count_conditions n) → ⊥) → (area : List ℕ)
      → (r r' : Result ℕ Refusal) (new new' : List ℕ) → WritingOf (content n arcs sets) area r new → WritingOf (content n arcs' sets) area r' new' → r ≡ r'
  -- Where they are not, the first bad one may be another: a content is refused in every order, if in one.
  pub bad_in_any_order : (n : ℕ) (arcs arcs' sets : List ℕ) → SameButOrder arcs arcs' → (x : Refusal) → content n arcs sets ≡ refused x
      → (y : Refusal) × (content n arcs' sets ≡ refused y)
  -- Every book that can be read, and has its changeovers in rising order, is what is written of its own content, to the byte.
  pub any_read : (s : List ℕ) (b : Book) → AreBytes s → reading s ≡ accepted b → RisingArcs b.arcs → (n : ℕ) (arcs sets : List ℕ) → Says n arcs sets b
      → (area : List ℕ) → length s ≤ length area → (r : Result ℕ Refusal) (new : List ℕ) → WritingOf (content n arcs sets) area r new
      → (r ≡ Ok (length s)) × (take (length s) new ≡ s)
  -- The program `rewrite` writes a book that it reads with the changeovers in rising order, in the bytes that writing its content gives; else the line of the refusal.
  -- A book whose changeovers rise comes back as it is.
  pub rewritten : (s : List ℕ) (b : Book) → AreBytes s → reading s ≡ accepted b → Anew b (rewrite s)
  pub rewritten_as_written : (s : List ℕ) (b : Book) → AreBytes s → reading s ≡ accepted b → (n : ℕ) (arcs sets : List ℕ) → Says n arcs sets b
      → (area : List ℕ) → length (rewrite s) ≤ length area → (r : Result ℕ Refusal) (new : List ℕ) → WritingOf (content n arcs sets) area r new
      → (r ≡ Ok (length (rewrite s))) × (take (length (rewrite s)) new ≡ rewrite s)
  pub rewritten_as_it_is : (s : List ℕ) (b : Book) → AreBytes s → reading s ≡ accepted b → RisingArcs b.arcs → rewrite s ≡ s
  pub rewritten-refused : (s : List ℕ) (x : Refusal) → reading s ≡ refused x → rewrite s ≡ refusal_text x

-- ==== Demand 3
-- After an accepted begin β the reports ρs were made, each on what the one before it left. `done` are those that were answered with
-- acceptance; record and areas stand as l after the last.
module _ (β : AcceptedBegin) where
  open β use {bytes as s, book as b, batch, start, end, paths, walk}

  -- the digraph; the runs that are known after begin; the rules' plan under a list of runs
  abbrev g : Graph
  g = graph b

  abbrev bound : List (List ℕ)
  bound = known batch b.sets

  abbrev plan : Plan
  plan = chosen g

  -- 01, 'Trials', of every list of reports, whether a lab is true or not: record and areas are as the three rules give them.
  pub record AsRuled (ρs done : List Report) (l : Leaves Record) : Type 0 where
    -- Each report gets record and areas as begin or the report before it left them; accepted ones are those with that answer.
    pub left : l ≡ reports_on s (opening β) ρs
    pub answered : done ≡ accepted_on s (opening β) ρs
    -- The record and every byte of both areas are those that the rules give, with the best of all line-ups, or none, for each plan; and the
    -- reports that the rules accept are those.
    pub planner : Planner g plan
    pub ruled : l ≡ leaves_of (run g plan (first_state b batch start end paths walk) ρs)
    pub accepted-ruled : done ≡ acceptedFrom g plan (first_state b batch start end paths walk) ρs
    -- A refused report hands back the record as it came and leaves every byte; it is as if not made.
    pub refused-kept : (m : Leaves Record) (ρ : Report) (x : Refusal) (r : Record) → answer_on s m ρ ≡ Err (rejected x r)
        → reporting s m.answer m.paths m.walk ρ ≡ answering (Err (rejected x m.answer)) m.paths m.walk
    pub as_if_not_made : l ≡ reports_on s (opening β) done
    -- What that comes to. Failed and passed count the accepted reports of their kind, and trials all of them.
    pub start_is : l.answer.start ≡ start
    pub end_is : l.answer.end ≡ end
    pub first-is : l.answer.first ≡ length bound
    pub known_is : l.answer.known ≡ length bound + failures done
    pub failed-is : l.answer.failed ≡ failures done
    pub passed_is : l.answer.passed ≡ passes done
    pub trials_are : l.answer.failed + l.answer.passed ≡ length done
    -- The known runs are the binding sheets' and then those named, in order: at most 256 different runs of the book. They stand in the runs
    -- area; bytes after its entries are as lent.
    pub known-set : ForbiddenSet b.count (bound ++ named done)
    pub path_bytes : l.paths ≡ written (bound ++ named done) ++ drop area_size paths
    pub path-length : length l.paths ≡ length paths
    -- Each plan was written over what stood in the line-up area.
    pub walk-bytes : l.walk ≡ replanned plan start end bound (named done) (overlaid (plan bound start end) walk)
    pub walk-length : length l.walk ≡ length walk
    -- In stages 0 and 1 the best line-up under the known runs stands, with its litres; in stage 2, and just there, there is none.
    pub stage_is : l.answer.stage ≤ 2
    pub best : l.answer.stage ≢ 2 → Best g (bound ++ named done) start end (standing_in l)
    pub litres_are : l.answer.stage ≢ 2 → l.answer.litres ≡ weight_of g (standing_in l)
    pub short : l.answer.length ≤ longest
    pub nothing : (l.answer.stage ≡ 2) ↔ None g (bound ++ named done) start end
    pub nothing-stands : l.answer.stage ≡ 2 → (l.answer.length ≡ 0) × (l.answer.litres ≡ 0)
    pub passed-stage : (l.answer.stage ≡ 1) ↔ (passes done ≡ 1)
    -- Record and areas are in order, so that what a lab is told of a run that it names is `Order5`.
    pub in-order : InOrder b l.answer l.paths l.walk
    -- One more report is refused only for what its lab does: 11, 16, 17, 12, 13.
    pub refusals : (ρ : Report) (x : Refusal) (r : Record) → answer_on s l ρ ≡ Err (rejected x r) → Memᴰ (number_of x) (11 ∷ 16 ∷ 17 ∷ 12 ∷ 13 ∷ [])

  -- Demand 3, sentence by sentence, where the lab is true to R.
  pub record LabOutcome (R : List (List ℕ)) (ρs done : List Report) (l : Leaves Record) : Type 0 where
    -- 'Record and areas are as 01's rules for trials give them.'
    pub rules : AsRuled ρs done l
    -- 'The record's failed count is the number of failed reports that were accepted, and at most the number of the lab's runs that the
    -- binding sheets lack.' (01: trials are failed plus passed; so they are all accepted reports, and at most one more.)
    pub failed-counted : l.answer.failed ≡ failures done
    pub passed_counted : l.answer.passed ≡ passes done
    pub trials-counted : l.answer.failed + l.answer.passed ≡ length done
    pub lacked : ℕ
    pub lacked_are : HowMany (LabsOnly b batch R) lacked
    pub failed-bounded : l.answer.failed ≤ lacked
    pub trials-bounded : l.answer.failed + l.answer.passed ≤ lacked + 1
    -- 'While the trials are not over, no true report is refused.'
    pub true-accepted : l.answer.stage ≡ 0 → (ρ : Report) → TrueReport R l ρ → (r : Record) × (answer_on s l ρ ≡ Ok r)
    -- 'A passed line-up avoids the binding sheets' runs and all the lab's runs, and every other line-up from start to end that avoids them
    -- loses at least as many litres.' (It is the best of them: ties fall as in planning.)
    pub passed-avoids : l.answer.stage ≡ 1 → Free b batch R start end (standing_in l)
    pub passed-litres : l.answer.stage ≡ 1 → l.answer.litres ≡ weight_of g (standing_in l)
    pub passed-least : l.answer.stage ≡ 1 → (v : List ℕ) → Free b batch R start end v → l.answer.litres ≤ weight_of g v
    pub passed-best : l.answer.stage ≡ 1 → (v : List ℕ) → Free b batch R start end v → standing_in l ≼⟨ g ⟩ v
    -- 'Trials that are over end in a passed line-up or in none, and in none exactly when no line-up from start to end avoids those runs.'
    pub over : l.answer.stage ≢ 0 → (l.answer.stage ≡ 1) ⊎ (l.answer.stage ≡ 2)
    pub none-exactly : l.answer.stage ≢ 0 → (l.answer.stage ≡ 2) ↔ ((w : List ℕ) → Free b batch R start end w → ⊥)

  -- The same of `series::replay`, which begins and makes the reports of a list of bytes: it answers the record r, and `paths'` and `walk'` are
  -- the bytes at exit. They are what the single calls leave.
  pub record ReplayOutcome (R : List (List ℕ)) (reports : List ℕ) (r : Record) (paths' walk' : List ℕ) : Type 0 where
    pub replayed : replaying s batch start end reports paths walk ≡ answering (Ok r) paths' walk'
    pub as_made : answering r paths' walk' ≡ reports_on s (opening β) (reports_of reports)
    pub outcome : LabOutcome R (reports_of reports) (accepted_on s (opening β) (reports_of reports)) (answering r paths' walk')

-- ---- the demand
-- 'Take an accepted begin and every list of reports after it, passed or failed, refused ones included, from a lab that passes just the line-ups
-- free of its runs. Whichever forbidden run of the tried line-up the lab names each time, if all runs together are at most 256, all of this
-- holds after the list.'
pub record Demand3 : Type 0 where
  pub after_calls : (β : AcceptedBegin) (R : List (List ℕ)) → LabSet β.book β.batch R → (ρs : List Report) → TrueLab R β.bytes (opening β) ρs
      → LabOutcome β R ρs (accepted_on β.bytes (opening β) ρs) (reports_on β.bytes (opening β) ρs)
  -- ... and after `series::replay`, of what it answers and leaves by its contract.
  pub after-replay : (β : AcceptedBegin) (R : List (List ℕ)) → LabSet β.book β.batch R → (reports : List ℕ)
      → TrueLab R β.bytes (opening β) (reports_of reports)
      → (a : Result Record Refusal) (paths' walk' : List ℕ)
      → answering a paths' walk' ≡ replaying β.bytes β.batch β.start β.end reports β.paths β.walk
      → (r : Record) × (a ≡ Ok r) × ReplayOutcome β R reports r paths' walk'
  -- 01, 'Trials': record and areas are as the rules give them after every list, whatever the lab is.
  pub after_any : (β : AcceptedBegin) (ρs : List Report) → AsRuled β ρs (accepted_on β.bytes (opening β) ρs) (reports_on β.bytes (opening β) ρs)
