-- Sheets with a season, proved: the days of a year, and that a book and a batch give what the sheets of the day do without their windows.
use Rattle.std.specs.Prelude.{ℕ, ◌≤◌, ◌<◌, ◌≡◌, refl, ◌⊎◌, Bool, true, false, cond, ◌&&◌, List, [], ◌∷◌, ◌++◌, ◌↔◌, leb, ltb, length, None, Result, Err}
use Rattle.std.proofs.Common.{sym, ap, ap₂, subst, subst₂, ◌∙◌, inl, inr, ⊎_elim, true≢false, arith}
use Rattle.std.proofs.Math.Logic.Iff
use Rattle.std.proofs.lemmas.Bool.{cases_lt}
use mathlib.Core.List.{Memᴰ}
use Rattle.walks.specs.Graph.{Graph, Arc, from_arcs}
use Rattle.states.specs.Chosen.{chosen}
use Rattle.dates.specs.declared.MonthDay.{MonthDay}
use Rattle.dates.specs.declared.Window.{Window}
use Rattle.dates.specs.Dates.{month_day, is_leap, is_date, in_season}
use Rattle.dates.specs.Calendar.{LeapYear, IsDay, IsDate, Before, UpTo, Inside, IsWindow}
use Rattle.dates.proofs.CalendarLaws.{leap-year, date-is, season, leap_day_only}
use Rattle.dates.proofs.CalendarDays.{common-year, leap_year_days, days-of-both}
use Rattle.book.specs.declared.Refusal.{Refusal}
use Rattle.book.specs.declared.Refusal.TheVariants.{Date}
use Rattle.book.specs.Refusal.{number_of, test, refusal_by}
use Rattle.book.specs.Book.{Book, RuleSet, All, graph}
use Rattle.book.specs.Reading.{Reading, accepted, reading}
use Rattle.rules.specs.declared.Batch.{Batch}
use Rattle.rules.specs.Binding.{covers, applied, distinct, known}
use Rattle.rules.specs.Operations.{bound_unless, bound_as, binding_of, binding, area_after}
use Rattle.limits.specs.Limits.{area_size, longest}
use Rattle.rules.proofs.Sets.{refuted}
use Rattle.walk_check.specs.Checking.{checking_of, checking}
use Rattle.planner.specs.Planning.{PlanningOf, Planning, Answer as Outcome}
use Rattle.planner.specs.RuleSets.{SameGraph}
use Rattle.reach.specs.Reaching.{reached, table_after}
use Rattle.trial_record.specs.declared.Record.{Record}
use Rattle.trial_rules.specs.Trials.{Report, State, area_tests, begin, run}
use Rattle.trials.specs.Operations.{Leaves, answering, begun_as, beginning_of, beginning, reporting_of, reporting}
use Rattle.series.specs.Reports.{reports_of}
use Rattle.series.specs.Making.{replaying_of}
use Rattle.demands.specs.Marks.{OfSheet}
use Rattle.demands.proofs.Marks.{known→sheet, sheet→known}
use Rattle.demands.proofs.RefusalLaws.{refusals}
use Rattle.demands.specs.Demands.{ByHand, no_more, added, removed, SameBatches, DatesOf, from_leap_day}

-- ---- dates
-- A leap year has each day that some year has.
some_year : (y : ℕ) (d : MonthDay) (leap : Bool) → is_leap y ≡ leap → IsDate (record { day = d.day; month = d.month; year = y }) → IsDay true d
some_year y d true e h = h.in-leap ((leap-year y).0 e)
some_year y d false e h = days-of-both d (h.in-other (λ l. true≢false (sym ((leap-year y).1 l) ∙ e)))

pub edges : (d : MonthDay) → IsDay true d ↔ ((year : ℕ) × IsDate (record { day = d.day; month = d.month; year = year }))
edges d = (
  λ h. (2000, record { from = omega arith; to = omega arith; in-leap = λ _. h; in-other = λ n. absurd (n ((leap-year 2000).0 refl)) }),
  λ p. some_year p.0 d (is_leap p.0) refl p.1,
)

module _ (year : ℕ) (from : 1900 ≤ year) (to : year ≤ 2199) where
  pub leap_years : LeapYear year → DatesOf year 366
  leap_years leap =
      let y = leap_year_days in
      record {
        days = y.days;
        each = λ d. Iff.trans (y.each d) (λ h. record { from = from; to = to; in-leap = λ _. h; in-other = λ other. absurd (other leap) }, λ h. h.in-leap leap);
        rising = y.rising;
        number = y.number;
      }

  pub other-years : (LeapYear year → ⊥) → DatesOf year 365
  other-years other =
      let y = common-year in
      record {
        days = y.days;
        each = λ d. Iff.trans (y.each d) (λ h. record { from = from; to = to; in-leap = λ leap. absurd (other leap); in-other = λ _. h }, λ h. h.in-other other);
        rising = y.rising;
        number = y.number;
      }

-- ---- windows
up-to-or-before : (d e : MonthDay) → UpTo d e ⊎ Before e d
up-to-or-before d e =
    ⊎_elim (λ l. inr (inl l))
    (λ g. ⊎_elim (λ l. inl (λ b. omega arith)) (λ h. ⊎_elim (λ l. inr (inr (omega arith, l))) (λ k. inl (λ b. omega arith)) (cases_lt e.day d.day)) (cases_lt d.month e.month))
    (cases_lt e.month d.month)

pub both_days : (w : Window) → Inside w w.first × Inside w w.last
both_days w =
    ⊎_elim (λ h. (inl (h, (self w.first, h)), inl (h, (h, self w.last)))) (λ h. (inr (h, inl (self w.first)), inr (h, inr (self w.last))))
    (up-to-or-before w.first w.last)
  where
    self : (d : MonthDay) → UpTo d d
    self d b = omega arith

pub leap_day_alone : IsWindow from_leap_day × ((d : MonthDay) → IsDay false d → Inside from_leap_day d → ⊥)
leap_day_alone = (((omega arith, omega arith), (omega arith, omega arith)), leap_day_only from_leap_day refl refl)

pub known-runs : (b : Book) (batch : Batch) (r : List ℕ) → Memᴰ r (known batch b.sets) ↔ OfSheet b batch r
known-runs b batch r = (known→sheet b batch, sheet→known b batch)

-- ---- a batch without a date
module _ (s : List ℕ) (b : Book) (read : reading s ≡ accepted b) (batch : Batch) (none : IsDate batch.date → ⊥) where
  pub no_date_bound : (area : List ℕ) → area_size ≤ length area → (x : Refusal) × (number_of x ≡ 15) × (bound_as (binding s batch area) ≡ Err x)
  no_date_bound area fits = (Date, refl, ((refusals s Date).bind batch area).cause.1 (inr (b, read, inr (fits, inl (none, (refl, refl))))))

  pub no_date-begun : (start end : ℕ) → start < b.count → end < b.count → (paths walk : List ℕ) → area_size ≤ length paths → longest ≤ length walk
      → (x : Refusal) × (number_of x ≡ 15) × (beginning s batch start end paths walk ≡ answering (Err x) paths walk)
  no_date-begun start end start-below end-below paths walk fits long =
      let refusal = refusals s Date in
      let refused =
      (refusal.begin batch start end paths walk).cause.1
      (inr (b, read, inr (fits, inr (long, inr (start-below, inr (end-below, inl (none, (refl, refl)))))))) in
      (Date, refl, refusal.begin-keeps batch start end paths walk refused)

-- ---- the sheets of a day
and-false : (x : Bool) → (x && false) ≡ false
and-false true = refl
and-false false = refl

module _ (batch batch' : Batch) (flags : batch.flags ≡ batch'.flags) where
  abbrev day : MonthDay
  day = month_day batch.date

  -- what a sheet gives, by its marks and by its season
  abbrev given : RuleSet → ℕ → Bool → List (List ℕ) → List (List ℕ)
  given set held in-season rest = cond (covers 16 set.needs.flags held && in-season) set.paths [] ++ rest

  applied-by_hand : {sets sets' : List RuleSet} → ByHand day sets sets' → applied batch sets ≡ applied batch' sets'
  unfolding applied
  applied-by_hand no_more = refl
  applied-by_hand (added {set = set} {sets' = sets'} in-season rest) =
      ap₂ (λ t ps. given set batch.flags t ps) ((season set.needs.window day).1 in-season) (applied-by_hand rest)
      ∙ ap (λ held. given set held true (applied batch' sets')) flags
  applied-by_hand (removed {set = set} {sets' = sets'} out rest) =
      ap₂ (λ t ps. given set batch.flags t ps) (refuted (in_season set.needs.window day) (λ e. out ((season set.needs.window day).0 e))) (applied-by_hand rest)
      ∙ ap (λ t. cond t set.paths [] ++ applied batch' sets') (and-false (covers 16 set.needs.flags batch.flags))

  known-by_hand : {sets sets' : List RuleSet} → ByHand day sets sets' → known batch sets ≡ known batch' sets'
  known-by_hand h = ap distinct (applied-by_hand h)

-- Sheets without windows are the sheets of every day.
unwindowed : (day : MonthDay) (sets : List RuleSet) → All (λ set. set.needs.window ≡ None) sets → ByHand day sets sets
unwindowed day [] h = no_more
unwindowed day (set ∷ sets) (none, rest) =
    subst (λ w. ByHand day (set ∷ sets) (record { needs = record { flags = set.needs.flags; window = w }; paths = set.paths } ∷ sets)) (sym none)
    (added (λ w e. absurd (cc)) (unwindowed day sets rest))

-- ---- the same known runs, on the same changeovers, on two dates
module _
    (s s' : List ℕ) (b c : Book) (read : reading s ≡ accepted b) (read' : reading s' ≡ accepted c) (same : SameGraph b c)
    (batch batch' : Batch) (date : IsDate batch.date) (date' : IsDate batch'.date) (knows : known batch b.sets ≡ known batch' c.sets)
  where
    dates : is_date batch.date ≡ is_date batch'.date
    dates = (date-is batch.date).1 date ∙ sym ((date-is batch'.date).1 date')

    graphs : graph b ≡ graph c
    graphs = sym (ap₂ from_arcs same.counts same.arcs)

    bindings : (area : List ℕ) → binding s batch area ≡ binding s' batch' area
    bindings area =
        ap (λ x. binding_of x batch area) read
        ∙ ap₂ (λ t F. bound_unless (refusal_by (test 8 (leb area_size (length area)) ∷ test 15 t ∷ [])) F) dates knows
        ∙ sym (ap (λ x. binding_of x batch' area) read')

    -- all that planning, the table of ends, the check and a report need of a book
    abbrev bare : ℕ → List Arc → Reading
    bare n arcs = accepted (record { count = n; arcs = arcs; sets = [] })

    plans : (area : List ℕ) (count start end : ℕ) (old : List ℕ) (r : Outcome) (new : List ℕ) → Planning s area count start end old r new ↔ Planning s' area count start end old r new
    plans area count start end old r new = (
      λ p. subst Plan (sym read') (subst₂ (λ n arcs. Plan (bare n arcs)) (sym same.counts) (sym same.arcs) (subst Plan read p)),
      λ p. subst Plan (sym read) (subst₂ (λ n arcs. Plan (bare n arcs)) same.counts same.arcs (subst Plan read' p)),
    )
      where
        Plan : Reading → Type 0
        Plan x = PlanningOf x area count start end old r new

    tables : (area : List ℕ) (count start : ℕ) (table : List ℕ)
        → (reached (reading s) area count start table ≡ reached (reading s') area count start table)
        × (table_after (reading s) area count start table ≡ table_after (reading s') area count start table)
    tables area count start table = (
      ap (λ x. reached x area count start table) read
          ∙ ap₂ (λ n arcs. reached (bare n arcs) area count start table) (sym same.counts) (sym same.arcs)
          ∙ sym (ap (λ x. reached x area count start table) read'),
      ap (λ x. table_after x area count start table) read
          ∙ ap₂ (λ n arcs. table_after (bare n arcs) area count start table) (sym same.counts) (sym same.arcs)
          ∙ sym (ap (λ x. table_after x area count start table) read'),
    )

    checks : (area : List ℕ) (count : ℕ) (w : List ℕ) → checking s area count w ≡ checking s' area count w
    checks area count w =
        ap (λ x. checking_of x area count w) read
        ∙ ap₂ (λ n arcs. checking_of (bare n arcs) area count w) (sym same.counts) (sym same.arcs)
        ∙ sym (ap (λ x. checking_of x area count w) read')

    reports : (q : Record) (paths walk : List ℕ) (ρ : Report) → reporting s q paths walk ρ ≡ reporting s' q paths walk ρ
    reports q paths walk ρ =
        ap (λ x. reporting_of x q paths walk ρ) read
        ∙ ap₂ (λ n arcs. reporting_of (bare n arcs) q paths walk ρ) (sym same.counts) (sym same.arcs)
        ∙ sym (ap (λ x. reporting_of x q paths walk ρ) read')

    -- begin, and what goes on from the state after it
    module _ (start end : ℕ) (paths walk : List ℕ) (on : Graph → State → State) where
      abbrev opened : Bool → Graph → List (List ℕ) → Leaves (Result Record Refusal)
      opened t g F =
          begun_as (refusal_by (area_tests paths walk ++ (test 7 (ltb start g.count) ∷ test 7 (ltb end g.count) ∷ test 15 t ∷ [])))
          (on g (begin g (chosen g) F start end paths walk)) paths walk

      openings : opened (is_date batch.date) (graph b) (known batch b.sets) ≡ opened (is_date batch'.date) (graph c) (known batch' c.sets)
      openings = ap₂ (λ t F. opened t (graph b) F) dates knows ∙ ap (λ g. opened (is_date batch'.date) g (known batch' c.sets)) graphs

    pub same-batches : SameBatches s batch s' batch'
    same-batches =
        record {
          bound = λ area. ap bound_as (bindings area);
          left = λ area. ap (λ x. area_after x area) (bindings area);
          plans = plans;
          tables = tables;
          checks = checks;
          reports = reports;
          begun = λ start end paths walk.
              ap (λ x. beginning_of x batch start end paths walk) read
              ∙ openings start end paths walk (λ g σ. σ)
              ∙ sym (ap (λ x. beginning_of x batch' start end paths walk) read');
          replayed = λ start end reports paths walk.
              ap (λ x. replaying_of x batch start end reports paths walk) read
              ∙ openings start end paths walk (λ g σ. run g (chosen g) σ (reports_of reports))
              ∙ sym (ap (λ x. replaying_of x batch' start end reports paths walk) read');
        }

pub by_hand : (s s' : List ℕ) (b c : Book) → reading s ≡ accepted b → reading s' ≡ accepted c → SameGraph b c
    → (batch batch' : Batch) → IsDate batch.date → IsDate batch'.date → batch.flags ≡ batch'.flags → ByHand (month_day batch.date) b.sets c.sets
    → SameBatches s batch s' batch'
by_hand s s' b c read read' same batch batch' date date' flags h =
    same-batches s s' b c read read' same batch batch' date date' (known-by_hand batch batch' flags h)

pub no_windows : (s : List ℕ) (b : Book) → reading s ≡ accepted b → All (λ set. set.needs.window ≡ None) b.sets
    → (batch batch' : Batch) → IsDate batch.date → IsDate batch'.date → batch.flags ≡ batch'.flags → SameBatches s batch s batch'
no_windows s b read none batch batch' date date' flags =
    by_hand s s b b read read (record { counts = refl; arcs = refl }) batch batch' date date' flags (unwindowed (month_day batch.date) b.sets none)
