-- A list of reports as bytes: 0 is passed; 1, a number n and n vertices is failed, and names them. A report that is cut short ends the
-- list, and so does any other first byte.
use Rattle.std.specs.Prelude.{ℕ, zero, suc, ◌+◌, Bool, cond, ◌&&◌, ◌||◌, List, [], ◌∷◌, eqb, leb, ltb, length, get_or, take, drop}
use Rattle.trial_rules.specs.Trials.{Report, passed, failed}

-- The list begins with a report; that report; and the bytes that it takes.
abbrev pub is_report : List ℕ → Bool
is_report l = ltb 0 (length l) && (eqb (get_or l 0 0) 0 || (eqb (get_or l 0 0) 1 && (leb 2 (length l) && leb (2 + get_or l 1 0) (length l))))

abbrev pub report_in : List ℕ → Report
report_in l = cond (eqb (get_or l 0 0) 0) passed (failed (take (get_or l 1 0) (drop 2 l)))

abbrev pub size_of : List ℕ → ℕ
size_of l = cond (eqb (get_or l 0 0) 0) 1 (2 + get_or l 1 0)

-- The reports of a list, by as many turns as it has bytes.
unfoldable pub reports_in : ℕ → List ℕ → List Report
reports_in zero l = []
reports_in (suc k) l = cond (is_report l) (report_in l ∷ reports_in k (drop (size_of l) l)) []

abbrev pub reports_of : List ℕ → List Report
reports_of l = reports_in (length l) l
