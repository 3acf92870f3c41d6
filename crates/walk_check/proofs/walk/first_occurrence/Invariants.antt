-- What each loop keeps: the answer for the whole is the answer for what is left.
use Rattle.std.proofs.Common.{◌≡◌, ◌+◌, ◌-◌, None, length, take, drop}
use Rattle.rules.specs.Area.{spelled}
use Rattle.walk_check.specs.Checking.{some_ends, first_from, named_at, check_from, occurrence}
use Rattle.walk_check.proofs.Searched.{fits_from}
use Rattle.walk_check.proofs.walk.first_occurrence.Given as goal

abbrev pub invariant-ends : goal.invariant-ends
invariant-ends l =
    (l.first ≡ None)
    × (check_from (spelled l.paths.count l.paths.bytes.now) l.walk (length l.walk + 1 - l.end) l.end ≡ occurrence (spelled l.paths.count l.paths.bytes.now) l.walk)

abbrev pub invariant-loop-length : goal.invariant-loop-length
invariant-loop-length l =
    (l.first ≡ None)
    × (first_from (some_ends (spelled l.paths.count l.paths.bytes.now) l.walk l.end) (9 - l.length) l.length ≡ named_at (spelled l.paths.count l.paths.bytes.now) l.walk l.end)

abbrev pub invariant-paths : goal.invariant-paths
invariant-paths l =
    (l.first ≡ None)
    × (fits_from l.paths.bytes.now l.paths.count l.walk l.end l.length l.k ≡ some_ends (spelled l.paths.count l.paths.bytes.now) l.walk l.end l.length)

abbrev pub invariant-loop-i : goal.invariant-loop-i
invariant-loop-i l = take l.i (drop 1 l.entry) ≡ take l.i (drop l.place l.walk)
