-- At each turn of each loop, the answer for the whole is the answer for what is left.
use Rattle.std.proofs.Common.{◌≡◌, ◌+◌, ◌-◌, take, drop, refl, sym, subst, ◌∙◌, arith, None}
use Rattle.std.proofs.Math.Option.{none}
use Rattle.rules.specs.Area.{spelled}
use Rattle.walk_check.specs.Checking.{some_ends, named_at}
use Rattle.walk_check.proofs.Searched.{Held, first-here, first-later, ends_past, ends-here, ends-later, lengths_past, paths-start, paths_past, other_length, differs, stands, one-more}
use Rattle.walk_check.proofs.walk.first_occurrence.Goals as goal
use Rattle.walk_check.proofs.walk.first_occurrence.Goals.{Left-loop-length, else-loop-length-test, then-loop-length-test+else-paths-test+else-length-length-end}

pub paths-init : goal.paths-init
paths-init c =
    let held : Held c.args.paths.bytes.now c.args.paths.count = record { within = c.requires.within; short = c.requires.short } in
    (c.loop-length.invariant.0, paths-start held c.args.walk.now c.ends.end c.loop-length.length)

pub paths-preserved-then-from-length : goal.paths-preserved-then-from-length
paths-preserved-then-from-length c =
    let held : Held c.args.paths.bytes.now c.args.paths.count = record { within = c.requires.within; short = c.requires.short } in
    let passed = other_length held c.args.walk.now c.ends.end c.loop-length.length c.paths-test.true c.entry-entry.ensures.bytes (λ q. c.if-from-length.true (c.from.ensures ∙ q)) in
    (c.paths.invariant.0, sym passed ∙ c.paths.invariant.1)

pub paths-preserved : goal.paths-preserved
paths-preserved c =
    let held : Held c.args.paths.bytes.now c.args.paths.count = record { within = c.requires.within; short = c.requires.short } in
    let w = c.args.walk.now in
    let passed = differs held w c.ends.end c.loop-length.length c.paths-test.true c.entry-entry.ensures.bytes (sym c.from.ensures ∙ c.if-from-length.false) (omega arith) (omega arith) c.loop-i-test.true c.if-entry-i.true in
    (c.paths.invariant.0, sym passed ∙ c.paths.invariant.1)

-- before the first vertex nothing is held against the walk yet
pub loop-i-init : goal.loop-i-init
loop-i-init c = refl

pub loop-i-preserved : goal.loop-i-preserved
loop-i-preserved c =
    one-more c.entry-entry.result.now c.args.walk.now 1 (c.ends.end - c.loop-length.length) c.loop-i.i (omega arith) (omega arith) c.loop-i.invariant c.if-entry-i.false

pub loop-length-preserved : goal.loop-length-preserved
loop-length-preserved c =
    let held : Held c.args.paths.bytes.now c.args.paths.count = record { within = c.requires.within; short = c.requires.short } in
    let w = c.args.walk.now in
    let e = c.ends.end in
    let n = c.loop-length.length in
    let missed = sym c.paths.invariant.1 ∙ paths_past held w e n c.paths-test.false in
    let later = first-later (some_ends (spelled c.args.paths.count c.args.paths.bytes.now) w e) n (omega arith) missed in
    (c.paths.invariant.0, sym later ∙ c.loop-length.invariant.1)

-- where all lengths have been tried, no path ends here
nowhere : (c : Left-loop-length) → (c.loop-length-test.first ≡ None) × (named_at (spelled c.args.paths.count c.args.paths.bytes.now) c.args.walk.now c.ends.end ≡ none)
nowhere c =
    let held : Held c.args.paths.bytes.now c.args.paths.count = record { within = c.requires.within; short = c.requires.short } in
    let known = spelled c.args.paths.count c.args.paths.bytes.now in
    let w = c.args.walk.now in
    let e = c.ends.end in
    let n = c.loop-length.length in
    elim c.loop-length-test.branch [
      | else-loop-length-test h ↦ (h.first-is ∙ c.loop-length.invariant.0, sym c.loop-length.invariant.1 ∙ lengths_past known w e n (omega arith))
      | then-loop-length-test+else-paths-test+else-length-length-end h ↦
          let missed = sym h.paths.invariant.1 ∙ paths_past held w e n h.paths-test.false in
          (h.first-is ∙ h.paths.invariant.0, sym c.loop-length.invariant.1 ∙ first-later (some_ends known w e) n (omega arith) missed ∙ lengths_past known w e (n + 1) (omega arith))
    ]

pub ends-preserved : goal.ends-preserved
ends-preserved c =
    let here = nowhere (goal.at.ends-preserved c).Left-loop-length in
    (here.0, sym (ends-later (spelled c.args.paths.count c.args.paths.bytes.now) c.args.walk.now c.ends.end c.ends-test.true here.1) ∙ c.ends.invariant.1)

pub returns : goal.returns
returns c = c.ends.invariant.0 ∙ sym (ends_past (spelled c.args.paths.count c.args.paths.bytes.now) c.args.walk.now c.ends.end c.ends-test.false) ∙ c.ends.invariant.1

pub returns-2 : goal.returns-2
returns-2 c =
    let known = spelled c.args.paths.count c.args.paths.bytes.now in
    let w = c.args.walk.now in
    let e = c.ends.end in
    let here = nowhere (goal.at.returns-2 c).Left-loop-length in
    here.0 ∙ sym (ends-later known w e c.ends-test.true here.1 ∙ ends_past known w (e + 1) (omega arith)) ∙ c.ends.invariant.1

pub returns-else-from-length : goal.returns-else-from-length
returns-else-from-length c =
    let held : Held c.args.paths.bytes.now c.args.paths.count = record { within = c.requires.within; short = c.requires.short } in
    let known = spelled c.args.paths.count c.args.paths.bytes.now in
    let w = c.args.walk.now in
    let e = c.ends.end in
    let n = c.loop-length.length in
    let whole : c.loop-i.i ≡ n = omega arith in
    let match = subst (λ m. take m (drop 1 c.entry-entry.result.now) ≡ take m (drop (e - n) w)) whole c.loop-i.invariant in
    let found = stands held w e n c.paths-test.true c.entry-entry.ensures.bytes (sym c.from.ensures ∙ c.if-from-length.false) (omega arith) (omega arith) match in
    let named = first-here (some_ends known w e) n (omega arith) (sym c.paths.invariant.1 ∙ found) in
    sym (ends-here known w e c.ends-test.true n (sym c.loop-length.invariant.1 ∙ named)) ∙ c.ends.invariant.1
