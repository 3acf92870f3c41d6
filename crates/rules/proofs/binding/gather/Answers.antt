use Rattle.std.proofs.Common.{◌≡◌, ℕ, ◌+◌, ◌-◌, ◌*◌, sym, ◌∙◌, arith}
use Rattle.book.proofs.LoadedLaws.{sets_owners}
use Rattle.rules.proofs.Gathered.{started, finished, passed_over, known_already, added}
use Rattle.rules.proofs.binding.gather.Goals as goal
use Rattle.rules.proofs.binding.gather.Goals.{then-meets+then-not-found, else-meets, else-meets-via-then-meets+else-not-found, else-meets-via-else-meets}

nine : (k : ℕ) → (k + 1) * 9 - k * 9 ≡ 9
nine k = omega arith

pub loop-j-init : goal.loop-j-init
loop-j-init c = (omega arith, λ b listed. started c.args.batch b c.requires.blank)

pub bounds-book-from : goal.bounds-book-from
bounds-book-from c = omega (arith, c.from.ensures, sets_owners c.requires.sets.1 c.loop-j.j)

pub loop-j-preserved : goal.loop-j-preserved
loop-j-preserved c =
    let so_far = c.loop-j.invariant.1 in
    let more = c.loop-j-test.true in
    let cut = c.entry-path.ensures.bytes in
    let tested = rw c.from.ensures at (sym c.meets.ensures) in
    elim c.if-meets.branch [
      | then-meets+then-not-found w ↦ (
        omega (arith, w.n-is),
        λ b listed.
            let next = added (so_far b listed) listed more (tested ∙ w.if-meets.true) cut (sym w.found.ensures ∙ w.if-not-found.true) (omega (arith, listed.well.few-paths, listed.counted)) in
            rw (w.area-is, w.n-is, nine, w.copy_from_slice.ensures.after) next,
      )
      | else-meets w ↦
          elim w.else-meets.branch [
            | else-meets-via-then-meets+else-not-found w' ↦ (
              omega (arith, w.n-is),
              λ b listed. rw (w.area-is, w.n-is) (known_already (so_far b listed) listed more (tested ∙ w'.if-meets.true) cut (sym w'.found.ensures ∙ w'.if-not-found.false)),
            )
            | else-meets-via-else-meets w' ↦ (
              omega (arith, w.n-is),
              λ b listed. rw (w.area-is, w.n-is) (passed_over (so_far b listed) listed more (tested ∙ w'.if-meets.false)),
            )
          ]
    ]

pub returns : goal.returns
returns c = λ b listed. finished (c.loop-j.invariant.1 b listed) (omega (arith, listed.counted, c.loop-j-test.false))
