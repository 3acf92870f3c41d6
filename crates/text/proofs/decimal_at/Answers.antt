-- The digits are copied to their place.
use Rattle.std.proofs.Common.{List, ℕ, ◌≡◌, ◌≤◌, ◌+◌, ◌-◌, ◌++◌, refl, sym, ap, ◌∙◌, arith}
use Rattle.std.proofs.Common.{length, take, drop}
use Rattle.std.proofs.Math.Seq.{take_all}
use Rattle.std.proofs.lemmas.List.Edits.{sets-eq}
use Rattle.std.proofs.lemmas.Slice.{put_mid-paste}
use borrow.Rule.Slice.PartMut.{put_mid}
use Rattle.text.specs.Lent.{StandsAt}
use Rattle.text.specs.Text.{decimal}
use Rattle.text.proofs.decimal_at.Goals as goal

-- A text that was copied into the part from `at` to `end`.
copied : (text old : List ℕ) (at end : ℕ) {part : List ℕ} → part ≡ text
    → end ≡ at + length text → end ≤ length old → StandsAt text at old end (put_mid at (end - at) old part)
copied text old at end same place fits =
    let whole = take_all (length text) text (omega arith) in
    record {
      place = place;
      fits = fits;
      bytes =
          put_mid-paste at (end - at) old _ text (length text) same (omega arith) refl
          ∙ ap (λ t. take at old ++ t ++ drop (at + length text) old) whole
          ∙ sym (sets-eq text old at (omega arith));
    }

pub returns : goal.returns
returns c =
    let same = c.copy_from_slice.ensures.after ∙ c.deref.ensures.0 ∙ c.digits-text.ensures in
    let size = ap length c.digits-text.ensures in
    let end = c.args.at + c.len.result in
    copied (decimal c.args.n) c.args.out.now c.args.at end same (omega (arith, size)) (omega (arith, size))
