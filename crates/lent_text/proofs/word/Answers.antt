-- The bytes are copied to their place.
use Rattle.std.proofs.Common.{◌+◌, ◌-◌, ◌++◌, refl, sym, ap, ◌∙◌, arith, length, take, drop}
use Rattle.std.proofs.Math.Seq.{take_all}
use Rattle.std.proofs.lemmas.List.Edits.{sets-eq}
use Rattle.std.proofs.lemmas.Slice.{put_mid-paste}
use Rattle.lent_text.proofs.word.Goals as goal

pub returns : goal.returns
returns c =
    let s = c.args.s.now in
    let old = c.args.out.now in
    let at = c.args.at in
    let end = at + length s in
    let whole = take_all (length s) s (omega arith) in
    record {
      place = refl;
      fits = omega (arith, c.requires);
      bytes =
          put_mid-paste at (end - at) old _ s (length s) c.copy_from_slice.ensures.after (omega arith) refl
          ∙ ap (λ t. take at old ++ t ++ drop (at + length s) old) whole
          ∙ sym (sets-eq s old at (omega (arith, c.requires)));
    }
