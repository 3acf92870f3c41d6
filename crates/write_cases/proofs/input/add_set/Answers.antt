-- The flags, the window, and the paths with their number.
use Rattle.std.proofs.Common.{[], ◌∷◌, ◌≡◌, drop, subst, ap, arith, Some}
use Rattle.std.proofs.lemmas.List.{take_rest}
use Rattle.book.specs.Reading.{u16_at}
use Rattle.write_cases.specs.Inputs.{held, paths_size}
use Rattle.write_cases.proofs.InputLaws.{held-some, set-parts}
use Rattle.write_cases.proofs.KeptLaws.{adds_then, adds_as}
use Rattle.write_cases.proofs.input.add_set.Goals as goal

pub returns-clause-numbers : goal.returns-clause-numbers
returns-clause-numbers c =
    let s = c.args.input.now in
    let head = c.head_size-head.result in
    let n = c.from_be_bytes-n.result in
    let (_, size) =
    held-some (paths_size n (drop head s)) c.in_ok-size.size (drop head s) (subst (λ rest. Some c.in_ok-size.size ≡ held (paths_size n rest) rest) (take_rest s head) c.in_ok-size.ensures) in
    let flags : c.from.result ≡ u16_at s 0 = omega (arith, c.from.ensures, c.from_be_bytes.ensures) in
    let numbers = set-parts s head c.from.result n c.in_ok-size.size c.head_size-head.ensures flags (omega (arith, c.from_be_bytes-n.ensures)) size in
    adds_as numbers (adds_then _ _ c.add.ensures (adds_then _ _ c.add_bytes.ensures (adds_then _ _ (adds_as (ap (λ x. x ∷ []) c.from-2.ensures) c.add-2.ensures) c.add_bytes-2.ensures)))
