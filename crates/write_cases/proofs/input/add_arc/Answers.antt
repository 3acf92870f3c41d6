-- Two bytes, and a number of four.
use Rattle.std.proofs.Common.{[], ◌∷◌, ◌++◌, ◌≡◌, ap₂, take, arith}
use Rattle.book.specs.Reading.{u32_at}
use Rattle.write_cases.specs.Inputs.{arc_numbers}
use Rattle.write_cases.proofs.InputLaws.{two_first}
use Rattle.write_cases.proofs.KeptLaws.{adds_then, adds_as}
use Rattle.write_cases.proofs.input.add_arc.Goals as goal

pub returns : goal.returns
returns c =
    let s = c.args.input.now in
    let weight : c.from_be_bytes.result ≡ u32_at s 2 = omega (arith, c.from_be_bytes.ensures) in
    let numbers : take 2 s ++ (c.from_be_bytes.result ∷ []) ≡ arc_numbers s = ap₂ (λ a b. a ++ (b ∷ [])) (two_first s (omega (arith, c.requires))) weight in
    adds_as numbers (adds_then (take 2 s) (c.from_be_bytes.result ∷ []) c.add_bytes.ensures c.add.ensures)
