-- The parts of an input.
use Rattle.std.proofs.Common.{◌≡◌, ◌*◌, ◌+◌, length, drop, subst, ap, ◌∙◌, arith, length-drop, Some}
use Rattle.std.proofs.lemmas.List.{take_rest}
use Rattle.write_cases.specs.Inputs.{held, sets_size, arcs_numbers, sets_numbers}
use Rattle.write_cases.proofs.InputLaws.{held-some, four, four_from, input-parts}
use Rattle.write_cases.proofs.KeptLaws.{adds_as, adds-first}
use Rattle.write_cases.proofs.input.read.Goals as goal

pub returns : goal.returns
returns c =
    let s = c.args.input.now in
    let n = c.from_be_bytes.result in
    let k = c.in_ok-at.field-0 in
    let count = c.in_ok-count.field-0.now in
    let m = c.in_ok-end.field-0 in
    let from = 3 + k + 1 in
    let (_, k-is) = held-some (n * 6) k (drop 3 s) (subst (λ rest. Some k ≡ held (n * 6) rest) (take_rest s 3) c.in_ok-at.ensures.size) in
    let (_, m-is) =
    held-some (sets_size count (drop from s)) m (drop from s)
    (subst (λ rest. Some m ≡ held (sets_size count rest) rest) (take_rest s from) c.in_ok-end.ensures.size) in
    let arcs = adds-first (arcs_numbers n (drop 3 s)) c.new-arcs.ensures (adds_as (ap (arcs_numbers n) (take_rest s 3)) c.in_ok-at.ensures.numbers) in
    let sets = adds-first (sets_numbers count (drop from s)) c.new-sets.ensures (adds_as (ap (sets_numbers count) (take_rest s from)) c.in_ok-end.ensures.numbers) in
    let rest = take_rest s (from + m) in
    input-parts s n k count m c.from.result c.from_be_bytes-2.result c.add_arcs.new.out.items c.add_sets.new.out.items c.from.ensures
    (omega (arith, c.from_be_bytes.ensures)) k-is (c.in_ok-count.ensures.lookup.3.1 0) m-is arcs sets
    (c.from_be_bytes-2.ensures ∙ ap four rest ∙ four_from s (from + m)) (omega (arith, c.in-len4-up.len_at_least, ap length rest, length-drop (from + m) s))
