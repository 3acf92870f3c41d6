-- The parts of the input.
use Rattle.std.specs.Prelude.{◌≡◌}
use Rattle.std.proofs.Common.{sym, refl, arith}
use Rattle.book.specs.Reading.{u32_at}
use Rattle.kinds.proofs.Parts.{parts}
use Rattle.kinds.proofs.replaying.case_of.Goals as goal

pub returns : goal.returns
returns c =
    let s = c.args.input.now in
    let n-is : c.from_be_bytes-length.result ≡ u32_at s 8 = omega (arith, c.from_be_bytes-length.ensures) in
    let p = parts s 12 (u32_at s 8) c.in_ok-bytes.bytes.now c.in_ok-bytes.reports.now c.in-len12-up.len_at_least (rw (sym n-is) c.in_ok-bytes.ensures.cases) in
    record { long = p.0; batch_is = c.from_bytes.ensures; start_is = refl; end_is = refl; bytes_are = p.1; reports_are = p.2 }
