-- The two reads took the frame at the stream's front.
use Rattle.std.proofs.Common.{rules, sym, ap, is_some, ◌∙◌}
use Rattle.cases.proofs.Frame.{at_ok, frame_taken, frame_read}
use Rattle.cases.proofs.next_case.Goals as goal

pub returns-clause-taken : goal.returns-clause-taken
returns-clause-taken g c =
    let first = at_ok c.read_exact.result (sym c.ok.ensures.variant ∙ ap is_some c.in_ok-ok.was) c.read_exact.ensures.bytes in
    let second = at_ok c.read_exact-2.result (sym c.ok-2.ensures.variant ∙ ap is_some c.in_ok-ok-2.was) c.read_exact-2.ensures.bytes in
    frame_taken _ _ _ c.read_exact.new.buf c.read_exact-2.new.buf _ _ first second (search rules) (search rules) c.from_be_bytes-size.ensures

pub returns-clause-framed : goal.returns-clause-framed
returns-clause-framed g c =
    let first = at_ok c.read_exact.result (sym c.ok.ensures.variant ∙ ap is_some c.in_ok-ok.was) c.read_exact.ensures.bytes in
    let second = at_ok c.read_exact-2.result (sym c.ok-2.ensures.variant ∙ ap is_some c.in_ok-ok-2.was) c.read_exact-2.ensures.bytes in
    frame_read _ _ _ c.read_exact.new.buf c.read_exact-2.new.buf _ _ first second (search rules) (search rules) c.from_be_bytes-size.ensures
