-- The laws of what specs/Board.antt defines.
use Rattle.std.specs.Prelude.{◌+◌, ◌*◌, ◌≡◌, refl, [], ◌∷◌, ◌++◌}
use Rattle.std.proofs.Common.{ap, ◌∙◌, arith}
use Rattle.dates.proofs.CalendarLaws.{date-is}
use Rattle.text.specs.Text.{digits}
use Rattle.board_text.specs.Board.{board_text}
use Rattle.board_text.specs.Lines.{table_lines}
use Rattle.board_text.proofs.BoardLaws.{board_text_lem}
use Rattle.examples.specs.Batches.{ForDateBytes}
use Rattle.examples.specs.Books.{bytes_a, book_a, book-A}
use Rattle.examples.proofs.Ends.{ends-0, ends-3}
use Rattle.examples.specs.Printed.{refused-at-0}
use Rattle.examples.specs.Board.{lines-0, lines-3}

pub printed_0 : ForDateBytes (λ date. board_text ((0 ∷ 3 ∷ 0 ∷ []) ++ (date ++ bytes_a)) ≡ lines-0)
unfolding table_lines digits
printed_0 day month high low valid =
    board_text_lem (0 ∷ 3 ∷ 0 ∷ day ∷ month ∷ high ∷ low ∷ bytes_a) book_a (omega arith) book-A (omega arith) ((date-is _).1 valid)
    ∙ ap (λ t. table_lines t 4) (ends-0 (record { day = day; month = month; year = high * 256 + low }))

pub printed_3 : ForDateBytes (λ date. board_text ((0 ∷ 3 ∷ 3 ∷ []) ++ (date ++ bytes_a)) ≡ lines-3)
unfolding table_lines digits
printed_3 day month high low valid =
    board_text_lem (0 ∷ 3 ∷ 3 ∷ day ∷ month ∷ high ∷ low ∷ bytes_a) book_a (omega arith) book-A (omega arith) ((date-is _).1 valid)
    ∙ ap (λ t. table_lines t 4) (ends-3 (record { day = day; month = month; year = high * 256 + low }))

-- Six bytes: `REFUSED 1 AT 0`
pub short_printed : board_text (0 ∷ 3 ∷ 0 ∷ 1 ∷ 5 ∷ 7 ∷ []) ≡ refused-at-0 49
unfolding digits
short_printed = refl
