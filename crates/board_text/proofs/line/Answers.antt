-- The number of a vertex has at most twenty digits, a blank one byte, and a cost at most 57.
use Rattle.std.proofs.Common.{◌≡◌, ℕ, ◌+◌, ◌^◌, ◌<◌, ◌≤◌, List, [], ◌∷◌, ◌++◌, length, arith, rules}
use Rattle.text.specs.Text.{decimal, none_text}
use Rattle.text.proofs.TextLaws.{decimal-word, adds-word}
use Rattle.text.proofs.Writing.{wrote-length}
use Rattle.board_text.proofs.line.Goals as goal

pub decimal-requires : goal.decimal-requires
decimal-requires c = (search rules, omega (arith, decimal-word c.args.v (omega arith)))

pub word-requires : goal.word-requires
word-requires c = (search rules, omega (arith, adds-word c.args.v c.args.out.now.items c.decimal.new.out.items (omega arith) c.decimal.ensures.written))

-- a number and a blank
numbered : (v : ℕ) (old mid new : List ℕ) → v < 2 ^ 64 → mid ≡ old ++ decimal v → new ≡ mid ++ (32 ∷ []) → length new ≤ length old + 21
numbered v old mid new h e f = omega (arith, adds-word v old mid h e, wrote-length (32 ∷ []) mid f)

pub word-requires-then-weight-eq-NO_END : goal.word-requires-then-weight-eq-NO_END
word-requires-then-weight-eq-NO_END c =
    (search rules, omega (arith, numbered c.args.v c.args.out.now.items c.decimal.new.out.items c.word.new.out.items (omega arith) c.decimal.ensures.written c.word.ensures.written))

pub cost_text-requires : goal.cost_text-requires
cost_text-requires c =
    (search rules, omega (arith, numbered c.args.v c.args.out.now.items c.decimal.new.out.items c.word.new.out.items (omega arith) c.decimal.ensures.written c.word.ensures.written))

pub returns-then-weight-eq-NO_END-clause-short : goal.returns-then-weight-eq-NO_END-clause-short
returns-then-weight-eq-NO_END-clause-short c =
    omega (
      arith,
      numbered c.args.v c.args.out.now.items c.decimal.new.out.items c.word.new.out.items (omega arith) c.decimal.ensures.written c.word.ensures.written,
      wrote-length none_text c.word.new.out.items c.word-then-weight-eq-NO_END.ensures.written,
    )

pub returns-else-weight-eq-NO_END-clause-short : goal.returns-else-weight-eq-NO_END-clause-short
returns-else-weight-eq-NO_END-clause-short c =
    omega (arith, numbered c.args.v c.args.out.now.items c.decimal.new.out.items c.word.new.out.items (omega arith) c.decimal.ensures.written c.word.ensures.written)
