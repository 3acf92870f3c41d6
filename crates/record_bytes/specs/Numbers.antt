-- Numbers, a record and an area from bytes, high byte first.
use Rattle.std.specs.Prelude.{ℕ, ◌+◌, ◌*◌, ◌-◌, List, ◌++◌, length, get_or}
use Rattle.std.proofs.Math.ListN.{replicate}
use Rattle.trial_record.specs.declared.Record.{Record}

abbrev pub word_at : List ℕ → ℕ → ℕ
word_at s at = get_or s at 0 * 256 + get_or s (at + 1) 0

abbrev pub four_at : List ℕ → ℕ → ℕ
four_at s at = word_at s at * 65536 + word_at s (at + 2)

abbrev pub eight_at : List ℕ → ℕ → ℕ
eight_at s at = (four_at s at * 65536 + word_at s (at + 4)) * 65536 + word_at s (at + 6)

abbrev pub record_at : List ℕ → Record
record_at s =
    record {
      stage = eight_at s 0;
      start = get_or s 8 0;
      end = get_or s 9 0;
      known = eight_at s 10;
      first = eight_at s 18;
      failed = eight_at s 26;
      passed = eight_at s 34;
      litres = eight_at s 42;
      length = eight_at s 50;
    }

-- An area of n bytes: those that are given, and one value behind them.
abbrev pub area_of : ℕ → List ℕ → ℕ → List ℕ
area_of n given more = given ++ replicate (n - length given) more
