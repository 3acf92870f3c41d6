-- Laws of entries and of the runs area.
use Rattle.std.specs.Prelude.{ℕ, List, replicate}

-- ---- zeros
abbrev pub zeros : ℕ → List ℕ
zeros n = replicate n 0
