-- The lines, read off a table of ends: they are those of the best walks.
use Prim.Native.Nat.{ℕ, zero, suc, ◌+◌, ◌*◌, ◌<◌}
use Rattle.std.specs.Prelude.{cond, List, [], ◌++◌, eqb, get_or}
use Rattle.std.proofs.Math.Option.{Option, none, some}
use Rattle.walks.specs.Graph.{Graph}
use Rattle.walks.specs.Walk.{weight_of}
use Rattle.text.specs.Text.{cost_text, none_text}
use Rattle.ends.specs.Ends.{no_end}
use Rattle.board_text.specs.Board.{line_of}

-- The text of an entry with the numbers a and b.
abbrev pub entry_text : ℕ → ℕ → List ℕ
entry_text a b = cond (eqb a no_end) none_text (cost_text a b)

abbrev pub entry_line : ℕ → ℕ → ℕ → List ℕ
entry_line v a b = line_of v (entry_text a b)

-- The lines of the first n entries of the table t.
unfoldable pub table_lines : List ℕ → ℕ → List ℕ
table_lines t zero = []
table_lines t (suc n) = table_lines t n ++ entry_line n (get_or t (2 * n) 0) (get_or t (2 * n + 1) 0)

-- ---- the table of ends
-- No best walk weighs as much as the mark of none.
abbrev pub Light : Graph → Option (List ℕ) → Type 0
Light g none = Unit
Light g (some w) = weight_of g w < no_end
