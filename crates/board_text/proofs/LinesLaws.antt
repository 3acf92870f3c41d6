-- The laws of what specs/Lines.antt defines.
use Prim.Native.Nat.{ℕ, zero, suc, ◌+◌, ◌*◌, ◌<◌}
use Rattle.std.specs.Prelude.{◌≡◌, Bool, true, false, cond, List, [], ◌∷◌, ◌++◌, eqb, get_or}
use Rattle.std.proofs.Math.Path.{refl, ap₂}
use Rattle.std.proofs.Common.{sym, ap, ◌∙◌, append_assoc, arith, add-one, eq-eqb, ne_eqb}
use Rattle.std.proofs.Math.Option.{Option, none, some}
use Rattle.std.proofs.Math.ListN.{get_or-append}
use Rattle.walks.specs.Graph.{Graph}
use Rattle.walks.specs.Walk.{weight_of}
use Rattle.states.specs.Chosen.{chosen}
use Rattle.text.specs.Text.{decimal, cost_text, none_text}
use Rattle.ends.specs.Ends.{no_end, entry_of, ends}
use Rattle.ends.proofs.EndsLaws.{length-ends, ends-weight, ends-hops}
use Rattle.board_text.specs.Board.{end_text, line_of, lines}
use Rattle.board_text.specs.Lines.{entry_text, entry_line, table_lines, Light}

-- It follows the vertex and a blank.
module _ (v a b : ℕ) where
  followed : (x : Bool) (text : List ℕ) → eqb a no_end ≡ x → cond x none_text (cost_text a b) ≡ text → decimal v ++ (32 ∷ []) ++ text ≡ entry_line v a b
  followed x text e is = append_assoc (decimal v) (32 ∷ []) text ∙ ap (line_of v) (sym (ap (λ y. cond y none_text (cost_text a b)) e ∙ is))

  pub none_line : a ≡ no_end → decimal v ++ (32 ∷ []) ++ none_text ≡ entry_line v a b
  none_line e = followed true none_text (eq-eqb a no_end e) refl

  pub cost_line : (a ≡ no_end → ⊥) → decimal v ++ (32 ∷ []) ++ cost_text a b ≡ entry_line v a b
  cost_line n = followed false (cost_text a b) (ne_eqb a no_end n) refl

pub table_none : (t : List ℕ) → table_lines t 0 ≡ []
unfolding table_lines
table_none t = refl

pub table-next : (t : List ℕ) (n : ℕ) → table_lines t (n + 1) ≡ table_lines t n ++ entry_line n (get_or t (2 * n) 0) (get_or t (2 * n + 1) 0)
unfolding table_lines
table-next t n = ap (table_lines t) (add-one n)

entry-text : (g : Graph) (o : Option (List ℕ)) → Light g o → entry_text (get_or (entry_of g o) 0 0) (get_or (entry_of g o) 1 0) ≡ end_text g o
entry-text g none h = refl
entry-text g (some w) h = rw (ne_eqb (weight_of g w) no_end (λ e. omega arith)) refl

module _ (g : Graph) (F : List (List ℕ)) (s : ℕ) where
  -- Entries with these texts make these lines.
  same_lines : (t : List ℕ) (n : ℕ) → ((v : ℕ) → v < n → entry_text (get_or t (2 * v) 0) (get_or t (2 * v + 1) 0) ≡ end_text g (chosen g F s v)) → table_lines t n ≡ lines g F s n
  unfolding table_lines lines
  same_lines t zero texts = refl
  same_lines t (suc n) texts = ap₂ (λ l x. l ++ line_of n x) (same_lines t n (λ v h. texts v (omega arith))) (texts n (omega arith))

  -- The lines of the table of ends, whatever stands after its entries, are those of the best walks.
  pub ends-lines : (n : ℕ) → ((v : ℕ) → Light g (chosen g F s v)) → (rest : List ℕ) → table_lines (ends g F s n ++ rest) n ≡ lines g F s n
  ends-lines n light rest = same_lines (ends g F s n ++ rest) n texts
    where
      at : (i : ℕ) → i < 2 * n → get_or (ends g F s n ++ rest) i 0 ≡ get_or (ends g F s n) i 0
      at i h = get_or-append (ends g F s n) rest 0 i (omega (arith, length-ends g F s n))

      texts : (v : ℕ) → v < n → entry_text (get_or (ends g F s n ++ rest) (2 * v) 0) (get_or (ends g F s n ++ rest) (2 * v + 1) 0) ≡ end_text g (chosen g F s v)
      texts v h =
          ap₂ entry_text (at (2 * v) (omega arith) ∙ ends-weight g F s n v h) (at (2 * v + 1) (omega arith) ∙ ends-hops g F s n v h)
          ∙ entry-text g (chosen g F s v) (light v)
