-- The record, by what its tests say.
use Rattle.std.proofs.Common.{◌≡◌, ℕ, Bool, true, false, cond, ◌&&◌, List, [], ◌∷◌, ◌++◌, eqb, refl, sym, ap, ◌∙◌}
use Rattle.walks.specs.Graph.{from_arcs}
use Rattle.book.specs.Book.{Book, graph}
use Rattle.book.specs.Refusal.{Test, test, all_hold}
use Rattle.trial_record.specs.declared.Record.{Record}
use Rattle.trial_rules.specs.Trials.{none_stands, one_stands, number_tests, is_record}
use Rattle.judging.specs.Judging.{state_of}

last-test : (ts : List Test) (n : ℕ) (x : Bool) → all_hold (ts ++ (test n x ∷ [])) ≡ all_hold ts && x
last-test [] n true = refl
last-test [] n false = refl
last-test (t ∷ ts) n x = go t.holds (last-test ts n x)
  where
    go : (y : Bool) → all_hold (ts ++ (test n x ∷ [])) ≡ all_hold ts && x → y && all_hold (ts ++ (test n x ∷ [])) ≡ y && all_hold ts && x
    go true e = e
    go false e = refl

module _ (b : Book) (r : Record) (paths walk : List ℕ) {vertices : ℕ} {x : Bool} (count : vertices ≡ b.count) (numbers : x ≡ all_hold (number_tests (from_arcs vertices []) (state_of r [] []))) where
  by_numbers : is_record (graph b) (state_of r paths walk) ≡ x && cond (eqb r.stage 2) (none_stands (state_of r paths walk)) (one_stands (graph b) (state_of r paths walk))
  unfolding is_record
  by_numbers =
      last-test (number_tests (graph b) (state_of r paths walk)) 9 (cond (eqb r.stage 2) (none_stands (state_of r paths walk)) (one_stands (graph b) (state_of r paths walk)))
      ∙ ap (λ y. y && cond (eqb r.stage 2) (none_stands (state_of r paths walk)) (one_stands (graph b) (state_of r paths walk)))
      (sym (numbers ∙ ap (λ n. all_hold (number_tests (from_arcs n []) (state_of r [] []))) count))

  pub misfit : x ≡ false → false ≡ is_record (graph b) (state_of r paths walk)
  misfit e = sym (by_numbers ∙ rw e)

  -- where the numbers fit, the stage says what is to stand
  pub by_stage : x ≡ true → (y : Bool) → eqb r.stage 2 ≡ y → cond y (none_stands (state_of r paths walk)) (one_stands (graph b) (state_of r paths walk)) ≡ is_record (graph b) (state_of r paths walk)
  by_stage e y is = sym (by_numbers ∙ rw (e, is))
