-- A valid runs area spells its forbidden set, as the automaton's builder reads it.
use Prim.Native.Nat.{ℕ, ◌-◌, ◌≤◌, ◌<◌}
use mathlib.Core.List.{List, ◌++◌, append_assoc}
use Rattle.std.specs.Prelude.{◌≡◌}
use Rattle.std.proofs.Math.Path.{sym, ap, subst}
use Rattle.std.proofs.Common.{◌∙◌, arith}
use Rattle.std.proofs.Math.ListN.{length, drop, replicate, take-append-drop, length-map}
use Rattle.std.proofs.lemmas.List.{length-replicate}
use Rattle.book.specs.Book.{All, IsPath}
use Rattle.book.proofs.BookLaws.{all_map, all-member}
use Rattle.book.specs.Tables.{entries}
use Rattle.book.specs.EntryLaws.{Short}
use Rattle.book.proofs.EntryLaws.{entries_induction}
use Rattle.rules.specs.Area.{spelled, blocks}
use Rattle.limits.specs.Limits.{area_size}
use Rattle.rules.proofs.AreaLaws.{length-blocks}
use Rattle.rules.specs.ValidLaws.{Valid}
use Rattle.automaton.specs.Area.{Spells, Bounded, Given, spells_nil, spells_cons}

-- entries spell their paths, whatever stands after them
spells-entries : (F : List (List ℕ)) (rest : List ℕ) → All Short F → Spells (entries F ++ rest) (length F) F
spells-entries F rest short =
    entries_induction (λ l G. Spells l (length G) G) rest (spells_nil rest)
    (λ p G l h s. spells_cons p (replicate (8 - length p) 0) l (length G) G (omega (arith, length-replicate {A = ℕ} (8 - length p) 0)) s) F short

module _ (n : ℕ) (area : List ℕ) (count : ℕ) (few : n ≤ 64) (v : Valid n area count) where
  F : List (List ℕ)
  F = spelled count area

  counted : length F ≡ count
  unfolding F
  counted = length-map (blocks count area) _ ∙ length-blocks count area

  pub valid-spells : Spells area count (spelled count area)
  unfolding F counted
  valid-spells =
      let zeros : List ℕ = replicate (area_size - length (entries F)) 0 in
      let is : entries F ++ (zeros ++ drop area_size area) ≡ area =
      sym (append_assoc (entries F) zeros (drop area_size area)) ∙ ap (λ l. l ++ drop area_size area) (sym v.bytes) ∙ take-append-drop area_size area in
      subst (λ k. Spells area k F) counted
      (subst (λ l. Spells l (length F) F) is (spells-entries F (zeros ++ drop area_size area) (all_map (λ p h. h.eight) F v.paths)))

  pub valid-bounded : Bounded n (spelled count area)
  unfolding F
  valid-bounded =
      record {
        few-vertices = few;
        few = omega (arith, counted, v.few);
        long = λ r m. (all-member (IsPath n) F v.paths r m).two;
        short = λ r m. (all-member (IsPath n) F v.paths r m).eight;
        below = λ r m x i. all-member (λ u. u < n) r (all-member (IsPath n) F v.paths r m).below x i;
      }

  pub valid-given : Given area count n
  valid-given = record { paths = spelled count area; spells = valid-spells; bounded = valid-bounded }
