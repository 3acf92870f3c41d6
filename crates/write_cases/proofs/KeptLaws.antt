-- Laws of numbers of which the first are kept.
use Rattle.std.specs.Prelude.{ℕ, ◌≤◌, ◌<◌, ◌≡◌, List, [], ◌∷◌, ◌++◌, length, take}
use Rattle.std.proofs.Common.{sym, ap, ◌∙◌, arith, append_assoc, append-nil, length-append, length-take}
use Rattle.std.proofs.lemmas.List.{take-append-le}
use Rattle.std.proofs.Math.Seq.{take_all}
use Rattle.write_cases.specs.Kept.{most_numbers, Adds}

-- one number more, where there is room and where there is none
pub adds_one : (x : ℕ) (old new : List ℕ) → length old < most_numbers → new ≡ old ++ (x ∷ []) → Adds (x ∷ []) old new
adds_one x old new room is xs e =
    let few : length xs < most_numbers = omega (arith, ap length e, length-take most_numbers xs) in
    is ∙ ap (λ l. l ++ (x ∷ [])) (e ∙ take_all most_numbers xs (omega arith))
    ∙ sym (take_all most_numbers (xs ++ (x ∷ [])) (omega (arith, few, length-append xs (x ∷ []))))

pub adds_no_more : (more old : List ℕ) → most_numbers ≤ length old → Adds more old old
adds_no_more more old full xs e =
    e ∙ sym (take-append-le most_numbers xs more (omega (arith, full, ap length e, length-take most_numbers xs)))

pub adds_none : (old : List ℕ) → Adds [] old old
adds_none old xs e = e ∙ ap (take most_numbers) (sym (append-nil xs))

pub adds_then : (x y : List ℕ) {old mid new : List ℕ} → Adds x old mid → Adds y mid new → Adds (x ++ y) old new
adds_then x y first second xs e = second (xs ++ x) (first xs e) ∙ ap (take most_numbers) (append_assoc xs x y)

pub adds_as : {x y old new : List ℕ} → x ≡ y → Adds x old new → Adds y old new
adds_as e adds xs is = adds xs is ∙ ap (λ l. take most_numbers (xs ++ l)) e

pub adds-first : (x : List ℕ) {old new : List ℕ} → old ≡ [] → Adds x old new → new ≡ take most_numbers x
adds-first x e adds = adds [] e
