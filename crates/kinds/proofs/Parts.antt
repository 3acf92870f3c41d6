-- The parts of an input, and the answer of a check from them.
use Rattle.std.specs.Prelude.{ℕ, ◌+◌, ◌-◌, ◌≤◌, ◌≡◌, List, leb, length, take, drop, Result}
use Rattle.std.proofs.Common.{sym, ap, ap₂, ◌∙◌, arith, le-leb, length-drop, drop-drop}
use Rattle.std.proofs.Math.Seq.{take_all}
use Rattle.book.specs.declared.Refusal.{Refusal}
use Rattle.book.specs.Reading.{u16_at}
use Rattle.limits.specs.Limits.{area_size}
use Rattle.rules.specs.declared.Batch.{Batch}
use Rattle.rules.specs.AreaLaws.{zeros}
use Rattle.rules.specs.Binding.{batch_at}
use Rattle.rules.specs.Operations.{binding, bound_as, area_after}
use Rattle.kinds.specs.Inputs.{check_after, check_bound, check_by, check_input}

-- A list cut in two at n, as the library cuts it.
abbrev pub Cut : List ℕ → ℕ → List ℕ → List ℕ → Type 0
Cut xs n front back = (n ≤ length xs) × (front ≡ take n xs) × (back ≡ drop n xs) × (length front ≡ n) × (length back + n ≡ length xs)

-- What stands behind a head of h bytes, cut at n.
pub parts : (s : List ℕ) (h n : ℕ) (front back : List ℕ) → h ≤ length s → Cut (take (length s - h) (drop h s)) n front back
    → (h + n ≤ length s) × (front ≡ take n (drop h s)) × (back ≡ drop (h + n) s)
parts s h n front back long split =
    let behind : take (length s - h) (drop h s) ≡ drop h s = take_all (length s - h) (drop h s) (omega (arith, length-drop h s)) in
    let within : n ≤ length (drop h s) = rw (sym (ap length behind)) split.0 in
    (omega (arith, length-drop h s, within), split.1 ∙ ap (take n) behind, split.2 ∙ ap (drop n) behind ∙ drop-drop n h s)

-- The check of the parts, after binding has answered.
pub check-is : (s : List ℕ) (n : ℕ) (walk bytes : List ℕ) (batch : Batch) (answer : Result ℕ Refusal) (area : List ℕ)
    → 8 ≤ length s → Cut (take (length s - 8) (drop 8 s)) n walk bytes → n ≡ u16_at s 6 → batch ≡ batch_at s 2
    → answer ≡ bound_as (binding bytes batch (zeros area_size)) → area ≡ area_after (binding bytes batch (zeros area_size)) (zeros area_size)
    → check_after answer bytes area walk ≡ check_input s
check-is s n walk bytes batch answer area long split n-is batch-is answered filled =
    let p = parts s 8 n walk bytes long split in
    ap₂ (λ x t. check_after x bytes t walk) answered filled
    ∙ ap (λ (m : Batch). check_bound (binding bytes m (zeros area_size)) bytes walk) batch-is
    ∙ ap₂ (λ b w. check_bound (binding b (batch_at s 2) (zeros area_size)) b w) p.2 p.1
    ∙ ap (λ z. check_by z n s) (sym (le-leb (8 + n) (length s) p.0))
    ∙ ap (λ k. check_by (leb (8 + k) (length s)) k s) n-is
