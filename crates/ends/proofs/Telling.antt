-- What one turn of the loop of `tell` does, when the numbers of the vertices below v are written.
use Rattle.std.proofs.Common.{◌≡◌, refl, ℕ, suc, ◌+◌, ◌*◌, ◌<◌, List, [], ◌∷◌, ◌++◌, length, drop, set, ap, ◌∙◌, add-one, append_assoc, arith, length-append, drop-cons}
use Rattle.std.proofs.Math.Seq.{set_at}
use Rattle.ends.specs.Least.{told, numbers}
use Rattle.ends.proofs.Least.{length-numbers}

-- One more number after the first k.
written : (front old : List ℕ) (k x : ℕ) → length front ≡ k → k < length old → set (front ++ drop k old) k x ≡ (front ++ (x ∷ [])) ++ drop (k + 1) old
written front old k x size room = rw (drop-cons old k 0 room, add-one, append_assoc) (set_at front _ (drop (suc k) old) x k size)

module _ (f : ℕ → ℕ) (old : List ℕ) where
  pub telling_none : old ≡ numbers f 0 ++ drop (2 * 0) old
  unfolding numbers
  telling_none = refl

  pub telling_next : (v weight hops : ℕ) → weight ∷ hops ∷ [] ≡ told (f v) → 2 * v + 1 < length old
      → set (set (numbers f v ++ drop (2 * v) old) (2 * v) weight) (2 * v + 1) hops ≡ numbers f (v + 1) ++ drop (2 * (v + 1)) old
  unfolding numbers
  telling_next v weight hops is room =
      ap (λ l. set l (2 * v + 1) hops) (written (numbers f v) old (2 * v) weight (length-numbers f v) (omega arith))
      ∙ written front old (2 * v + 1) hops size room
      ∙ rw (next, add-one v, ← is) (ap (λ l. l ++ drop (2 * suc v) old) (append_assoc (numbers f v) (weight ∷ []) (hops ∷ [])))
    where
      front : List ℕ
      front = numbers f v ++ (weight ∷ [])

      size : length front ≡ 2 * v + 1
      size = rw length-append (omega (arith, length-numbers f v))

      next : 2 * v + 1 + 1 ≡ 2 * (v + 1)
      next = omega arith
