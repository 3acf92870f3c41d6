-- A turn of a loop over the pairs of neighbours in a list.
use Rattle.std.proofs.Common.{◌≡◌, ℕ, ◌≤◌, List, length, get_or, take, drop, Some, ap, ◌∙◌, arith, get_or-take}
use denote.Ref.{Bor}
use Rattle.std.specs.Slice.Iter.{windows_steps, windows_rest, windows_size}
use Rattle.std.specs.declared.slice.Windows.{Windows}

-- The pair stands at the front of what is left.
pub record Turn (rest pair later : List ℕ) : Type 0 where
  pub two : 2 ≤ length rest
  pub first : get_or pair 0 0 ≡ get_or rest 0 0
  pub second : get_or pair 1 0 ≡ get_or rest 1 0
  pub next : later ≡ drop 1 rest

pub pair-turn : (s t : Windows ℕ) (pair : Bor (List ℕ)) → windows_size s ≡ 2 → windows_steps s (Some pair) t → Turn (windows_rest s) pair.now (windows_rest t)
pair-turn s t pair size p =
    let is : pair.now ≡ take 2 (windows_rest s) = p.1.1 ∙ ap (λ n. take n (windows_rest s)) size in
    record {
      two = omega (arith, p.1.0, size);
      first = ap (λ l. get_or l 0 0) is ∙ get_or-take 2 (windows_rest s) 0 0 (omega arith);
      second = ap (λ l. get_or l 1 0) is ∙ get_or-take 2 (windows_rest s) 1 0 (omega arith);
      next = p.1.2;
    }
