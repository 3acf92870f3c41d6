-- The chunks of a table are its entries.
use Rattle.std.proofs.Common.{◌≡◌, ℕ, zero, suc, ◌+◌, ◌*◌, ◌≤◌, List, [], ◌∷◌, ◌||◌, length, take, drop, eqb, refl, sym, ap, ap₂, subst, ◌∙◌, arith, take_at, drop_at, take-take, length-append, length-take-le}
use Rattle.std.proofs.lemmas.Iterator.{YieldsList}
use Rattle.std.proofs.lemmas.List.{drop-take}
use Rattle.std.specs.Cmp.Lexicographic.{pointwise}
use Rattle.std.specs.Iterator.{AlwaysYields}
use Rattle.std.specs.List.{list_any}
use Rattle.std.specs.Slice.Iter.{chunks_exact_steps, chunks_exact_rest, chunks_exact_size}
use Rattle.std.specs.declared.slice.ChunksExact.{ChunksExact}
use Rattle.limits.specs.Limits.{entry_size}
use Rattle.rules.specs.Binding.{member}
use Rattle.rules.specs.Area.{blocks}
use Rattle.rules.proofs.Sets.{eq-same}

chunked : (n : ℕ) (s : ChunksExact ℕ) → chunks_exact_size s ≡ entry_size → length (chunks_exact_rest s) ≡ n * entry_size
    → AlwaysYields chunks_exact_steps (λ y. y.now) s (blocks n (chunks_exact_rest s))
unfolding blocks
chunked zero s size whole = λ x t p. absurd (omega (arith, ap length p.1.0, length-append x.now (chunks_exact_rest t), p.1.1))
chunked (suc n) s size whole = (
  λ t p. omega (arith, p.1.0),
  λ x t p.
      let nine : length x.now ≡ entry_size = p.1.1 ∙ size in
      let rest : drop entry_size (chunks_exact_rest s) ≡ chunks_exact_rest t = ap (drop entry_size) p.1.0 ∙ drop_at x.now (chunks_exact_rest t) entry_size nine in (
        sym (ap (take entry_size) p.1.0 ∙ take_at x.now (chunks_exact_rest t) entry_size nine),
        subst (λ r. AlwaysYields chunks_exact_steps (λ y. y.now) t (blocks n r)) (sym rest)
            (chunked n t (p.0 ∙ size) (omega (arith, ap length p.1.0, length-append x.now (chunks_exact_rest t)))),
      ),
)

blocks-front : (n : ℕ) (t : List ℕ) → blocks n (take (n * entry_size) t) ≡ blocks n t
unfolding blocks
blocks-front zero t = refl
blocks-front (suc n) t =
    let turn : suc n * entry_size ≡ entry_size + n * entry_size = omega arith in
    ap₂ (λ e l. e ∷ l) (take-take entry_size (suc n * entry_size) t (omega arith))
    (ap (blocks n) (ap (λ m. drop entry_size (take m t)) turn ∙ drop-take entry_size (n * entry_size) t) ∙ blocks-front n (drop entry_size t))

-- the chain over the first n entries of a table
pub YieldsList-from_chunks : {s : ChunksExact ℕ} (n : ℕ) (t : List ℕ) → n * entry_size ≤ length t → chunks_exact_rest s ≡ take (n * entry_size) t → chunks_exact_size s ≡ entry_size
    → YieldsList chunks_exact_steps (λ y. y.now) s (blocks n t)
YieldsList-from_chunks {s} n t within rest size =
    record {
      runs =
          subst (AlwaysYields chunks_exact_steps (λ y. y.now) s) (ap (blocks n) rest ∙ blocks-front n t)
          (chunked n s size (ap length rest ∙ length-take-le (n * entry_size) t within));
    }

pub any-member : (e : List ℕ) (F : List (List ℕ)) → list_any (pointwise eqb e) F ≡ member e F
any-member e [] = refl
any-member e (p ∷ F) = ap₂ (λ x y. x || y) (eq-same e p) (any-member e F)
