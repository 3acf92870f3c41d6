-- The passes that are made: they end with the first that changes none, at most one for each state, and then each entry is the least.
use Rattle.std.specs.Prelude.{ℕ, zero, suc, ◌<◌, ◌≤◌, ◌≡◌, refl, Bool, true, false, List, Decides, T}
use Rattle.std.proofs.Common.{sym, ap, ◌∙◌, true≢false, arith}
use Rattle.std.proofs.Math.Logic.{by_cases}
use Rattle.std.proofs.Math.Decide.{dec_lt}
use Rattle.lists.specs.Test.{T→true, true→T}
use Rattle.distances.specs.Edge.{Edge, Within}
use Rattle.distances.specs.Table.{at, Least, pass, passes, settled, made}
use Rattle.distances.specs.Pack.{Weighted, Targets, Answered}
use Rattle.distances.specs.Made.{Changeless, First, Short}
use Rattle.distances.proofs.PassLaws.{pass-edge, passes-least}
use Rattle.distances.proofs.Settled.{edge-settled, pass-settled, passes_stay, settled-least}
use Rattle.distances.proofs.Shorten.{passes-least-of-all}
use Rattle.distances.proofs.Bellman.{least-edge}
use Rattle.distances.proofs.Pack.{answered}

-- a table is settled where a pass changes nothing; the other way is `pass-settled`
pub settled-same : (es : List Edge) (t : List ℕ) → pass es t ≡ t → T (settled es t)
settled-same es t same = edge-settled es t (λ e m. rw same at (pass-edge t m))

-- whether a pass has left its table as it is, is whether the table is settled
pub pass-decides : (es : List Edge) (t : List ℕ) {new : List ℕ} → new ≡ pass es t → (r : Bool) → Decides r (t ≡ new) → r ≡ settled es t
pass-decides es t {new} written r (same, sure) = go r (settled es t) refl refl
  where
    go : (a b : Bool) → r ≡ a → settled es t ≡ b → a ≡ b
    go true true is s = refl
    go false false is s = refl
    go true false is s = absurd (true≢false (sym (T→true _ (settled-same es t (sym written ∙ sym (same is)))) ∙ s))
    go false true is s = absurd (true≢false (sym (sure (sym (written ∙ pass-settled es t (true→T _ s)))) ∙ is))

passes-next : (es : List Edge) (k : ℕ) (t : List ℕ) → passes es k (pass es t) ≡ passes es (suc k) t
unfolding passes
passes-next es zero t = refl
passes-next es (suc k) t = ap (pass es) (passes-next es k t)

-- where the table is first settled after k passes, one more is made
pub made-is : (es : List Edge) (n k : ℕ) (t : List ℕ) → k ≤ n → T (settled es (passes es k t)) → ((j : ℕ) → j < k → settled es (passes es j t) ≡ false) →
    made es n t ≡ suc k
unfolding made passes
made-is es zero zero t le h none = refl
made-is es zero (suc k) t le h none = absurd (omega arith)
made-is es (suc n) zero t le h none = rw (T→true (settled es t) h) refl
made-is es (suc n) (suc k) t le h none =
    rw (none 0 (omega arith)) (ap suc (made-is es n k (pass es t) (omega arith) (rw (passes-next es k t) h) (λ j l. rw (passes-next es j t) (none (suc j) (omega arith)))))

first_le : {es : List Edge} {t : List ℕ} {k : ℕ} → First es t k → (j : ℕ) → Changeless es t j → k ≤ j
first_le {es} {t} {k} f j c = by_cases (dec_lt j k) (λ l. absurd (f.earlier j l c)) (λ n. omega arith)

-- a settled table's first pass changes none
first-one : (es : List Edge) (t : List ℕ) → T (settled es t) → First es t 1
unfolding passes
first-one es t h = record { last = pass-settled es t h; earlier = earlier }
  where
    earlier : (j : ℕ) → j < 1 → Changeless es t j → ⊥
    earlier zero l c = c
    earlier (suc j) l c = absurd (omega arith)

-- any other has its first a pass later than the next table
first-next : (es : List Edge) (t : List ℕ) (k : ℕ) → settled es t ≡ false → First es (pass es t) k → First es t (suc k)
unfolding passes
first-next es t k not f = record { last = last k f.last; earlier = earlier }
  where
    last : (k : ℕ) → Changeless es (pass es t) k → Changeless es t (suc k)
    last zero c = absurd c
    last (suc k) c = rw (← passes-next es k t) c

    earlier : (j : ℕ) → j < suc k → Changeless es t j → ⊥
    earlier zero l c = c
    earlier (suc zero) l c = true≢false (sym (T→true _ (settled-same es t c)) ∙ not)
    earlier (suc (suc j)) l c = f.earlier (suc j) (omega arith) (rw (passes-next es j t) c)

first-made : (es : List Edge) (n : ℕ) (t : List ℕ) → T (settled es (passes es n t)) → First es t (made es n t)
unfolding made passes
first-made es zero t h = first-one es t h
first-made es (suc n) t h = go (settled es t) refl (first-made es n (pass es t) (rw (passes-next es n t) h))
  where
    go : (b : Bool) → settled es t ≡ b → First es (pass es t) (made es n (pass es t)) → First es t (made es (suc n) t)
    go true e f = rw e (first-one es t (true→T _ e))
    go false e f = rw e (first-next es t _ e f)

enough : (es : List Edge) (n : ℕ) (t : List ℕ) → T (settled es (passes es n t)) → passes es (made es n t) t ≡ passes es n t
unfolding made passes
enough es zero t h = pass-settled es t h
enough es (suc n) t h = go (settled es t) refl (enough es n (pass es t) (rw (passes-next es n t) h))
  where
    go : (b : Bool) → settled es t ≡ b → passes es (made es n (pass es t)) (pass es t) ≡ passes es n (pass es t) → passes es (made es (suc n) t) t ≡ passes es (suc n) t
    go true e same = rw e (pass-settled es t (true→T _ e) ∙ sym (passes_stay es t 0 (true→T _ e) (suc n) (omega arith)))
    go false e same = rw e (sym (passes-next es (made es n (pass es t)) t) ∙ same ∙ passes-next es n t)

module _ (n : ℕ) (es : List Edge) (w : Within n es) where
  -- a table with the least entry at every state is settled
  least-settled : (base t : List ℕ) → ((q : ℕ) → q < n → Least es base q (at t q)) → T (settled es t)
  least-settled base t l = edge-settled es t (least-edge n es w base t l)

  -- with a pass for each state but one the table is settled
  pub settled-last : (t : List ℕ) (k : ℕ) → n ≤ suc k → T (settled es (passes es k t))
  settled-last t k high = least-settled t (passes es k t) (passes-least-of-all n es w t k high)

  -- where a pass changes none, the table is that after a pass for each state
  pub settled-final : (t : List ℕ) (k : ℕ) → pass es (passes es k t) ≡ passes es k t → passes es k t ≡ passes es n t
  settled-final t k same = by_cases (dec_lt k n)
      (λ l. sym (passes_stay es t k (settled-same es (passes es k t) same) n (omega arith)))
      (λ l. passes_stay es t n (settled-last t n (omega arith)) k (omega arith))

  -- after the passes that are made the table is that after a pass for each state
  pub made-enough : (t : List ℕ) → passes es (made es n t) t ≡ passes es n t
  made-enough t = enough es n t (settled-last t n (omega arith))

  -- the last pass that is made is the first that changes none
  pub made-first : (t : List ℕ) → First es t (made es n t)
  made-first t = first-made es n t (settled-last t n (omega arith))

  -- where every state has a least path with at most H edges, at most one pass more than H is made
  pub made-few : (base : List ℕ) (H : ℕ) → Short H n es base → made es n base ≤ suc H
  unfolding passes
  made-few base H short = first_le (made-first base) (suc H) (pass-settled es (passes es H base) (least-settled base (passes es H base) least))
    where
      least : (q : ℕ) → q < n → Least es base q (at (passes es H base) q)
      least q h =
          let within = passes-least es base H q in
          let (p, r, path, few, e) = within.attained in
          let (p', r', path', few', low) = short q h in record {
            attained = (p, r, path, e);
            least = λ p'' r'' path''. omega (arith, within.least p' r' path' few', low p'' r'' path'');
          }

-- where a pass changes none, each entry is the weight and the number of edges of a best path, or there is none
pub settled-best : {n : ℕ} {es : List Edge} {weight : Edge → ℕ} → Weighted n es weight → (base : List ℕ) → Targets base →
    (k : ℕ) → pass es (passes es k base) ≡ passes es k base → (q : ℕ) → q < n → Answered es weight base q (at (passes es k base) q)
settled-best {n} {es} {weight} g base targets k same q h = answered g base q h targets (settled-least es base k (settled-same es (passes es k base) same) q)
