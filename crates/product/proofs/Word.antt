-- The laws of what specs/Word.antt defines.
use Rattle.std.specs.Prelude.{Bool, true, false, cond, ◌&&◌, ◌⊎◌, ◌≡◌, refl, ℕ, zero, suc, ◌+◌, ◌-◌, ◌*◌, ◌/◌, ◌%◌, ◌^◌, ◌<◌, ◌≤◌, min, eqb, leb, ltb, bit_and}
use Rattle.std.proofs.Common.{inl, inr, ⊎_elim, sym, ap, ap₂, ◌∙◌, true≢false, div-one, pow-suc, arith}
use Rattle.std.proofs.Math.Bool.{and-true, and-false}
use Rattle.std.proofs.Math.Dec.{leb-zero, leb-suc-zero, leb-suc-suc}
use Rattle.std.proofs.Math.Decide.{ℕ_discrete}
use Rattle.std.proofs.Math.Logic.{by_cases}
use Rattle.std.proofs.Math.Nat.{pow-succ', div-div-eq-div-mul}
use Rattle.std.proofs.lemmas.Nat.{and_le_l}
use Rattle.std.specs.Int.Bits.{and_step, and_self}
use Rattle.std.specs.Int.Count.{count_trailing_zeros, under}
use Rattle.lists.specs.Test.{either}
use Rattle.automaton.specs.Built.{bit}
use Rattle.product.specs.Word.{word, Lowest, digit}

lowest-next : {p : ℕ → Bool} {v : ℕ} → Lowest p (suc v) → Lowest (λ u. p (suc u)) v
lowest-next l = record { passes = l.passes; none_below = λ u h. l.none_below (suc u) (omega arith) }

pub word_lt : (p : ℕ → Bool) (n : ℕ) → word p n < 2 ^ n
unfolding word
word_lt p zero = omega arith
word_lt p (suc n) = go (p n) (word_lt p n)
  where
    go : (b : Bool) → word p n < 2 ^ n → cond b (word p n + 2 ^ n) (word p n) < 2 ^ suc n
    go true h = omega (arith, pow-suc 2 n)
    go false h = omega (arith, pow-suc 2 n)

-- Tests that agree below n have the same word.
pub word-same : (p p' : ℕ → Bool) (n : ℕ) → ((v : ℕ) → v < n → p v ≡ p' v) → word p n ≡ word p' n
unfolding word
word-same p p' zero h = refl
word-same p p' (suc n) h = rw (h n (omega arith), word-same p p' n (λ v l. h v (omega arith)))

-- The lowest digit apart from the others.
word-digits : (p : ℕ → Bool) (n : ℕ) → word p (suc n) ≡ digit (p 0) + word (λ v. p (suc v)) n * 2
unfolding word
word-digits p zero = go (p 0)
  where
    go : (b : Bool) → cond b 1 0 ≡ digit b + 0 * 2
    go true = refl
    go false = refl
word-digits p (suc n) = go (p (suc n)) (word-digits p n)
  where
    go : (b : Bool) → word p (suc n) ≡ digit (p 0) + word (λ v. p (suc v)) n * 2
        → cond b (word p (suc n) + 2 ^ suc n) (word p (suc n)) ≡ digit (p 0) + cond b (word (λ v. p (suc v)) n + 2 ^ n) (word (λ v. p (suc v)) n) * 2
    go true e = omega (arith, pow-suc 2 n)
    go false e = e

word-low : (p : ℕ → Bool) (n : ℕ) → word p (suc n) % 2 ≡ digit (p 0)
word-low p n = ap (λ x. x % 2) (word-digits p n) ∙ go (p 0)
  where
    go : (b : Bool) → (digit b + word (λ v. p (suc v)) n * 2) % 2 ≡ digit b
    go true = omega arith
    go false = omega arith

word-half : (p : ℕ → Bool) (n : ℕ) → word p (suc n) / 2 ≡ word (λ v. p (suc v)) n
word-half p n = ap (λ x. x / 2) (word-digits p n) ∙ go (p 0)
  where
    go : (b : Bool) → (digit b + word (λ v. p (suc v)) n * 2) / 2 ≡ word (λ v. p (suc v)) n
    go true = omega arith
    go false = omega arith

-- The trailing zeros of a word count up to its lowest vertex.
pub trailing_lowest : (k : ℕ) (p : ℕ → Bool) (n v : ℕ) → n ≤ k → v < n → Lowest p v → count_trailing_zeros k (word p n) ≡ v
unfolding count_trailing_zeros
trailing_lowest zero p n v a b l = absurd (omega arith)
trailing_lowest (suc k) p zero v a b l = absurd (omega arith)
trailing_lowest (suc k) p (suc n) zero a b l = ap (λ x. under x (count_trailing_zeros k (word p (suc n) / 2))) (word-low p n ∙ ap digit l.passes)
trailing_lowest (suc k) p (suc n) (suc v) a b l =
    ap (λ x. under x (count_trailing_zeros k (word p (suc n) / 2))) (word-low p n ∙ ap digit (l.none_below 0 (omega arith)))
    ∙ ap (λ x. suc (count_trailing_zeros k x)) (word-half p n) ∙ ap suc (trailing_lowest k (λ u. p (suc u)) n v (omega arith) (omega arith) (lowest-next l))

-- Where a vertex passes, one is the lowest.
pub lowest : (p : ℕ → Bool) (v : ℕ) → p v ≡ true → (z : ℕ) × (z ≤ v) × Lowest p z
lowest p v h = ⊎_elim (λ n. (v, omega arith, record { passes = h; none_below = n })) (λ (z, below, l). (z, omega arith, l)) (below v)
  where
    below : (n : ℕ) → ((u : ℕ) → u < n → p u ≡ false) ⊎ ((z : ℕ) × (z < n) × Lowest p z)
    below zero = inl (λ u l. absurd (omega arith))
    below (suc n) = ⊎_elim (λ none. next none (either (p n))) (λ (z, b, l). inr (z, omega arith, l)) (below n)
      where
        next : ((u : ℕ) → u < n → p u ≡ false) → (p n ≡ true) ⊎ (p n ≡ false) → ((u : ℕ) → u < suc n → p u ≡ false) ⊎ ((z : ℕ) × (z < suc n) × Lowest p z)
        next none (inl e) = inr (n, omega arith, record { passes = e; none_below = none })
        next none (inr e) = inl (λ u l. by_cases (ℕ_discrete u n) (λ same. rw same e) (λ other. none u (omega arith)))

-- The lowest vertex of a word of at most k digits that is not empty.
pub word-lowest : (k : ℕ) (p : ℕ → Bool) (n v : ℕ) → n ≤ k → v < n → p v ≡ true
    → (count_trailing_zeros k (word p n) ≤ v) × Lowest p (count_trailing_zeros k (word p n))
word-lowest k p n v a b h =
    let (z, low, l) = lowest p v h in
    rw (trailing_lowest k p n z a (omega arith) l) (low, l)

-- A word is 0 exactly if no vertex passes.
pub word-none : (p : ℕ → Bool) (n : ℕ) → word p n ≡ 0 → (v : ℕ) → v < n → p v ≡ false
unfolding word
word-none p zero e v h = absurd (omega arith)
word-none p (suc n) e v h = go (either (p n)) (word-none p n)
  where
    go : (p n ≡ true) ⊎ (p n ≡ false) → (word p n ≡ 0 → (v : ℕ) → v < n → p v ≡ false) → p v ≡ false
    go (inl t) rec = let sum : word p n + 2 ^ n ≡ 0 = rw t at e in absurd (omega (arith, word_lt p n))
    go (inr t) rec = by_cases (ℕ_discrete v n) (λ same. rw same t) (λ other. rec (rw t at e) v (omega arith))

pub word-some : (p : ℕ → Bool) (n : ℕ) → 0 < word p n → (v : ℕ) × (v < n) × (p v ≡ true)
unfolding word
word-some p zero h = absurd (omega arith)
word-some p (suc n) h = go (either (p n)) (word-some p n)
  where
    go : (p n ≡ true) ⊎ (p n ≡ false) → (0 < word p n → (v : ℕ) × (v < n) × (p v ≡ true)) → (v : ℕ) × (v < suc n) × (p v ≡ true)
    go (inl e) rec = (n, omega arith, e)
    go (inr e) rec = let (v, l, t) = rec (rw e at h) in (v, omega arith, t)

-- What a word has in common with another number, the lowest digit apart from the others.
word-and : (p : ℕ → Bool) (n w : ℕ) → bit_and (word p (suc n)) w ≡ bit_and (word (λ v. p (suc v)) n) (w / 2) * 2 + min (digit (p 0)) (w % 2)
word-and p n w = and_step (word p (suc n)) w ∙ ap₂ (λ x y. bit_and x (w / 2) * 2 + min y (w % 2)) (word-half p n) (word-low p n)

bit-low : (w : ℕ) → bit w 0 ≡ w % 2
bit-low w = ap (λ x. x % 2) (div-one w)

bit-half : (w v : ℕ) → bit w (suc v) ≡ bit (w / 2) v
bit-half w v = ap (λ x. x % 2) (ap (λ x. w / x) (pow-succ' 2 v) ∙ sym (div-div-eq-div-mul w 2 (2 ^ v)))

-- A word less what it has in common with another number: the vertices that this number does not have.
pub word-without : (p : ℕ → Bool) (n w : ℕ) → word p n - bit_and (word p n) w ≡ word (λ v. p v && eqb (bit w v) 0) n
unfolding word
word-without p zero w = refl
word-without p (suc n) w =
    ap₂ (λ x y. x - y) (word-digits p n) (word-and p n w) ∙ go (p 0) (ℕ_discrete (w % 2) 0) (word-without (λ v. p (suc v)) n (w / 2))
    ∙ ap₂ (λ x y. digit (p 0 && eqb x 0) + y * 2) (sym (bit-low w)) (word-same _ _ n (λ v l. ap (λ x. p (suc v) && eqb x 0) (sym (bit-half w v))))
    ∙ sym (word-digits (λ v. p v && eqb (bit w v) 0) n)
  where
    high : ℕ
    high = word (λ v. p (suc v)) n

    go : (b : Bool) → Dec (w % 2 ≡ 0) → {r : ℕ} → high - bit_and high (w / 2) ≡ r
        → digit b + high * 2 - (bit_and high (w / 2) * 2 + min (digit b) (w % 2)) ≡ digit (b && eqb (w % 2) 0) + r * 2
    go true (yes e) ih = rw e (omega (arith, and_le_l high (w / 2)))
    go true (no d) ih =
        let one : w % 2 ≡ 1 = omega arith in
        rw one (omega (arith, and_le_l high (w / 2)))
    go false d ih = omega (arith, and_le_l high (w / 2))

-- The lowest digit is not set in the word of the vertices above v.
word-above : (p : ℕ → Bool) (n v : ℕ) → word (λ u. p u && ltb v u) (suc n) ≡ word (λ u. p (suc u) && leb v u) n * 2
word-above p n v =
    word-digits (λ u. p u && ltb v u) n
    ∙ ap₂ (λ x y. digit x + y * 2) (ap (λ x. p 0 && x) (leb-suc-zero v) ∙ and-false (p 0)) (word-same _ _ n (λ u l. ap (λ x. p (suc u) && x) (leb-suc-suc v u)))
    ∙ omega arith

-- What a word has in common with the number before it is the word without its lowest vertex.
pub word-cleared : (p : ℕ → Bool) (n v : ℕ) → v < n → Lowest p v → bit_and (word p n) (word p n - 1) ≡ word (λ u. p u && ltb v u) n
word-cleared p zero v h l = absurd (omega arith)
word-cleared p (suc n) zero h l =
    let high = word (λ u. p (suc u)) n in
    let is : word p (suc n) ≡ 1 + high * 2 = word-digits p n ∙ ap (λ b. digit b + high * 2) l.passes in
    let half : (word p (suc n) - 1) / 2 ≡ high = omega arith in
    let low : (word p (suc n) - 1) % 2 ≡ 0 = omega arith in
    let all : word (λ u. p (suc u) && leb 0 u) n ≡ high = word-same _ _ n (λ u b. ap (λ x. p (suc u) && x) (leb-zero u) ∙ and-true (p (suc u))) in
    omega (arith, word-and p n (word p (suc n) - 1) ∙ ap₂ (λ x y. bit_and high x * 2 + min (digit (p 0)) y) half low, and_self high, word-above p n 0)
word-cleared p (suc n) (suc v) h l =
    let high = word (λ u. p (suc u)) n in
    let none : p 0 ≡ false = l.none_below 0 (omega arith) in
    let is : word p (suc n) ≡ high * 2 = word-digits p n ∙ ap (λ b. digit b + high * 2) none ∙ omega arith in
    let some : ¬ (high ≡ 0) = λ e. true≢false (sym l.passes ∙ word-none (λ u. p (suc u)) n e v (omega arith)) in
    let half : (word p (suc n) - 1) / 2 ≡ high - 1 = omega arith in
    let ih = word-cleared (λ u. p (suc u)) n v (omega arith) (lowest-next l) in
    omega (arith, word-and p n (word p (suc n) - 1) ∙ ap₂ (λ x y. bit_and high x * 2 + min (digit y) ((word p (suc n) - 1) % 2)) half none, ih, word-above p n (suc v))
