-- Laws of the digits of a number, and how long a text is.
use Rattle.std.specs.Prelude.{ℕ, zero, suc, ◌+◌, ◌*◌, ◌-◌, ◌/◌, ◌%◌, ◌^◌, ◌≤◌, ◌<◌, ◌≡◌, refl, Bool, true, false, cond, List, [], ◌∷◌, ◌++◌, ltb, length, take, drop, get_or}
use Rattle.std.proofs.Common.{sym, ap, subst, ◌∙◌, append_assoc, append-nil, arith, pow-suc, ltb-true, ltb-false, lt-ltb, le-ltb, length-append, take-suc}
use Rattle.std.proofs.Math.Decide.{dec_lt}
use Rattle.std.proofs.Math.ListN.{get_or-append}
use Rattle.std.proofs.lemmas.List.{get_or_at}
use Rattle.text.specs.Text.{digits, decimal, followed, vertices}
use Rattle.text.proofs.Writing.{wrote-length}

-- one digit more
digits-next : (most n : ℕ) → digits (suc most) n ≡ cond (ltb n 10) ((48 + n) ∷ []) (digits most (n / 10) ++ ((48 + n % 10) ∷ []))
unfolding digits
digits-next most n = refl

-- Room for more digits than a number has changes nothing.
digits-enough : (k m n : ℕ) → n < k → n < m → digits k n ≡ digits m n
digits-enough zero m n h l = absurd (omega arith)
digits-enough (suc k) zero n h l = absurd (omega arith)
digits-enough (suc k) (suc m) n h l =
    digits-next k n ∙ go (ltb n 10) refl (λ ten. digits-enough k m (n / 10) (omega arith) (omega arith)) ∙ sym (digits-next m n)
  where
    go : (x : Bool) → ltb n 10 ≡ x → (10 ≤ n → digits k (n / 10) ≡ digits m (n / 10))
        → cond x ((48 + n) ∷ []) (digits k (n / 10) ++ ((48 + n % 10) ∷ [])) ≡ cond x ((48 + n) ∷ []) (digits m (n / 10) ++ ((48 + n % 10) ∷ []))
    go true e before = refl
    go false e before = ap (λ d. d ++ ((48 + n % 10) ∷ [])) (before (ltb-false n 10 e))

pub decimal_digit : (n : ℕ) → n < 10 → decimal n ≡ (48 + n) ∷ []
decimal_digit n h = digits-next n n ∙ ap (λ x. cond x ((48 + n) ∷ []) (digits n (n / 10) ++ ((48 + n % 10) ∷ []))) (lt-ltb n 10 h)

pub decimal-next : (n : ℕ) → 10 ≤ n → decimal n ≡ decimal (n / 10) ++ ((48 + n % 10) ∷ [])
decimal-next n h =
    digits-next n n
    ∙ ap (λ x. cond x ((48 + n) ∷ []) (digits n (n / 10) ++ ((48 + n % 10) ∷ []))) (le-ltb n 10 h)
    ∙ ap (λ d. d ++ ((48 + n % 10) ∷ [])) (digits-enough n (suc (n / 10)) (n / 10) (omega arith) (omega arith))

-- A number below 10 ^ (k + 1) has at most k + 1 digits.
decimal-short : (n : ℕ) → ltb n 10 ≡ true → length (decimal n) ≤ 1
decimal-short n e = omega (arith, ap length (decimal_digit n (ltb-true n 10 e)))

decimal-longer : (n k : ℕ) → ltb n 10 ≡ false → length (decimal (n / 10)) ≤ k → length (decimal n) ≤ suc k
decimal-longer n k e h =
    omega (arith, ap length (decimal-next n (ltb-false n 10 e)) ∙ length-append (decimal (n / 10)) ((48 + n % 10) ∷ []))

decimal-length : (k n : ℕ) → n < 10 ^ suc k → length (decimal n) ≤ suc k
decimal-length zero n h = decimal-short n (lt-ltb n 10 (omega arith))
decimal-length (suc k) n h = go (ltb n 10) refl (decimal-length k (n / 10) (omega (arith, pow-suc 10 (suc k))))
  where
    go : (x : Bool) → ltb n 10 ≡ x → length (decimal (n / 10)) ≤ suc k → length (decimal n) ≤ suc (suc k)
    go true e before = omega (arith, decimal-short n e)
    go false e before = decimal-longer n (suc k) e before

pub decimal-word : (n : ℕ) → n < 2 ^ 64 → length (decimal n) ≤ 20
decimal-word n h = decimal-length 19 n (omega arith)

pub decimal-byte : (n : ℕ) → n < 256 → length (decimal n) ≤ 3
decimal-byte n h = decimal-length 2 n (omega arith)

-- A number adds no more than its digits to what stands.
pub adds-word : (n : ℕ) (old new : List ℕ) → n < 2 ^ 64 → new ≡ old ++ decimal n → length new ≤ length old + 20
adds-word n old new h e = omega (arith, decimal-word n h, wrote-length (decimal n) old e)

pub adds-byte : (n : ℕ) (old new : List ℕ) → n < 256 → new ≡ old ++ decimal n → length new ≤ length old + 3
adds-byte n old new h e = omega (arith, decimal-byte n h, wrote-length (decimal n) old e)

-- ---- what the digits say
-- A text of digits, read as a number after n.
abbrev pub value_from : ℕ → List ℕ → ℕ
value_from n [] = n
value_from n (d ∷ ds) = value_from (n * 10 + (d - 48)) ds

value-last : (n : ℕ) (ds : List ℕ) (d : ℕ) → value_from n (ds ++ (d ∷ [])) ≡ value_from n ds * 10 + (d - 48)
value-last n [] d = refl
value-last n (e ∷ ds) d = value-last (n * 10 + (e - 48)) ds d

-- The digits of n, 0 as 48 to 9 as 57: read back they give n, and the first is 0 only where n is.
pub record Digits (n : ℕ) (ds : List ℕ) : Type 0 where
  pub nonempty : 0 < length ds
  pub reads : value_from 0 ds ≡ n
  pub no_leading_zero : 0 < n → 48 < get_or ds 0 0
  pub each : (i : ℕ) → i < length ds → (48 ≤ get_or ds i 0) × (get_or ds i 0 ≤ 57)

one-digit : (n : ℕ) → n < 10 → Digits n ((48 + n) ∷ [])
one-digit n h = record { nonempty = omega arith; reads = omega arith; no_leading_zero = λ p. omega arith; each = each }
  where
    each : (i : ℕ) → i < 1 → (48 ≤ get_or ((48 + n) ∷ []) i 0) × (get_or ((48 + n) ∷ []) i 0 ≤ 57)
    each zero l = (omega arith, omega arith)
    each (suc i) l = absurd (omega arith)

-- one more, behind those of the tenth part
last-digit : (n : ℕ) (ds : List ℕ) → 10 ≤ n → Digits (n / 10) ds → Digits n (ds ++ ((48 + n % 10) ∷ []))
last-digit n ds ten p =
    record {
      nonempty = omega (arith, length-append ds (d ∷ []), p.nonempty);
      reads = value-last 0 ds d ∙ omega (arith, p.reads);
      no_leading_zero = λ q. rw (get_or-append ds (d ∷ []) 0 0 p.nonempty) (p.no_leading_zero (omega arith));
      each = λ i l. place i (dec_lt i (length ds)) (subst (λ k. i < k) (length-append ds (d ∷ [])) l);
    }
  where
    d : ℕ
    d = 48 + n % 10

    place : (i : ℕ) → Dec (i < length ds) → i < length ds + 1 → (48 ≤ get_or (ds ++ (d ∷ [])) i 0) × (get_or (ds ++ (d ∷ [])) i 0 ≤ 57)
    place i (yes h) l = rw (get_or-append ds (d ∷ []) 0 i h) (p.each i h)
    place i (no h) l =
        let end : i ≡ length ds = omega arith in
        let is : get_or (ds ++ (d ∷ [])) i 0 ≡ d = get_or_at ds d [] 0 i (sym end) in
        (omega (arith, is), omega (arith, is))

digits_are : (k n : ℕ) → n < k → Digits n (digits k n)
digits_are zero n h = absurd (omega arith)
digits_are (suc k) n h = subst (Digits n) (sym (digits-next k n)) (go (ltb n 10) refl (λ ten. digits_are k (n / 10) (omega arith)))
  where
    go : (x : Bool) → ltb n 10 ≡ x → (10 ≤ n → Digits (n / 10) (digits k (n / 10)))
        → Digits n (cond x ((48 + n) ∷ []) (digits k (n / 10) ++ ((48 + n % 10) ∷ [])))
    go true e before = one-digit n (ltb-true n 10 e)
    go false e before = last-digit n (digits k (n / 10)) (ltb-false n 10 e) (before (ltb-false n 10 e))

pub decimal-is : (n : ℕ) → Digits n (decimal n)
decimal-is n = digits_are (suc n) n (omega arith)

-- Vertices, each after a blank.
pub followed-none : followed [] ≡ []
unfolding followed
followed-none = refl

followed_append : (v w : List ℕ) → followed (v ++ w) ≡ followed v ++ followed w
unfolding followed
followed_append [] w = refl
followed_append (u ∷ v) w = ap (λ t. (32 ∷ decimal u) ++ t) (followed_append v w) ∙ sym (append_assoc (32 ∷ decimal u) (followed v) (followed w))

followed-one : (v : ℕ) → followed (v ∷ []) ≡ 32 ∷ decimal v
unfolding followed
followed-one v = ap (λ t. 32 ∷ t) (append-nil (decimal v))

pub followed-next : (w : List ℕ) (i : ℕ) → i < length w → followed (take (suc i) w) ≡ followed (take i w) ++ (32 ∷ decimal (get_or w i 0))
followed-next w i h = ap followed (take-suc w i 0 h) ∙ followed_append (take i w) (get_or w i 0 ∷ []) ∙ ap (λ t. followed (take i w) ++ t) (followed-one (get_or w i 0))

-- The first vertex and those after it.
pub vertices-split : (w : List ℕ) → 1 ≤ length w → decimal (get_or w 0 0) ++ followed (drop 1 w) ≡ vertices w
vertices-split [] h = absurd (omega arith)
vertices-split (v ∷ w) h = refl
