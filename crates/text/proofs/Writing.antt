-- What a function that writes text leaves, and how one piece of text follows another.
use Rattle.std.proofs.Common.{ℕ, ◌+◌, ◌≤◌, ◌<◌, ◌≡◌, refl, List, [], ◌∷◌, ◌++◌, length, take, get_or, sym, ap, ◌∙◌, arith, add-one, length-append, take-suc, take_at, append-nil, append_assoc}

-- The text stands behind what stood.
abbrev pub Wrote : List ℕ → List ℕ → List ℕ → Type 0
Wrote text old new = new ≡ old ++ text

pub wrote-length : (t old : List ℕ) {new : List ℕ} → Wrote t old new → length new ≡ length old + length t
wrote-length t old w = ap length w ∙ length-append old t

-- One text after another.
pub wrote_then : (t u old : List ℕ) {mid new : List ℕ} → Wrote t old mid → Wrote u mid new → Wrote (t ++ u) old new
wrote_then t u old p q = q ∙ ap (λ o. o ++ u) p ∙ append_assoc old t u

-- Nothing, and one byte.
pub wrote_none : (old : List ℕ) → Wrote [] old old
wrote_none old = sym (append-nil old)

pub wrote-byte : (x : ℕ) (old : List ℕ) → Wrote (x ∷ []) old (old ++ (x ∷ []))
wrote-byte x old = refl

pub wrote_as : (old : List ℕ) {t u new : List ℕ} → t ≡ u → Wrote t old new → Wrote u old new
wrote_as old e w = w ∙ ap (λ x. old ++ x) e

-- A byte more of a word.
pub wrote-next : (s : List ℕ) (i : ℕ) (old : List ℕ) {new : List ℕ} → i < length s → Wrote (take i s) old new
    → Wrote (take (i + 1) s) old (new ++ (get_or s i 0 ∷ []))
wrote-next s i old {new} h w =
    wrote_as old (sym (take-suc s i 0 h) ∙ ap (λ k. take k s) (sym (add-one i))) (wrote_then (take i s) (get_or s i 0 ∷ []) old w (wrote-byte (get_or s i 0) new))

-- A text that was written where nothing stood: it alone stands there.
pub wrote-front : (t : List ℕ) {old new : List ℕ} → old ≡ [] → Wrote t old new → (length new ≡ length t) × (new ≡ t)
wrote-front t {old} {new} blank w = let is : new ≡ t = w ∙ ap (λ o. o ++ t) blank in (ap length is, is)

-- What stands in front, r bytes long: what stood before a text was written, or that text where nothing stood before.
module _ (t rest : List ℕ) {r : ℕ} {new : List ℕ} (size : r ≡ length t) (bytes : new ≡ t ++ rest) where
  pub front-text : take r new ≡ t
  front-text = ap (take r) bytes ∙ take_at t rest r (sym size)

  pub front-size : r ≡ length (take r new)
  front-size = size ∙ ap length (sym front-text)

  pub front-within : r ≤ length new
  front-within = omega (arith, size, ap length bytes ∙ length-append t rest)
