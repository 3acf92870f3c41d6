-- The laws of a text that stands in a lent slice: how one piece of text follows another.
use Rattle.std.proofs.Common.{ℕ, suc, ◌+◌, ◌≤◌, ◌<◌, ◌≡◌, refl, List, [], ◌∷◌, ◌++◌, length, set, take, drop, get_or, sym, ap, ap₂, subst, ◌∙◌, arith, add-one, length-append, take-suc}
use Rattle.std.proofs.lemmas.List.Edits.{sets, sets-eq}
use Rattle.std.proofs.Math.Seq.{length-sets}
use Rattle.text.specs.Lent.{StandsAt}

sets_append : (t u l : List ℕ) (at : ℕ) → sets l at (t ++ u) ≡ sets (sets l at t) (at + length t) u
sets_append [] u l at = ap (λ k. sets l k u) (omega arith)
sets_append (x ∷ t) u l at =
    sets_append t u (set l at x) (suc at) ∙ ap (λ k. sets (sets (set l at x) (suc at) t) k u) (omega arith)

pub stands-length : {t : List ℕ} {at r : ℕ} {old new : List ℕ} → StandsAt t at old r new → length new ≡ length old
stands-length {t} {at} {r} {old} w = ap length w.bytes ∙ length-sets old at t

-- One text after another.
pub stands_then : {t u : List ℕ} {at m r : ℕ} {old mid new : List ℕ} → StandsAt t at old m mid → StandsAt u m mid r new → StandsAt (t ++ u) at old r new
stands_then {t} {u} {at} {m} {r} {old} {mid} {new} p q =
    record {
      place = omega (arith, length-append t u, p.place, q.place);
      fits = omega (arith, q.fits, stands-length p);
      bytes = q.bytes ∙ ap₂ (λ o k. sets o k u) p.bytes p.place ∙ sym (sets_append t u old at);
    }

-- Nothing, and one byte.
pub stands_none : (at : ℕ) (old : List ℕ) → at ≤ length old → StandsAt [] at old at old
stands_none at old h = record { place = omega arith; fits = h; bytes = refl }

pub stands-byte : (x at : ℕ) (old : List ℕ) → at < length old → StandsAt (x ∷ []) at old (at + 1) (set old at x)
stands-byte x at old h = record { place = refl; fits = omega arith; bytes = refl }

pub stands_as : {t u : List ℕ} {at r : ℕ} {old new : List ℕ} → t ≡ u → StandsAt t at old r new → StandsAt u at old r new
stands_as {at = at} {r} {old} {new} e w = subst (λ x. StandsAt x at old r new) e w

-- A byte more of a word.
pub stands-next : (s : List ℕ) (at i : ℕ) {old new : List ℕ} → i < length s → at + i < length new → StandsAt (take i s) at old (at + i) new
    → StandsAt (take (i + 1) s) at old (at + (i + 1)) (set new (at + i) (get_or s i 0))
stands-next s at i {old} {new} h l w =
    let one = stands_as (sym (take-suc s i 0 h) ∙ ap (λ k. take k s) (sym (add-one i))) (stands_then w (stands-byte (get_or s i 0) (at + i) new l)) in
    record { place = omega (arith, one.place); fits = omega (arith, one.fits); bytes = one.bytes }

-- A text that was written from the front on: the text, and then the bytes that were there.
pub stands-front : {t : List ℕ} {r : ℕ} {old new : List ℕ} → StandsAt t 0 old r new → (r ≡ length t) × (new ≡ t ++ drop r old)
stands-front {t} {r} {old} {new} w =
    let size : r ≡ length t = omega (arith, w.place) in
    (size, w.bytes ∙ sets-eq t old 0 (omega (arith, w.fits, w.place)) ∙ ap (λ k. t ++ drop k old) (sym w.place))
