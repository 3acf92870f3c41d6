-- The laws of what specs/RefusalLaws.antt defines.
use Rattle.std.specs.Prelude
use Rattle.std.specs.Prelude.{ℕ, ◌≡◌, refl, Bool, true, false, cond, not, T, List, [], ◌∷◌, ◌++◌, Some, None}
use Rattle.std.proofs.Common.{sym, is_some}
use mathlib.Core.List.{Memᴰ}
use Rattle.std.proofs.Math.Option.{none, some, none-ne-some}
use Rattle.lists.specs.Test.{and-true, all→each}
use Rattle.book.specs.declared.Refusal.{Refusal}
use Rattle.book.specs.Refusal.{place_of, refusals_in_order, Test, first_failure, all_hold}
use Rattle.book.specs.RefusalLaws.{Hold, Fails, here, later}

-- Only a book's refusal carries a place.
pub no-place : (x : Refusal) → Memᴰ x refusals_in_order → place_of x ≡ None
no-place x m = go (place_of x) (all→each (λ y. not (is_some (place_of y))) {l = refusals_in_order} tt m)
  where
    go : (o : Prelude.Option ℕ) → T (not (is_some o)) → o ≡ None
    go None t = refl
    go (Some at) t = absurd t

-- The first that fails decides ...
pub first-fails : {ts : List Test} {r : Refusal} → Fails ts r → first_failure ts ≡ some r
first-fails (here e) = rw e refl
first-fails (later e f) = rw e (first-fails f)

-- ... and none fails exactly where all hold.
pub hold→none : (ts : List Test) → Hold ts → first_failure ts ≡ none
hold→none [] h = refl
hold→none (t ∷ ts) h = rw h.0 (hold→none ts h.1)

pub none→hold : (ts : List Test) → first_failure ts ≡ none → Hold ts
none→hold [] e = tt
none→hold (t ∷ ts) e = go t.holds refl (none→hold ts) e
  where
    go : (h : Bool) → t.holds ≡ h → (first_failure ts ≡ none → Hold ts) → cond h (first_failure ts) (some t.refusal) ≡ none → Hold (t ∷ ts)
    go true p rest q = (p, rest q)
    go false p rest q = absurd (none-ne-some _ (sym q))

pub hold→all : (ts : List Test) → Hold ts → all_hold ts ≡ true
hold→all [] h = refl
hold→all (t ∷ ts) h = rw h.0 (hold→all ts h.1)

pub all→hold : (ts : List Test) → all_hold ts ≡ true → Hold ts
all→hold [] e = tt
all→hold (t ∷ ts) e =
    let (now, rest) = and-true t.holds (all_hold ts) e in
    (now, all→hold ts rest)

pub fails→not-all : {ts : List Test} {r : Refusal} → Fails ts r → all_hold ts ≡ false
fails→not-all (here e) = rw e refl
fails→not-all (later e f) = rw e (fails→not-all f)

-- The tests of a first list decide where one of them fails, and else those of the second.
pub first-of_append : (ts us : List Test) → first_failure ts ≡ none → first_failure (ts ++ us) ≡ first_failure us
first-of_append [] us e = refl
first-of_append (t ∷ ts) us e = go t.holds (first-of_append ts us) e
  where
    go : (h : Bool) → (first_failure ts ≡ none → first_failure (ts ++ us) ≡ first_failure us) → cond h (first_failure ts) (some t.refusal) ≡ none
        → cond h (first_failure (ts ++ us)) (some t.refusal) ≡ first_failure us
    go true rest q = rest q
    go false rest q = absurd (none-ne-some _ (sym q))

pub first-kept : (ts us : List Test) (r : Refusal) → first_failure ts ≡ some r → first_failure (ts ++ us) ≡ some r
first-kept [] us r e = absurd (none-ne-some _ e)
first-kept (t ∷ ts) us r e = go t.holds (first-kept ts us r) e
  where
    go : (h : Bool) → (first_failure ts ≡ some r → first_failure (ts ++ us) ≡ some r) → cond h (first_failure ts) (some t.refusal) ≡ some r
        → cond h (first_failure (ts ++ us)) (some t.refusal) ≡ some r
    go true rest q = rest q
    go false rest q = q
