-- What is written for the numbers that are looked at, into the part of an area that is lent.
use Rattle.std.specs.Prelude.{ℕ, ◌≡◌, refl, Bool, true, false, List, ◌++◌, leb, length, min, take, drop, Option, Some, None, Result}
use Rattle.std.proofs.Common.{sym, ap, ap₂, subst, ◌∙◌, arith, leb-true, append-nil, take_at, drop_of_length-le, length-take}
use Rattle.std.proofs.lemmas.Bool.{leb-false}
use Rattle.std.proofs.lemmas.Slice.{drop-append-drop}
use Rattle.std.proofs.Math.Seq.{take_all}
use Rattle.book.specs.declared.Refusal.{Refusal}
use Rattle.content.specs.Content.{content}
use Rattle.writing.specs.Writing.{WritingOf}
use Rattle.write_cases.specs.Inputs.{Said}
use Rattle.write_cases.specs.Kept.{most_numbers, KeptOf}
use Rattle.write_cases.specs.Writing.{WrittenAs}
use Rattle.write_cases.proofs.Enough.{kept-enough}

-- An area of which `room` bytes are lent, or all, where it has fewer; the new ones stand in front of the others.
module _ (room k : ℕ) (old new : List ℕ) (lends : k ≡ min room (length old)) (size : length new ≡ length (take k old)) where
  as_many : length new ≡ k
  as_many = omega (arith, size, length-take k old, lends)

  lent : take k old ≡ take room old
  lent = go (leb room (length old)) refl
    where
      go : (x : Bool) → leb room (length old) ≡ x → take k old ≡ take room old
      go true e = let all : k ≡ room = omega (arith, lends, leb-true _ _ e) in ap (λ n. take n old) all
      go false e =
          let more = leb-false room (length old) e in take_all k old (omega (arith, lends, more)) ∙ sym (take_all room old (omega (arith, more)))

  in-front : take room (new ++ drop k old) ≡ new
  in-front = go (leb room (length old)) refl
    where
      go : (x : Bool) → leb room (length old) ≡ x → take room (new ++ drop k old) ≡ new
      go true e = take_at new (drop k old) room (omega (arith, as_many, lends, leb-true _ _ e))
      go false e =
          let more = leb-false room (length old) e in
          ap (λ l. take room (new ++ l)) (drop_of_length-le old {i = k} (omega (arith, lends, more)))
          ∙ ap (take room) (append-nil new)
          ∙ take_all room new (omega (arith, as_many, lends))

  behind : drop room (new ++ drop k old) ≡ drop room old
  behind = drop-append-drop k old new room (omega (arith, lends)) as_many

  module _ (vertices : ℕ) (arcs sets : List ℕ) (r : Result ℕ Refusal) (is : WritingOf (content vertices arcs sets) (take k old) r new) where
    pub kept-written : (o : Option Said) → KeptOf o vertices arcs sets room → WrittenAs o old (Some r) (new ++ drop k old)
    kept-written None kept = absurd kept
    kept-written (Some x) (vertices-are, arcs-are, sets-are, room-is) =
        let all : content vertices arcs sets ≡ content x.vertices x.arcs x.sets =
        ap₂ (λ v l. content v l sets) vertices-are arcs-are
        ∙ ap (content x.vertices (take most_numbers x.arcs)) sets-are
        ∙ kept-enough x.vertices x.arcs x.sets in
        let written : WritingOf (content x.vertices x.arcs x.sets) (take room old) r new =
        subst (λ y. WritingOf y (take room old) r new) all (subst (λ l. WritingOf (content vertices arcs sets) l r new) lent is) in
        subst (λ n. WritingOf (content x.vertices x.arcs x.sets) (take n old) r (take n (new ++ drop k old)) × (drop n (new ++ drop k old) ≡ drop n old)) room-is
        (subst (λ l. WritingOf (content x.vertices x.arcs x.sets) (take room old) r l) (sym in-front) written, behind)
