-- The front of a stream after two reads: four bytes, and then as many as they say.
use Rattle.std.proofs.Common.{ℕ, ◌<◌, ◌≡◌, true, List, ◌++◌, length, get_or, take, drop, Option, None, Some, Result, Ok, Err, OnOk, is_ok, sym, subst, ◌∙◌, arith, take_at}
use Rattle.std.proofs.lemmas.Bool.{false≢true}
use Rattle.std.proofs.lemmas.List.{take-append-le, get_or_append_left}
use Rattle.std.proofs.Math.Seq.{drop-append_seam}
use Rattle.std.specs.Int.{from_be_bytes, w32}
use Rattle.std.specs.Io.KnownBytes.{Consumes}
use Rattle.std.proofs.KnownBytes.{Consumes-trans}
use Rattle.cases.specs.Each.{Taken}
use Rattle.cases.specs.Next.{IsFrame}

module _ {E P : Type 0} where
  -- what a call promised at `Ok`
  pub at_ok : (r : Result (Unit {0}) E) → is_ok r ≡ true → OnOk r P → P
  at_ok (Ok x) e h = h
  at_ok (Err x) e h = absurd (false≢true e)

-- The two reads took a frame, which lies in the front of the buffer.
pub frame_taken : (old mid new : Option (List ℕ)) (head part rest : List ℕ) (n : ℕ) → Consumes old mid head → Consumes mid new part → length head ≡ 4
    → length part ≡ n → n ≡ from_be_bytes w32 head → Taken (take n (part ++ rest)) old new
frame_taken old mid new head part rest n e f four size is =
    subst (λ x. Taken x old new) (sym (take_at part rest n size)) (head, four, size ∙ is, Consumes-trans old mid new head part e f)

pub frame_read : (old mid new : Option (List ℕ)) (head part rest : List ℕ) (n : ℕ) → Consumes old mid head → Consumes mid new part → length head ≡ 4 → length part ≡ n → n ≡ from_be_bytes w32 head → IsFrame n old (part ++ rest)
frame_read None mid new head part rest n e f four size is = tt
frame_read (Some xs) None new head part rest n e f four size is = absurd e
frame_read (Some xs) (Some ys) None head part rest n e f four size is = absurd f
frame_read (Some xs) (Some ys) (Some zs) head part rest n e f four size is =
    let after : drop 4 (head ++ ys) ≡ part ++ zs = rw (sym four) (drop-append_seam head ys ∙ f) in
    let same : (i : ℕ) → i < 4 → get_or (head ++ ys) i 0 ≡ get_or head i 0 = λ i h. get_or_append_left head ys 0 i (omega arith) in
    rw (e, after) (
      omega (arith, is, same 0, same 1, same 2, same 3),
      take-append-le n part rest (omega arith) ∙ sym (take-append-le n part zs (omega arith)),
    )
