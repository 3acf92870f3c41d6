-- Pieces written one after another, told by what is still to be written.
use Rattle.std.specs.Prelude.{ℕ, ◌+◌, ◌≤◌, ◌≡◌, refl, List, [], ◌++◌, length}
use Rattle.std.proofs.Common.{sym, ap, ◌∙◌, append_assoc, append-nil, arith, length-append}

-- Behind old, all of a text is written in new but for the rest.
pub record Left (all old rest new : List ℕ) : Type 0 where
  pub is : new ++ rest ≡ old ++ all

pub left_all : {all old : List ℕ} → Left all old all old
left_all = record { is = refl }

pub left_none : {all old rest new : List ℕ} → Left all old rest new → rest ≡ [] → new ≡ old ++ all
left_none {new = new} l none = sym (append-nil new) ∙ ap (λ t. new ++ t) (sym none) ∙ l.is

-- The same is left, told otherwise.
pub left_as : {all old rest rest' new : List ℕ} → Left all old rest new → rest ≡ rest' → Left all old rest' new
left_as {new = new} l e = record { is = ap (λ t. new ++ t) (sym e) ∙ l.is }

module _ {all old new rest : List ℕ} (piece later : List ℕ) (l : Left all old rest new) (next : rest ≡ piece ++ later) where
  pub left_next : {new' : List ℕ} → new' ≡ new ++ piece → Left all old later new'
  left_next e = record { is = ap (λ t. t ++ later) e ∙ append_assoc new piece later ∙ ap (λ t. new ++ t) (sym next) ∙ l.is }

  -- The next piece has room if all has.
  pub left_room : (n : ℕ) → length old + length all ≤ n → length new + length piece ≤ n
  left_room n room =
      omega (
        arith,
        ap length l.is,
        length-append new rest,
        length-append old all,
        ap length next,
        length-append piece later,
      )
