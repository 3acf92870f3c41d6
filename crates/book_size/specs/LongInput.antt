-- 01: the program `plan` reads the first 65,536 bytes at most, and the first bad field of anything longer is found within them. So do `board` and `rewrite`.
use Rattle.std.specs.Prelude.{ℕ, zero, suc, ◌+◌, ◌*◌, ◌<◌, ◌≤◌, ◌≡◌, refl, true, List, [], ◌∷◌, length, get_or, take, drop}
use Rattle.std.proofs.Common.{sym, ap, ap₂, subst, ◌∙◌, zero-add, suc-add, arith, le-leb, length-drop, get_or-take, take_all, length-take-le}
use Rattle.std.proofs.Math.Decide.{dec_le}
use Rattle.std.proofs.Math.Seq.{take-nil}
use Rattle.book.specs.Reading.{reading, u16_at}
use Rattle.rules.specs.Binding.{batch_at}
use Rattle.answer.specs.Answer.{AnsweredOf, AnsweredBy, Answered}
use Rattle.board_text.specs.Board.{board_of, board_by, board_text}
use Rattle.rewriting.specs.Rewriting.{rewritten_as, rewritten}
use Rattle.book_bytes.proofs.LongBook.{reading-front}

-- The book of a long input comes after a head of k bytes.
book-front : (k m : ℕ) (s : List ℕ) → drop k (take (k + m) s) ≡ take m (drop k s)
book-front zero m s = ap (λ n. take n s) (zero-add m)
book-front (suc k) m [] = ap (drop (suc k)) (take-nil (suc k + m)) ∙ sym (take-nil m)
book-front (suc k) m (x ∷ s) = ap (λ n. drop (suc k) (take n (x ∷ s))) (suc-add k m) ∙ book-front k m s

module _ (s : List ℕ) (long : 65536 ≤ length s) where
  same-book : (k m : ℕ) → k + m ≡ 65536 → k ≤ 8 → reading (drop k (take 65536 s)) ≡ reading (drop k s)
  same-book k m e h =
      ap (λ n. reading (drop k (take n s))) (sym e) ∙ ap reading (book-front k m s) ∙ reading-front (drop k s) m (omega (arith, length-drop k s)) (omega arith)

  same_byte : (i : ℕ) → i < 65536 → get_or (take 65536 s) i 0 ≡ get_or s i 0
  same_byte i h = get_or-take 65536 s i 0 h

  same_word : (i : ℕ) → i + 1 < 65536 → u16_at (take 65536 s) i ≡ u16_at s i
  same_word i h = ap₂ (λ x y. x * 256 + y) (same_byte i (omega arith)) (same_byte (i + 1) h)

  same_batch : (i : ℕ) → i + 3 < 65536 → batch_at (take 65536 s) i ≡ batch_at s i
  same_batch i h = cc (same_word 0 (omega arith), same_byte i (omega arith), same_byte (i + 1) (omega arith), same_word (i + 2) (omega arith))

-- What is printed for the first 65,536 bytes of an input is what is printed for the whole of it.
pub first-bytes : (s text : List ℕ) → Answered (take 65536 s) text → Answered s text
first-bytes s text p = go (dec_le 65536 (length s))
  where
    go : Dec (65536 ≤ length s) → Answered s text
    go (no short) = subst (λ x. Answered x text) (take_all 65536 s (omega arith)) p
    go (yes long) =
        let size = length-take-le 65536 s long in
        let q : AnsweredBy true (take 65536 s) text = subst (λ x. AnsweredBy x (take 65536 s) text) (le-leb 8 (length (take 65536 s)) (omega (arith, size))) p in
        subst (λ x. AnsweredBy x s text) (sym (le-leb 8 (length s) (omega arith)))
        (subst (λ n. AnsweredOf (reading (drop 8 s)) (batch_at s 4) (get_or s 2 0) n text) (same_byte s long 3 (omega arith))
        (subst (λ n. AnsweredOf (reading (drop 8 s)) (batch_at s 4) n (get_or (take 65536 s) 3 0) text) (same_byte s long 2 (omega arith))
        (subst (λ b. AnsweredOf (reading (drop 8 s)) b (get_or (take 65536 s) 2 0) (get_or (take 65536 s) 3 0) text) (same_batch s long 4 (omega arith))
        (subst (λ x. AnsweredOf x (batch_at (take 65536 s) 4) (get_or (take 65536 s) 2 0) (get_or (take 65536 s) 3 0) text)
        (same-book s long 8 65528 refl (omega arith)) q))))

-- The same of `board`.
pub first_board_bytes : (s : List ℕ) → board_text (take 65536 s) ≡ board_text s
first_board_bytes s = go (dec_le 65536 (length s))
  where
    go : Dec (65536 ≤ length s) → board_text (take 65536 s) ≡ board_text s
    go (no short) = ap board_text (take_all 65536 s (omega arith))
    go (yes long) =
        ap (λ x. board_by x (take 65536 s)) (le-leb 7 (length (take 65536 s)) (omega (arith, length-take-le 65536 s long)))
        ∙ ap (λ x. board_of x (batch_at (take 65536 s) 3) (get_or (take 65536 s) 2 0)) (same-book s long 7 65529 refl (omega arith))
        ∙ ap₂ (board_of (reading (drop 7 s))) (same_batch s long 3 (omega arith)) (same_byte s long 2 (omega arith))
        ∙ ap (λ x. board_by x s) (sym (le-leb 7 (length s) (omega arith)))

-- The same of `rewrite`.
pub first_rewritten_bytes : (s : List ℕ) → rewritten (take 65536 s) ≡ rewritten s
first_rewritten_bytes s = go (dec_le 65536 (length s))
  where
    go : Dec (65536 ≤ length s) → rewritten (take 65536 s) ≡ rewritten s
    go (no short) = ap rewritten (take_all 65536 s (omega arith))
    go (yes long) = ap rewritten_as (same-book s long 0 65536 refl (omega arith))
