-- By recursion: a number below 10 is one digit, and any other has one more than its tenth part.
use Rattle.std.proofs.Common.{◌≡◌, ◌+◌, ◌/◌, ◌%◌, ◌<◌, [], ◌∷◌, ◌++◌, sym, ap, ◌∙◌, arith}
use Rattle.arrayvec.specs.ArrayVec.{array_vec_len}
use Rattle.text.specs.Text.{decimal}
use Rattle.text.proofs.TextLaws.{decimal_digit, decimal-next, decimal-word}
use Rattle.text.proofs.Writing.{wrote-length, wrote-front}
use Rattle.text.proofs.+digits.Goals as goal
use Rattle.text.proofs.+digits.Goals.{then-n-lt10, else-n-lt10}

pub push-requires : goal.push-requires
push-requires t c =
    let n = c.args.n in
    let room : array_vec_len c.if-n-lt10.digits < 20 =
    elim c.if-n-lt10.branch [
      | then-n-lt10 w ↦ omega (arith, ap array_vec_len w.digits-is, wrote-length [] [] w.new-digits.ensures)
      | else-n-lt10 w ↦
          let longer = wrote-length ((48 + n % 10) ∷ []) (decimal (n / 10)) (decimal-next n w.if-n-lt10.false) in
          omega (arith, ap array_vec_len w.digits-is, wrote-length (decimal (n / 10)) [] w.digits-digits.ensures, longer, decimal-word n (omega arith))
    ] in
    (omega arith, room)

pub returns : goal.returns
returns t c =
    let n = c.args.n in
    elim c.if-n-lt10.branch [
      | then-n-lt10 w ↦
          let same : n % 10 ≡ n = omega arith in
          (wrote-front ((48 + n % 10) ∷ []) (ap (λ d. d.items) w.digits-is ∙ w.new-digits.ensures) c.push.ensures.items).1
          ∙ ap (λ k. (48 + k) ∷ []) same ∙ sym (decimal_digit n w.if-n-lt10.true)
      | else-n-lt10 w ↦
          c.push.ensures.items ∙ ap (λ d. d.items ++ ((48 + n % 10) ∷ [])) w.digits-is ∙ ap (λ ds. ds ++ ((48 + n % 10) ∷ [])) w.digits-digits.ensures
          ∙ sym (decimal-next n w.if-n-lt10.false)
    ]
