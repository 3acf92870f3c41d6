-- What is found under the known paths of the book, and its text.
use Rattle.std.proofs.Common.{sym, subst, ◌∙◌, ap, arith, rules}
use Rattle.book.specs.Book.{graph}
use Rattle.book.proofs.LoadedLaws.{loaded}
use Rattle.rules.specs.Area.{valid}
use Rattle.rules.proofs.Laws.{gathered_valid}
use Rattle.text.specs.Text.{found_text}
use Rattle.text.proofs.Writing.{wrote-front}
use Rattle.answer.specs.Answer.{Answered}
use Rattle.answer.specs.AnswerLaws.{found-text, found-standing}
use Rattle.answer.proofs.Answering.{found, undated, answered}
use Rattle.answer.proofs.answer_plan.Goals as goal

pub find-found-requires-clause-valid_paths : goal.find-found-requires-clause-valid_paths
find-found-requires-clause-valid_paths c =
    let f = loaded _ c.in_ok-book.book c.in_ok-book.ensures in
    let (counted, filled) = c.gather-count.ensures f.book f.tables.sets in
    ap (λ n. valid n c.gather-count.new.area c.gather-count.result) (c.arcs.ensures.vertices ∙ f.tables.graph.vertices_are)
    ∙ gathered_valid _ f.book f.tables.graph.well counted filled

pub found_text-requires : goal.found_text-requires
found_text-requires c =
    let f = loaded _ c.in_ok-book.book c.in_ok-book.ensures in
    let p =
    found _ c.in_ok-book.book f _ _ _ c.gather-count.result c.gather-count.new.area (c.gather-count.ensures f.book f.tables.sets)
    c.arcs.result.vertices c.arcs.result.weights.now c.arcs.ensures.vertices c.arcs.ensures.weights _ c.find-found.new.walk c.find-found.result c.find-found.ensures in
    (search rules, (found-standing (graph f.book) _ _ _ _ _ c.find-found.result p, search rules))

pub returns-then-not-is_valid : goal.returns-then-not-is_valid
returns-then-not-is_valid c =
    let f = loaded _ c.in_ok-book.book c.in_ok-book.ensures in
    record {
      written = (
        c.requires.blank,
        undated c.args.input.now c.in_ok-book.book c.in-len8-up.len_at_least f (omega arith) (omega arith) c.from_bytes-batch.result c.from_bytes-batch.ensures
            (sym c.is_valid.ensures ∙ c.if-not-is_valid.true),
      );
    }

pub returns : goal.returns
returns c =
    let s = c.args.input.now in
    let f = loaded _ c.in_ok-book.book c.in_ok-book.ensures in
    let p =
    found _ c.in_ok-book.book f _ _ _ c.gather-count.result c.gather-count.new.area (c.gather-count.ensures f.book f.tables.sets)
    c.arcs.result.vertices c.arcs.result.weights.now c.arcs.ensures.vertices c.arcs.ensures.weights _ c.find-found.new.walk c.find-found.result c.find-found.ensures in
    let text = found_text c.find-found.result c.find-found.new.walk in
    let right =
    subst (Answered s) (sym (wrote-front text c.requires.blank c.found_text.ensures.written).1)
    (answered s c.in_ok-book.book c.in-len8-up.len_at_least f (omega arith) (omega arith) c.from_bytes-batch.result c.from_bytes-batch.ensures (sym c.is_valid.ensures ∙ c.if-not-is_valid.false) text
    (found-text (graph f.book) _ _ _ _ _ c.find-found.result p)) in
    record { written = record { answered = right; within = c.found_text.ensures.within } }
