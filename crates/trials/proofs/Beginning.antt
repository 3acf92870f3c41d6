-- Begin in a book that has been read, by what its tests, gathering and the search say.
use Rattle.std.specs.Prelude.{ℕ, ◌≤◌, ◌<◌, ◌≡◌, true, List, ◌++◌, length, drop, Ok}
use Rattle.std.proofs.Math.Option.{none}
use Rattle.std.proofs.Math.Path.{ap}
use Rattle.std.proofs.Common.{sym, ap₂, subst, ◌∙◌, arith, le-leb, lt-ltb}
use Rattle.limits.specs.Limits.{area_size, longest}
use Rattle.states.specs.Chosen.{chosen}
use Rattle.book.specs.declared.Loaded.{Loaded}
use Rattle.book.specs.Book.{Book, graph}
use Rattle.book.specs.Reading.{accepted}
use Rattle.book.specs.Tables.{IsLoaded}
use Rattle.book.proofs.RefusalLaws.{hold→none}
use Rattle.rules.specs.Area.{written, spelled}
use Rattle.rules.specs.Binding.{known}
use Rattle.dates.specs.Dates.{is_date}
use Rattle.rules.proofs.Laws.{gathered_spells}
use Rattle.rules.specs.declared.Batch.{Batch}
use Rattle.routes.specs.Plan.{Searched}
use Rattle.trial_record.specs.declared.Record.{Record}
use Rattle.trial_record.specs.Steps.{Found, fresh, replanned, Recordable}
use Rattle.trial_rules.specs.Trials.{begin_tests, begin_refusal}
use Rattle.trials.specs.Operations.{answering, begun_as, first_state, beginning_of}
use Rattle.trials.specs.Replanning.{Held, held, chosen-planner, known-set, with_answer}

module _
    (b : Book) {l : Loaded} (h : IsLoaded b l) (batch : Batch) (start end : ℕ) (paths walk : List ℕ)
    (paths-fit : area_size ≤ length paths) (walk-fits : longest ≤ length walk) (start-below : start < l.counts.vertices) (end-below : end < l.counts.vertices)
    {n : ℕ} {area : List ℕ} (counted : n ≡ length (known batch b.sets)) (filled : area ≡ written (known batch b.sets))
    (f : Found) (new : List ℕ) (found : Searched (graph b) (spelled n area) start end walk f new)
  where
    start-in : start < b.count
    start-in = omega (arith, h.graph.vertices_are)

    end-in : end < b.count
    end-in = omega (arith, h.graph.vertices_are)

    unrefused : is_date batch.date ≡ true → begin_refusal batch (graph b) start end paths walk ≡ none
    unrefused dated =
        hold→none (begin_tests batch (graph b) start end paths walk)
        (le-leb _ _ paths-fit, (le-leb _ _ walk-fits, (lt-ltb _ _ start-in, (lt-ltb _ _ end-in, (dated, tt)))))

    holds : Held (graph b) (chosen (graph b) (known batch b.sets) start end) f walk new
    holds =
        held (chosen-planner b h.graph.well) (known-set batch b h.graph.well) start-in end-in f
        (subst (λ G. Searched (graph b) G start end walk f new) (gathered_spells batch b h.graph.well counted filled) found)

    pub begun-short : Recordable f
    begun-short = holds.short

    pub begun : is_date batch.date ≡ true → answering (Ok (replanned (fresh start end n) f)) (area ++ drop area_size paths) new ≡ beginning_of (accepted b) batch start end paths walk
    begun dated =
        ap (λ (z : Record). answering (Ok z) (area ++ drop area_size paths) new)
        (holds.rec-is (fresh start end n) ∙ ap (λ k. with_answer (graph b) (fresh start end k) (chosen (graph b) (known batch b.sets) start end)) counted)
        ∙ ap₂ (λ l. answering (Ok (first_state b batch start end paths walk).rec) (l ++ drop area_size paths)) filled holds.area-is
        ∙ ap (λ y. begun_as y (first_state b batch start end paths walk) paths walk) (sym (unrefused dated))
