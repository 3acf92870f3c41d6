-- What a lab is told of a run that it names, proved: one of four conditions fails first, or all hold and the run is taken; each of what it is told follows from that.
use Rattle.std.specs.Prelude.{ℕ, ◌≤◌, ◌<◌, ◌≡◌, refl, ◌⊎◌, ◌≢◌, cond, eqb, length, take, Result, Ok, Err}
use Rattle.std.proofs.Common.{sym, ap, subst, ◌∙◌, inl, inr, ⊎_elim, arith}
use Rattle.std.proofs.lemmas.Bool.{cases_lt}
use mathlib.Core.List.Memᴰ
use mathlib.Core.List.{List, [], ◌∷◌, Memᴰ}
use Rattle.walks.specs.Avoid.{Occurs}
use Rattle.walks.specs.Best.{Feasible}
use Rattle.states.specs.Chosen.{chosen}
use Rattle.book.specs.declared.Refusal.{Refusal}
use Rattle.book.specs.declared.Refusal.TheVariants.{Ended, PathLength, NoVertex, NotStanding, Full}
use Rattle.book.specs.Refusal.{Test, number_of}
use Rattle.book.specs.Book.{Book, All, IsPath, graph}
use Rattle.book.proofs.BookLaws.{all-member}
use Rattle.book.specs.Reading.{accepted, reading, book_in}
use Rattle.rules.specs.Area.{spelled}
use Rattle.trial_record.specs.declared.Record.{Record}
use Rattle.trial_rules.specs.Trials.{State, failed, said_tests, step}
use Rattle.judging.specs.Judging.{state_of}
use Rattle.trials.specs.declared.Rejected.{Rejected}
use Rattle.trials.specs.Operations.{rejected, answering, reported_as, reporting}
use Rattle.trials.specs.OperationLaws.{rejected-for}
use Rattle.demands.specs.Conditions.{Condition, AllHold, FirstFails, Decides}
use Rattle.demands.proofs.Conditions.{zero_one, first_some, decided, number-among}
use Rattle.demands.specs.Asked.{said_conditions, report_conditions}
use Rattle.demands.proofs.Asked.{conditions, said-decides}
use Rattle.demands.specs.Demands.{IsRun, InOrder, Tried, RefusedUnder, Told}
use Rattle.demands.proofs.RefusalLaws.{refusals}

-- All vertices of a path are below a count, or one is not.
all-below_or : (n : ℕ) (r : List ℕ) → All (λ v. v < n) r ⊎ ((v : ℕ) × Memᴰ v r × (n ≤ v))
all-below_or n [] = inl tt
all-below_or n (v ∷ r) =
    ⊎_elim (λ low. ⊎_elim (λ h. inl (low, h)) (λ h. inr (h.0, Memᴰ.tail h.1, h.2)) (all-below_or n r)) (λ high. inr (v, Memᴰ.head refl, high)) (cases_lt v n)

-- What is tried is a walk, clear of the known paths.
pub tried : {b : Book} {q : Record} {paths walk : List ℕ} → Tried b q paths walk → Feasible (graph b) (spelled q.known paths) q.start q.end (take q.length walk)
tried (order, start) = order.state.walk (λ e. omega arith)

not_both : {x : Rejected} {q : Record} → ◌≡◌ {A = Result Record Rejected} (Err x) (Ok q) → ⊥
not_both e = zero_one (cc e)

module _ (s : List ℕ) (b : Book) (read : reading s ≡ accepted b) (q : Record) (paths walk : List ℕ) where
  -- the first condition that fails decides
  refused : (r : List ℕ) (x : Refusal) → FirstFails 0 (report_conditions q paths walk (failed r) b) x → reporting s q paths walk (failed r) ≡ answering (Err (rejected x q)) paths walk
  refused r x f =
      let refusal = refusals s x in
      refusal.report-keeps q paths walk (failed r) ((refusal.report q paths walk (failed r)).cause.1 (inr (b, read, f)))

  -- After the trials 11 decides.
  pub over : InOrder b q paths walk → q.stage ≢ 0 → (r : List ℕ) → RefusedUnder 11 s q paths walk r
  over order ended r =
      (Ended, refl, refused r Ended (inr (order.paths-fit, inr (order.walk-fits, inr (order.runs, inr (order.state, inl (ended, (refl, refl))))))))

  module _ (t : Tried b q paths walk) (r : List ℕ) where
    abbrev said : List Condition
    said = said_conditions (graph b) (state_of q paths walk) (failed r)

    abbrev tests : List Test
    tests = said_tests (graph b) (state_of q paths walk) (failed r)

    decides : Decides 0 tests said
    decides = said-decides (graph b) (state_of q paths walk) (failed r)

    refused-said : (x : Refusal) → FirstFails 0 said x → reporting s q paths walk (failed r) ≡ answering (Err (rejected x q)) paths walk
    refused-said x f = let order = t.0 in refused r x (inr (order.paths-fit, inr (order.walk-fits, inr (order.runs, inr (order.state, inr (t.1, f))))))

    under : (x : Refusal) → FirstFails 0 said x → RefusedUnder (number_of x) s q paths walk r
    under x f = (x, refl, refused-said x f)

    all-said : AllHold said → (q' : Record) × ((reporting s q paths walk (failed r)).answer ≡ Ok q')
    all-said h =
        let order = t.0 in
        let g = graph (book_in (reading s)) in
        let after : State = step g (chosen g) (state_of q paths walk) (failed r) in
        let none-refused =
        ((conditions (reading s)).report q paths walk (failed r)).accepts.1 (b, read, (order.paths-fit, (order.walk-fits, (order.runs, (order.state, (t.1, h)))))) in
        (after.rec, ap (λ x. (reported_as x after q paths walk).answer) none-refused)

    -- all hold, or one is the first that does not
    outcome : AllHold said ⊎ ((x : Refusal) × FirstFails 0 said x)
    outcome = decided 0 tests said decides

    -- what holds of the number of each first that does not holds of every number under which the run is refused
    of_number : (P : ℕ → Type 0) → ((x : Refusal) → FirstFails 0 said x → P (number_of x)) → (n : ℕ) → RefusedUnder n s q paths walk r → P n
    of_number P told n (x, is, left) =
        ⊎_elim (λ all. absurd (not_both (sym (ap (λ m. m.answer) left) ∙ (all-said all).1)))
        (λ (y, f). let same = rejected-for y x q q (sym (ap (λ m. m.answer) (refused-said y f)) ∙ ap (λ m. m.answer) left) in subst P (ap number_of same ∙ is) (told y f))
        outcome

    -- two to eight vertices, all below the count; where the walk has them; and room
    abbrev Size : Type 0
    Size = (2 ≤ length r) × (length r ≤ 8)

    abbrev Below : Type 0
    Below = All (λ v. v < b.count) r

    abbrev Stands : Type 0
    Stands = Occurs r (take q.length walk)

    abbrev Room : Type 0
    Room = q.known < 256

    abbrev Because : ℕ → Type 0
    Because n =
        cond (eqb n 16) (Size → ⊥) (cond (eqb n 17) (Size × (Below → ⊥)) (cond (eqb n 12) (Size × Below × (Stands → ⊥)) (cond (eqb n 13) (Size × Below × Stands × (Room → ⊥)) ⊥)))

    because : (x : Refusal) → FirstFails 0 said x → Because (number_of x)
    because x (inl (fails, (is, _))) = subst Because (sym is) fails
    because x (inr (size, inl (fails, (is, _)))) = subst Because (sym is) (size, fails)
    because x (inr (size, inr (below, inl (fails, (is, _))))) = subst Because (sym is) (size, below, fails)
    because x (inr (size, inr (below, inr (stands, inl (fails, (is, _)))))) = subst Because (sym is) (size, below, stands, fails)
    because x (inr (size, inr (below, inr (stands, inr (room, nothing))))) = absurd nothing

    why : (n : ℕ) → RefusedUnder n s q paths walk r → Because n
    why = of_number Because because

    outside : (Size → ⊥) → (length r < 2) ⊎ (8 < length r)
    outside fails = ⊎_elim inl (λ two. ⊎_elim inr (λ eight. absurd (fails (two, eight))) (cases_lt 8 (length r))) (cases_lt (length r) 2)

    inside : Size → (length r < 2) ⊎ (8 < length r) → ⊥
    inside size (inl short) = omega arith
    inside size (inr long) = omega arith

    off : (Below → ⊥) → (v : ℕ) × Memᴰ v r × (b.count ≤ v)
    off fails = ⊎_elim (λ all. absurd (fails all)) (λ v. v) (all-below_or b.count r)

    -- one of the three, where the run is not by the rules or does not stand
    of_three : (IsRun b.count r × Stands → ⊥) → (x : Refusal) → FirstFails 0 said x
        → RefusedUnder 16 s q paths walk r ⊎ RefusedUnder 17 s q paths walk r ⊎ RefusedUnder 12 s q paths walk r
    of_three not x (inl (fails, is)) = inl (x, is.0, refused-said x (inl (fails, is)))
    of_three not x (inr (size, inl (fails, is))) = inr (inl (x, is.0, refused-said x (inr (size, inl (fails, is)))))
    of_three not x (inr (size, inr (below, inl (fails, is)))) = inr (inr (x, is.0, refused-said x (inr (size, inr (below, inl (fails, is))))))
    of_three not x (inr (size, inr (below, inr (stands, _)))) = absurd (not ((size.0, size.1, below), stands))

    pub told : Told s b q paths walk r
    told =
        record {
          size = (λ h. outside (why 16 h), λ o. under PathLength (inl (λ size. inside size o, (refl, refl))));
          grade = (
            λ h. let (size, fails) = why 17 h in let (v, among, high) = off fails in (size.0, size.1, v, among, high),
            λ (two, eight, v, among, high). under NoVertex (inr ((two, eight), inl (λ below. let low = all-member (λ u. u < b.count) r below v among in omega arith, (refl, refl)))),
          );
          elsewhere = (
            λ h. let (size, below, fails) = why 12 h in ((size.0, size.1, below), fails),
            λ ((two, eight, below), fails). under NotStanding (inr ((two, eight), inr (below, inl (fails, (refl, refl))))),
          );
          full = (
            λ h. let (size, below, stands, fails) = why 13 h in ((size.0, size.1, below), stands, ⊎_elim (λ room. absurd (fails room)) (λ many. many) (cases_lt q.known 256)),
            λ ((two, eight, below), stands, many). under Full (inr ((two, eight), inr (below, inr (stands, inl (λ room. omega arith, (refl, refl)))))),
          );
          together = (
            λ h ((two, eight, below), stands). ⊎_elim (λ k. why 16 k (two, eight)) (⊎_elim (λ k. (why 17 k).1 below) (λ k. (why 12 k).2 stands)) h,
            λ not. ⊎_elim (λ all. absurd (not ((all.0.0, all.0.1, all.1.0), all.1.1.0))) (λ f. of_three not f.0 f.1) outcome,
          );
          no_other = of_number (λ n. Memᴰ n (16 ∷ 17 ∷ 12 ∷ 13 ∷ [])) (λ x f. number-among tests x ((first_some 0 tests said x decides).1 f));
          taken = (
            λ h. ⊎_elim (λ all. ((all.0.0, all.0.1, all.1.0), all.1.1.0, all.1.1.1.0)) (λ f. absurd (not_both (sym (ap (λ m. m.answer) (refused-said f.0 f.1)) ∙ h.1))) outcome,
            λ ((two, eight, below), stands, room). all-said ((two, eight), (below, (stands, (room, tt)))),
          );
        }

    -- A known run is by the rules, and the line-up that stands is clear of it.
    pub known : Memᴰ r (spelled q.known paths) → RefusedUnder 12 s q paths walk r
    known m =
        let is : IsPath b.count r = all-member (IsPath b.count) (spelled q.known paths) t.0.runs.paths r m in
        told.elsewhere.1 ((is.two, is.eight, is.below), (tried t).clear r m)
