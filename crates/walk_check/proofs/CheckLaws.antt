-- Laws of the check: a walk is clear exactly if it avoids the forbidden set, and a path that is named ends earliest and is the shortest.
use Prim.Native.Nat.{ℕ, zero, suc, ◌+◌, ◌-◌, ◌≤◌, ◌<◌}
use Rattle.std.specs.Prelude.{Bool, true, false, cond, ◌&&◌, eqb, leb, length, take, drop, Some, None}
use Rattle.std.proofs.Common.{true≢false, ap₂, ◌∙◌, arith, eqb-true, eq-eqb, leb-true, le-leb, length-append, take-append-drop, take_at, drop_at}
use mathlib.Core.List.{List, ◌++◌, Memᴰ}
use Rattle.std.proofs.Math.Logic.{by_cases}
use Rattle.std.proofs.Math.Option.{Option, none, some, none-ne-some}
use Rattle.std.proofs.Math.Path.{◌≡◌, refl, sym, ap}
use Rattle.std.proofs.Math.Decide.{ℕ_discrete, dec_le}
use Rattle.std.proofs.Math.Seq.{slice}
use Rattle.limits.specs.Limits.{longest_path}
use Rattle.lists.specs.Test.{T→true, true→T, any→some, some→any, and-true}
use Rattle.walks.specs.Avoid.{Occurs, Avoids, same}
use Rattle.walk_check.specs.declared.Occurrence.{Occurrence}
use Rattle.lists.specs.Paste.{slice_part}
use Rattle.walk_check.specs.Checking.{ends_at, some_ends, first_from, named_at, answer_at, check_from, occurrence}
use Rattle.rules.proofs.Sets.{same_true, true_same, refuted}
use Rattle.walk_check.proofs.NoFirst.{first-none}

-- what a search from `from` says of the numbers before the one that it finds
pub record First (p : ℕ → Bool) (from n : ℕ) : Type 0 where
  pub passes : p n ≡ true
  pub low : from ≤ n
  pub before : (m : ℕ) → from ≤ m → m < n → p m ≡ false

first_found : (p : ℕ → Bool) (k from n : ℕ) → first_from p k from ≡ some n → First p from n
unfolding first_from
first_found p zero from n e = absurd (none-ne-some _ e)
first_found p (suc k) from n e = go (p from) refl e (first_found p k (suc from) n)
  where
    go : (x : Bool) → p from ≡ x → cond x (some from) (first_from p k (suc from)) ≡ some n → (first_from p k (suc from) ≡ some n → First p (suc from) n) → First p from n
    go true here is later = let found : from ≡ n = cc in record { passes = sym (ap p found) ∙ here; low = omega arith; before = λ m l h. absurd (omega arith) }
    go false here is later =
        let f = later is in
        record {
          passes = f.passes;
          low = omega (arith, f.low);
          before = λ m l h. by_cases (ℕ_discrete from m) (λ q. sym (ap p q) ∙ here) (λ (ne : ¬ (from ≡ m)). f.before m (omega arith) h);
        }

first-nothing : (p : ℕ → Bool) (k from : ℕ) → first_from p k from ≡ none → (m : ℕ) → from ≤ m → m < from + k → p m ≡ false
unfolding first_from
first-nothing p zero from e m l h = absurd (omega arith)
first-nothing p (suc k) from e m l h = go (p from) refl e (first-nothing p k (suc from))
  where
    go : (x : Bool) → p from ≡ x → cond x (some from) (first_from p k (suc from)) ≡ none
        → (first_from p k (suc from) ≡ none → (m : ℕ) → suc from ≤ m → m < suc from + k → p m ≡ false) → p m ≡ false
    go true here is later = absurd (none-ne-some _ (sym is))
    go false here is later = by_cases (ℕ_discrete from m) (λ q. sym (ap p q) ∙ here) (λ (ne : ¬ (from ≡ m)). later is m (omega arith) (omega arith))

-- ---- a path that ends at a place
module _ (w r : List ℕ) where
  -- where it occurs, it ends
  pub record Ends : Type 0 where
    pub place : ℕ
    pub within : place ≤ length w
    pub begins : length r ≤ place
    pub there : ends_at w place r ≡ true

  pub occurs→ends : Occurs r w → Ends
  occurs→ends o =
      let e : ℕ = length o.before + length r in
      let size : length w ≡ length o.before + (length r + length o.after) = ap length o.split ∙ simp length-append in
      let start : e - length r ≡ length o.before = omega arith in
      let part : slice (e - length r) e w ≡ r =
      ap (λ i. slice i e w) start
      ∙ slice_part (length o.before) (length r) w (omega arith)
      ∙ ap (λ l. take (length r) (drop (length o.before) l)) o.split
      ∙ ap (take (length r)) (drop_at o.before (r ++ o.after) (length o.before) refl)
      ∙ take_at r o.after (length r) refl in
      record { place = e; within = omega arith; begins = omega arith; there = ap₂ (λ x y. x && y) (le-leb (length r) e (omega arith)) (true_same r _ (sym part)) }

  pub ends→occurs : (e : ℕ) → e ≤ length w → ends_at w e r ≡ true → Occurs r w
  ends→occurs e within h =
      let (low, part) = and-true (leb (length r) e) (same r (slice (e - length r) e w)) h in
      let begins : length r ≤ e = leb-true (length r) e low in
      let place : ℕ = e - length r in
      let end_is : e ≡ place + length r = omega arith in
      let here : take (length r) (drop place w) ≡ r = sym (slice_part place (length r) w (omega arith)) ∙ ap (λ j. slice place j w) (sym end_is) ∙ sym (same_true r (slice place e w) part) in
      record {
        before = take place w;
        after = drop (length r) (drop place w);
        split = sym (take-append-drop place w) ∙ ap (λ l. take place w ++ l) (sym (take-append-drop (length r) (drop place w)) ∙ ap (λ l. l ++ drop (length r) (drop place w)) here);
      }

module _ (F : List (List ℕ)) (w : List ℕ) where
  some-ends : (e n : ℕ) → some_ends F w e n ≡ true → (r : List ℕ) × Memᴰ r F × (length r ≡ n) × (ends_at w e r ≡ true)
  some-ends e n h =
      let (r, m, t) = any→some (λ r. eqb (length r) n && ends_at w e r) F (true→T _ h) in
      let (size, there) = and-true (eqb (length r) n) (ends_at w e r) (T→true _ t) in
      (r, m, eqb-true (length r) n size, there)

  ends_some : (e : ℕ) {r : List ℕ} → Memᴰ r F → ends_at w e r ≡ true → some_ends F w e (length r) ≡ true
  ends_some e {r} m h =
      T→true (some_ends F w e (length r))
      (some→any (λ q. eqb (length q) (length r) && ends_at w e q) m (true→T (eqb (length r) (length r) && ends_at w e r) (ap₂ (λ x y. x && y) (eq-eqb (length r) (length r) refl) h)))

  -- ---- clear
  clear-end : (k e : ℕ) → check_from F w k e ≡ None → (j : ℕ) → e ≤ j → j < e + k → named_at F w j ≡ none
  unfolding check_from
  clear-end zero e h j l b = absurd (omega arith)
  clear-end (suc k) e h j l b = go (named_at F w e) refl h (clear-end k (suc e))
    where
      go : (o : Option ℕ) → named_at F w e ≡ o → answer_at e o (check_from F w k (suc e)) ≡ None
          → (check_from F w k (suc e) ≡ None → (j : ℕ) → suc e ≤ j → j < suc e + k → named_at F w j ≡ none) → named_at F w j ≡ none
      go none here is later = by_cases (ℕ_discrete e j) (λ q. sym (ap (named_at F w) q) ∙ here) (λ (ne : ¬ (e ≡ j)). later is j (omega arith) (omega arith))
      go (some n) here is later = absurd (let z : ◌≡◌ {A = ℕ} 0 1 = cc in omega arith)

  end-clear : (k e : ℕ) → ((j : ℕ) → e ≤ j → j < e + k → named_at F w j ≡ none) → check_from F w k e ≡ None
  unfolding check_from
  end-clear zero e h = refl
  end-clear (suc k) e h = ap (λ o. answer_at e o (check_from F w k (suc e))) (h e (omega arith) (omega arith)) ∙ end-clear k (suc e) (λ j l b. h j (omega arith) (omega arith))

  -- A walk that avoids the forbidden set is clear ...
  pub Avoids→clear : Avoids F w → occurrence F w ≡ None
  Avoids→clear avoids = end-clear (length w) 1 (λ e l b. first-none (some_ends F w e) 7 2 (λ n _. nowhere e n (omega arith)))
    where
      nowhere : (e n : ℕ) → e ≤ length w → some_ends F w e n ≡ false
      nowhere e n within =
          refuted (some_ends F w e n)
          (λ h. let (r, m, size, there) = some-ends e n h in avoids r m (ends→occurs w r e within there))

  module _ (sizes : (r : List ℕ) → Memᴰ r F → (2 ≤ length r) × (length r ≤ longest_path)) where
    -- ... and one that is clear avoids it, whose paths have 2 to 8 vertices.
    pub clear→Avoids : occurrence F w ≡ None → Avoids F w
    clear→Avoids clear r m o =
        let x = occurs→ends w r o in
        let (two, eight) = sizes r m in
        let missed =
        first-nothing (some_ends F w x.place) 7 2 (clear-end (length w) 1 clear x.place (omega (arith, x.begins)) (omega (arith, x.within))) (length r) two (omega arith) in
        true≢false (sym (ends_some x.place m x.there) ∙ missed)

    -- ---- named
    -- A path of F with n vertices stands at p; each that stands in w ends no earlier, and none with that end is shorter.
    pub record Named (p n : ℕ) : Type 0 where
      pub path : List ℕ
      pub listed : Memᴰ path F
      pub size : length path ≡ n
      pub within : p + n ≤ length w
      pub stands : take n (drop p w) ≡ path
      pub earliest : (r : List ℕ) → Memᴰ r F → (e : ℕ) → ends_at w e r ≡ true → p + n ≤ e
      pub shortest : (r : List ℕ) → Memᴰ r F → ends_at w (p + n) r ≡ true → n ≤ length r

    -- the end of the path that is named
    record End (e p n : ℕ) : Type 0 where
      place : ℕ
      low : e ≤ place
      high : place ≤ length w
      named : named_at F w place ≡ some n
      start : p ≡ place - n
      none_before : (j : ℕ) → e ≤ j → j < place → named_at F w j ≡ none

    find_end : (k e p n : ℕ) → e + k ≡ length w + 1 → check_from F w k e ≡ Some (record { place = p; length = n }) → End e p n
    unfolding check_from
    find_end zero e p n total h = absurd (let z : ◌≡◌ {A = ℕ} 0 1 = cc in omega arith)
    find_end (suc k) e p n total h = go (named_at F w e) refl h (find_end k (suc e) p n (omega arith))
      where
        go : (o : Option ℕ) → named_at F w e ≡ o → answer_at e o (check_from F w k (suc e)) ≡ Some (record { place = p; length = n }) → (check_from F w k (suc e) ≡ Some (record { place = p; length = n }) → End (suc e) p n) → End e p n
        go none here is later =
            let x = later is in
            record {
              place = x.place;
              low = omega (arith, x.low);
              high = x.high;
              named = x.named;
              start = x.start;
              none_before = λ j l b. by_cases (ℕ_discrete e j) (λ q. sym (ap (named_at F w) q) ∙ here) (λ (ne : ¬ (e ≡ j)). x.none_before j (omega arith) b);
            }
        go (some m) here is later =
            let same : ◌≡◌ {A = Occurrence} (record { place = e - m; length = m }) (record { place = p; length = n }) = cc in
            let start_is : e - m ≡ p = ap (λ o. o.place) same in
            let size_is : m ≡ n = ap (λ o. o.length) same in
            record {
              place = e;
              low = omega arith;
              high = omega arith;
              named = here ∙ ap some size_is;
              start = sym start_is ∙ ap (λ i. e - i) size_is;
              none_before = λ j l b. absurd (omega arith);
            }

    module _ (p n : ℕ) (x : End 1 p n) where
      found_at : First (some_ends F w x.place) 2 n
      found_at = first_found (some_ends F w x.place) 7 2 n x.named

      -- no path ends before that end
      none-earlier : (r : List ℕ) → Memᴰ r F → (e : ℕ) → ends_at w e r ≡ true → x.place ≤ e
      none-earlier r m e there =
          let (two, eight) = sizes r m in
          let begins : length r ≤ e = leb-true (length r) e (and-true (leb (length r) e) _ there).0 in
          by_cases (dec_le x.place e) (λ l. l)
          (λ (later : ¬ (x.place ≤ e)).
          let missed = first-nothing (some_ends F w e) 7 2 (x.none_before e (omega arith) (omega arith)) (length r) two (omega arith) in
          absurd (true≢false (sym (ends_some e m there) ∙ missed)))

      -- none with that end is shorter
      none_shorter : (r : List ℕ) → Memᴰ r F → ends_at w x.place r ≡ true → n ≤ length r
      none_shorter r m there =
          by_cases (dec_le n (length r)) (λ l. l)
          (λ (longer : ¬ (n ≤ length r)).
          absurd (true≢false (sym (ends_some x.place m there) ∙ found_at.before (length r) (sizes r m).0 (omega arith))))

      named : Named p n
      named =
          let (path, listed, size, there) = some-ends x.place n found_at.passes in
          let (low, part) = and-true (leb (length path) x.place) (same path (slice (x.place - length path) x.place w)) there in
          let begins : n ≤ x.place = omega (arith, leb-true (length path) x.place low, size) in
          let end_is : p + n ≡ x.place = omega (arith, x.start) in
          record {
            path = path;
            listed = listed;
            size = size;
            within = omega (arith, x.high);
            stands =
                sym (slice_part p n w (omega (arith, x.high)))
                ∙ ap₂ (λ i j. slice i j w) (x.start ∙ ap (λ m. x.place - m) (sym size)) end_is
                ∙ sym (same_true path (slice (x.place - length path) x.place w) part);
            earliest = λ r m e there. omega (arith, none-earlier r m e there);
            shortest = λ r m there. none_shorter r m (ap (λ e. ends_at w e r) (sym end_is) ∙ there);
          }

    -- 01: the answer is the place and length of the run that ends earliest; of runs with that end, the shortest.
    pub occurs→Named : (p n : ℕ) → occurrence F w ≡ Some (record { place = p; length = n }) → Named p n
    occurs→Named p n h = named p n (find_end (length w) 1 p n (omega arith) h)
