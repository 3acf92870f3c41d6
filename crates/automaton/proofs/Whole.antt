-- The levels as the code takes them: before the first, and from one to the next.
use Rattle.std.proofs.Common.{◌≡◌, refl, sym, ap, ◌∙◌, ℕ, ◌+◌, ◌*◌, ◌<◌, ◌≤◌, List, [], length, get_or, add-zero, add-one, arith}
use Rattle.states.specs.Count.{states_of, most_states}
use Rattle.automaton.specs.Area.{Spells, Bounded}
use Rattle.automaton.specs.Progress.{Room, Progress, Waiting}
use Rattle.automaton.specs.Rows.{Singles, Starts}
use Rattle.automaton.specs.Words.{index_member}
use Rattle.automaton.proofs.Turns.{counted, few}
use Rattle.automaton.proofs.Levels.{link-low, started, next_level}

pub begun : {area : List ℕ} {F : List (List ℕ)} {n count : ℕ} {steps blockeds latests fails current : List ℕ} → Spells area count F → Bounded n F → Singles n n steps blockeds latests → Starts area count current
    → Room (states_of n count) steps blockeds latests fails → Progress F n 1 0 n n n steps blockeds latests fails current
begun {area} {F} {current = current} s b v t room = started b v.rows v.blockeds_are v.latests_are current-is (rw s.paths room) t.size
  where
    current-is : (j : ℕ) → j < length F → get_or current j 0 ≡ get_or (get_or F j []) 0 0
    current-is j h =
        t.first j (omega (arith, s.paths))
        ∙ ap (λ (x : ℕ). get_or area x 0) (sym (add-zero (j * 9 + 1)))
        ∙ s.vertex j 0 (omega (arith, s.paths)) (omega (arith, b.long (get_or F j []) (index_member [] F j h)))

-- The bounds of the states that wait for their rows.
pub waiting_room : {n first m : ℕ} {steps blockeds fails : List ℕ} → Waiting n first m steps blockeds fails
    → (first ≤ m) × (n ≤ 64) × (m ≤ most_states) × (m * 64 ≤ length steps) × (m ≤ length blockeds) × ((q : ℕ) → first ≤ q → q < m → get_or fails q 0 < first) × (m ≤ length fails)
waiting_room w =
    let p = w.so_far in
    (p.ordered.1, p.numbered.bounded.few-vertices, few p, omega (arith, p.room.of_steps, counted p), omega (arith, p.room.of_blockeds, counted p), link-low p, omega (arith, p.room.of-fails, counted p))

pub onward : {area : List ℕ} {F : List (List ℕ)} {n count l first m : ℕ} {steps blockeds latests fails current : List ℕ} → Spells area count F → Progress F n l count first m m steps blockeds latests fails current
    → Progress F n (l + 1) 0 m m m steps blockeds latests fails current
onward {l = l} s p =
    rw (add-one l) (next_level p (omega (arith, s.paths)) refl)
