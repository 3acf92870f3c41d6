-- One path at one level, as the code reads it from its entry.
use Rattle.std.proofs.Common.{◌≡◌, ℕ, suc, ◌+◌, ◌*◌, ◌%◌, ◌^◌, ◌<◌, ◌≤◌, List, [], length, get_or, bit_or, ◌∙◌, arith, lit<}
use Rattle.std.proofs.Math.ListN.{set}
use Rattle.std.proofs.Math.Pow.{shl_exact}
use Rattle.states.specs.Count.{most_states}
use Rattle.automaton.specs.Area.{Spells}
use Rattle.automaton.specs.Progress.{Progress, Reached}
use Rattle.automaton.specs.Words.{index_member}
use Rattle.automaton.proofs.Turns.{counted, few, passed, q-low, v_low, forbids, found, grown-counted, grown}

one_bit : (v : ℕ) → v < 64 → 1 * 2 ^ v % 2 ^ 64 ≡ 2 ^ v
one_bit v h = shl_exact {a = 1} 1 v 64 (lit< tt) (omega arith) ∙ omega arith

module _ {area : List ℕ} {F : List (List ℕ)} {n count l i first m : ℕ} {steps blockeds latests fails current : List ℕ} (s : Spells area count F) (within : i < count)
    (p : Progress F n l i first first m steps blockeds latests fails current) where
  here : i < length F
  here = omega (arith, s.paths)

  short : length (get_or F i []) ≤ 8
  short = p.numbered.bounded.short (get_or F i []) (index_member [] F i here)

  -- The path has ended before.
  pub turn-passed : get_or area (i * 9) 0 ≤ l → Progress F n l (i + 1) first first m steps blockeds latests fails current
  turn-passed h = passed p here (omega (arith, s.size i within))

  module _ (more : l < get_or area (i * 9) 0) where
    abbrev pub q : ℕ
    q = get_or current i 0

    abbrev pub v : ℕ
    v = get_or area (i * 9 + 1 + l) 0

    longer : l < length (get_or F i [])
    longer = omega (arith, s.size i within)

    v-at : v ≡ get_or (get_or F i []) l 0
    v-at = s.vertex i l within longer

    pub cell_room : (i * 9 + 9 ≤ length area) × (l < 8) × (q < m) × (m ≤ most_states) × (v < 64) × (m * 64 ≤ length steps) × (m ≤ length blockeds)
    cell_room = (
      omega (arith, s.room),
      omega (arith, longer, short),
      omega (arith, q-low p here longer, p.ordered),
      few p,
      omega (arith, v-at, v_low p here longer, p.numbered.bounded.few-vertices),
      omega (arith, p.room.of_steps, counted p),
      omega (arith, p.room.of_blockeds, counted p),
    )

    -- It ends here.
    pub turn-forbids : get_or area (i * 9) 0 ≡ l + 1 → Progress F n l (i + 1) first first m steps (set blockeds q (bit_or (get_or blockeds q 0) (1 * 2 ^ v % 2 ^ 64))) latests fails current
    turn-forbids h = rw (one_bit v cell_room.4, v-at) (forbids p here longer (omega (arith, s.size i within)))

    module _ (open-ended : get_or area (i * 9) 0 ≡ l + 1 → ⊥) where
      further : suc l < length (get_or F i [])
      further = omega (arith, s.size i within, longer)

      -- It goes on to a state that is there.
      pub turn-found : first ≤ get_or steps (q * 64 + v) 0 → Progress F n l (i + 1) first first m steps blockeds latests fails (set current i (get_or steps (q * 64 + v) 0))
      turn-found h = rw v-at (found p here longer further (rw v-at at h))

      module _ (fresh : get_or steps (q * 64 + v) 0 < first) where
        pub turn-room : (m + 1 ≤ most_states) × (m + 1 ≤ length latests) × (m + 1 ≤ length fails)
        turn-room =
            let more-states = grown-counted p here longer further (rw v-at at fresh) in
            (omega (arith, p.numbered.bounded.few-vertices, p.numbered.bounded.few), omega (arith, p.room.of-latests), omega (arith, p.room.of-fails))

        -- It goes on to a new state.
        pub turn-grown : Progress F n l (i + 1) first first (m + 1) (set steps (q * 64 + v) m) blockeds (set latests m v) (set fails m (get_or steps (q * 64 + v) 0)) (set current i m)
        turn-grown = rw v-at (grown p here longer further (rw v-at at fresh))

module _ {area : List ℕ} {count l i first m : ℕ} {steps blockeds latests fails current : List ℕ} (r : Reached area count l i first first m steps blockeds latests fails current) (within : i < count) where
  pub reached_cell : l < get_or area (i * 9) 0
      → (i * 9 + 9 ≤ length area) × (l < 8) × (get_or current i 0 < m) × (m ≤ most_states) × (get_or area (i * 9 + 1 + l) 0 < 64) × (m * 64 ≤ length steps) × (m ≤ length blockeds)
  reached_cell more = cell_room r.spells within r.so_far more

  pub reached-room : l < get_or area (i * 9) 0 → (get_or area (i * 9) 0 ≡ l + 1 → ⊥) → get_or steps (get_or current i 0 * 64 + get_or area (i * 9 + 1 + l) 0) 0 < first
      → (m + 1 ≤ most_states) × (m + 1 ≤ length latests) × (m + 1 ≤ length fails)
  reached-room more open-ended fresh = turn-room r.spells within r.so_far more open-ended fresh
