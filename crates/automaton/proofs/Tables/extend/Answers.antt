-- The tests that led to each return are those of the four turns.
use Rattle.std.proofs.Common.{arith}
use Rattle.automaton.proofs.Entry.{reached_cell, reached-room, turn-passed, turn-forbids, turn-found, turn-grown}
use Rattle.automaton.proofs.Tables.extend.Goals as goal

pub returns-then-size-level-clause-taken : goal.returns-then-size-level-clause-taken
returns-then-size-level-clause-taken c F n s p = turn-passed s c.requires.within p c.if-size-level.true

-- the rest of a path that goes on lies in its entry
pub bounds-paths-i-2 : goal.bounds-paths-i-2
bounds-paths-i-2 c = omega (arith, reached_cell c.requires.reached)

-- the state and the vertex that are read
pub overflow_shl-self : goal.overflow_shl-self
overflow_shl-self c = omega (arith, reached_cell c.requires.reached)

pub bounds-self-q : goal.bounds-self-q
bounds-self-q c = omega (arith, reached_cell c.requires.reached)

pub bounds-self-q-then-size-level-2 : goal.bounds-self-q-then-size-level-2
bounds-self-q-then-size-level-2 c = omega (arith, reached_cell c.requires.reached)

pub returns-then-size-level-2-clause-taken : goal.returns-then-size-level-2-clause-taken
returns-then-size-level-2-clause-taken c F n s p = turn-forbids s c.requires.within p c.if-size-level.false c.if-size-level-2.true

pub bounds-self-cell : goal.bounds-self-cell
bounds-self-cell c = omega (arith, reached_cell c.requires.reached)

pub returns-then-first-old-clause-taken : goal.returns-then-first-old-clause-taken
returns-then-first-old-clause-taken c F n s p = turn-found s c.requires.within p c.if-size-level.false c.if-size-level-2.false c.if-first-old.true

-- a new state has a number
pub overflow_cast-new : goal.overflow_cast-new
overflow_cast-new c = omega (arith, reached-room c.requires.reached)

pub offset_bounds-self-states : goal.offset_bounds-self-states
offset_bounds-self-states c = omega (arith, reached-room c.requires.reached)

pub bounds-self-states : goal.bounds-self-states
bounds-self-states c = omega (arith, reached-room c.requires.reached)

pub bounds-self-states-2 : goal.bounds-self-states-2
bounds-self-states-2 c = omega (arith, reached-room c.requires.reached)

pub bounds-self-cell-2 : goal.bounds-self-cell-2
bounds-self-cell-2 c = omega (arith, reached_cell c.requires.reached)

pub overflow_add-result : goal.overflow_add-result
overflow_add-result c = omega (arith, reached-room c.requires.reached)

pub returns-clause-taken : goal.returns-clause-taken
returns-clause-taken c F n s p = turn-grown s c.requires.within p c.if-size-level.false c.if-size-level-2.false c.if-first-old.false
