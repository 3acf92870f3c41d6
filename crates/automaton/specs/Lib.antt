-- Meaning for this crate's contracts: Area (forbidden paths as bytes), Built (the automaton as tables), and of Progress
-- `Room` (that they are long enough) and of Rows `Sized` (how long they are). Words, Lent and the rest of Progress and
-- Rows serve the proofs of the code that builds it.
pub mod Area
pub mod Built
pub mod Words
pub mod Progress
pub mod Rows
pub mod Lent
