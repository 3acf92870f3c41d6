-- Worked examples, each by computation: no code's proof cites them. Sums has 01's starred sums, Ends those of 02, order 1, ComeBack those of order 2, Seasons those
-- of order 4; the others say what the definitions and the operations make of small books, or serve these.
pub mod GraphA
pub mod Certificate
pub mod Walks
pub mod WrongRoad
pub mod LeastTable
pub mod Distances
pub mod Batches
pub mod Books
pub mod Rules
pub mod Plans
pub mod Listed
pub mod Sums
pub mod Trials
pub mod Printed
pub mod Ends
pub mod Board
pub mod ComeBack
pub mod Seasons
