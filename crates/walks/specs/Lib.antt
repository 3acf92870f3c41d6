-- Meaning: Graph, Walk, Avoid, Order and Best; Weights (a graph as a table), Feasible (the test of a feasible walk), Stutter (paths that occur in no walk). The laws are in proofs/.
pub mod Graph
pub mod Weights
pub mod Walk
pub mod Avoid
pub mod Order
pub mod Best
pub mod Feasible
pub mod Stutter
