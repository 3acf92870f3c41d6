-- Meaning: Edge and Table (the graph, its paths, tables, passes, and how many are made), Pack (weight and edges in one number), Made (the first pass that changes none)
-- and Reverse (the edges turned round). The others define what laws speak of; the laws are in proofs/.
pub mod Edge
pub mod Table
pub mod Pass
pub mod Shorten
pub mod Reverse
pub mod Ends
pub mod Pack
pub mod Made
