-- Meaning for this crate's contracts: Ends (the table) and Least (how it is read off distances). The laws are in proofs/.
pub mod Ends
pub mod Least
