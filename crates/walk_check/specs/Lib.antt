-- Meaning: Checking (which path the check names, and what it is refused for). The laws are in proofs/.
pub mod Checking
