-- Meaning: Plan (what a plan is in the lent area); for this crate's contracts View (a Product's tables as the definitions take them). The others define what laws speak of; the laws are in proofs/.
pub mod Distance
pub mod Route
pub mod Guiding
pub mod Plan
pub mod View
