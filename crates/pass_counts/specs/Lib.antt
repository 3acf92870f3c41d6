-- Meaning for this crate's contracts: Most (the most changeovers of plans).
pub mod Most
