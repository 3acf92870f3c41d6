-- Meaning: Reaching.
pub mod Reaching
