-- Meaning: Making (what a single call leaves).
pub mod Making
