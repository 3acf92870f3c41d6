-- Meaning: Rewriting, what is written.
pub mod Rewriting
