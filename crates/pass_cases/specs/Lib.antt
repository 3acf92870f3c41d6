-- Meaning for this crate's contracts: Counts (the passes of a book).
pub mod Counts
