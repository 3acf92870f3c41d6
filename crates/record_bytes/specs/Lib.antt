-- Meaning: Numbers (a record, its numbers, and an area, as bytes).
pub mod Numbers
