-- Meaning: Given (the numbers of a table in a case).
pub mod Given
