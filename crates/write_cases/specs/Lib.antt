-- Meaning: Inputs (what an input of write_book says), Kept (how much of it is looked at) and Writing (what is answered and written).
pub mod Inputs
pub mod Kept
pub mod Writing
