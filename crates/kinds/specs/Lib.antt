-- Meaning: Inputs (the parts of the inputs of check_lineup and replay, and what is answered for a check).
pub mod Inputs
