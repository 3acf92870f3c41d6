-- Meaning for this crate's contract: Work (the work tables), whose laws stand there too. Counted says of a number that so many passes are made (for the contracts of the crates above); its laws are in proofs/.
pub mod Work
pub mod Counted
