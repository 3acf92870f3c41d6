-- Meaning: Listing (a list of arcs as a book). Standing and StandingLaws serve the proofs of the code that reads it, SameBook
-- the law that the plan is that of the book with the same arcs. The laws are in proofs/.
pub mod Listing
pub mod Standing
pub mod StandingLaws
pub mod SameBook
