-- Meaning: Board (the text for an input). Lines (the lines, read off the table of ends) serves the proofs. The laws are in proofs/.
pub mod Board
pub mod Lines
