-- Meaning: Rising (arcs in rising order), Writing (the operation's answer and area) and Contents (which numbers say a book, and which end too early). Kept is what the code relies on. The laws are in proofs/.
pub mod Rising
pub mod Writing
pub mod Contents
pub mod Kept
