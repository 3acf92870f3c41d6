-- Meaning: Dates (dates, days of the year, windows). Calendar says what the laws speak of; the laws are in proofs/.
pub mod Dates
pub mod Calendar
