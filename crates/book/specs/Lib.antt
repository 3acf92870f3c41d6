-- Meaning: Refusal (numbers, tests, the order), Book, Reading (from bytes to a book or a refusal) and Tables (a book as tables). The others define what laws speak of; the laws are in proofs/.
pub mod Refusal
pub mod Book
pub mod Reading
pub mod Tables
pub mod RefusalLaws
pub mod BookLaws
pub mod TableLaws
pub mod EntryLaws
pub mod Loaded
