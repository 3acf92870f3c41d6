-- Meaning: Bytes (a book's bytes, and the rules that a book keeps). The laws are in proofs/: RoundTrip has the theorem that the reader accepts exactly
-- these bytes and what follows from it, Longest a book of the greatest length; Field, Adding, ReadsLaws and Written lead to RoundTrip, BytesLaws counts
-- the bytes, and BookSize and LongBook bound them.
pub mod Bytes
