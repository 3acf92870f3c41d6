-- Meaning: Text. Lent (what a text that is written into a lent slice leaves). TextLaws is in proofs/.
pub mod Lent
pub mod Text
