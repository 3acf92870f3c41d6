-- Meaning: Next (where a case lies), Each (the cases of a stream in turn) and Same (what a comparison tells), for the contracts of the test programs.
pub mod Each
pub mod Next
pub mod Same
