-- Meaning: Demands (the three demands, sentence by sentence, and what 02 adds), in the words of Marks (which sheets bind), Fields and Asked (what each refusal is for) and Calls (the
-- answers to a list of reports, and true labs), with Conditions (a list of conditions, the first that fails). In proofs/, Theorems has the theorems and
-- the others lead to them; Witnesses shows on book A that the premises of demand 3, and of requests 2, 4, 5 and 6, can be met. Nothing stands on this crate.
pub mod Marks
pub mod Conditions
pub mod Fields
pub mod Asked
pub mod Calls
pub mod Demands
