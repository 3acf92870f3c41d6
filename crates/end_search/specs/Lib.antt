-- Meaning for this crate's contracts: EndsAll.
pub mod EndsAll
