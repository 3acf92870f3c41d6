-- Meaning: what a report is refused for.
pub mod Judging
