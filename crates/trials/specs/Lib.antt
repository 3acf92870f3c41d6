-- Meaning: Operations (what begin and a report answer and leave). Laws: Replanning, OperationLaws.
pub mod Operations
pub mod Replanning
pub mod OperationLaws
