pub mod Counted
pub mod Few
pub mod Unique
