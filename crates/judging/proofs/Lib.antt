pub mod Occurring
pub mod Weighing
pub mod Standing
pub mod Recorded
