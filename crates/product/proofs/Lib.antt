pub mod Word
pub mod Visit
pub mod Marking
pub mod Edges
pub mod Looping
