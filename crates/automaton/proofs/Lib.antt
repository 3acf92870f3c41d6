pub mod Prefixes
pub mod Bits
pub mod Turns
pub mod Levels
pub mod Entry
pub mod Whole
