pub mod Choosing
pub mod Walking
pub mod Route
pub mod Guiding
pub mod Planned
