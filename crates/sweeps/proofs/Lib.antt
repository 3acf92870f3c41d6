pub mod Visiting
pub mod Turning
