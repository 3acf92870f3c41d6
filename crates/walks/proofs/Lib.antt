pub mod Stutter
pub mod Feasible
pub mod Best
pub mod Preorder
pub mod Order
pub mod Walk
pub mod Avoid
