pub mod Accepted
pub mod Lacking
pub mod Plans
pub mod Tests
pub mod Named
pub mod Invariant
pub mod Claim
pub mod Oracle
