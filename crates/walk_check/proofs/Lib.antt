pub mod Pairs
pub mod Walks
pub mod Searched
pub mod Checks
pub mod NoFirst
pub mod CheckLaws
pub mod Laws
