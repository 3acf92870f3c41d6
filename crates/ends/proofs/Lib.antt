pub mod Gathering
pub mod Telling
pub mod Filled
pub mod EndsLaws
pub mod Least
