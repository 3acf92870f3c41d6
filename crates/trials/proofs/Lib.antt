pub mod Beginning
pub mod Reporting
