pub mod Enough
pub mod InputLaws
pub mod KeptLaws
pub mod WrittenLaws
