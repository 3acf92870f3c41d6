pub mod StandingLaws
pub mod LongList
pub mod SameBook
