pub mod BoardLaws
pub mod LinesLaws
