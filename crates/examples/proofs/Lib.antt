pub mod Ends
pub mod Board
