pub mod Bracket
pub mod Start
pub mod Empty
pub mod Loss
pub mod Loaded
