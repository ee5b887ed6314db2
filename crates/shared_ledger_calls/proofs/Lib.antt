pub mod Tallies
pub mod Outcome
