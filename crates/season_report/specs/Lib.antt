pub mod Seasons
pub mod Year
