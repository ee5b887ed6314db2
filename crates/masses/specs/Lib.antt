pub mod Bands
pub mod Figures
pub mod Use
pub mod Day
pub mod AnyCounts
