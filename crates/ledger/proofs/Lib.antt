pub mod Counts
pub mod Conditions
pub mod Kept
pub mod Course
