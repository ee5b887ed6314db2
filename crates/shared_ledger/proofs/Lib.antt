pub mod Conditions
pub mod Holdings
pub mod Quiet
pub mod Changed
pub mod Kept
pub mod Isolation
pub mod Runs
pub mod Course
