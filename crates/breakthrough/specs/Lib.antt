pub mod Through
pub mod Loads
pub mod Lines
