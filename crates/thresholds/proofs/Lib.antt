pub mod Far
pub mod Threshold
pub mod Found
