pub mod Text
pub mod Reported
