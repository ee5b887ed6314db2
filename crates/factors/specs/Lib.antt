pub mod Escape
pub mod Means
pub mod Units
