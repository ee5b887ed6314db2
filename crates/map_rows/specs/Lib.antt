pub mod Kinds
pub mod Digits
pub mod Rounded
pub mod Rows
pub mod Promise
pub mod Limits
