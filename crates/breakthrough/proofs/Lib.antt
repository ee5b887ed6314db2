pub mod Fitted
pub mod Listed
