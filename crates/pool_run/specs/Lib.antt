pub mod Ran
pub mod Refusal
