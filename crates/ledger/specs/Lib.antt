pub mod Machine
pub mod Ledger
pub mod Kept
pub mod Course
