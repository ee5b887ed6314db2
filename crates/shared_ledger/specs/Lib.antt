pub mod Caller
pub mod Opening
pub mod Calls
pub mod Told
pub mod Course
