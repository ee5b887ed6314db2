pub mod Alike
pub mod More
