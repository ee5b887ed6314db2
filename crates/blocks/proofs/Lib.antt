pub mod Blocks
pub mod Parts
