pub mod Doubles
pub mod Cells
pub mod Sums
pub mod Values
pub mod Between
pub mod Promise
pub mod Taken
