pub mod Numbers
pub mod Renewed
pub mod RowYear
pub mod Sums
