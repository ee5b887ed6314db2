pub mod RowFactors
pub mod Factors
