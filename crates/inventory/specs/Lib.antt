pub mod FactorBand
pub mod FactorAnswers
pub mod FactorCall
pub mod ReportAnswers
pub mod ReportCall
pub mod SameGrid
pub mod NextVersion
pub mod ByClass
