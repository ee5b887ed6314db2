pub mod Decimals
pub mod MassBound
pub mod MassWidth
pub mod AnyCounts
pub mod MassSizes
pub mod FigureSizes
