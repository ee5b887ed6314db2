pub mod Escaping
pub mod SevenFactors
pub mod Prepared
pub mod Range
