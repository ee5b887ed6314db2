pub mod Bounded
pub mod Fraction
pub mod Lists
