pub mod Composition
pub mod Lines
pub mod Made
pub mod SpeciesText
