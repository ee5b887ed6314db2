pub mod Answered
pub mod SpeciesLaws
pub mod SpeciesSizes
pub mod SpeciesEnds
pub mod Example
pub mod SpeciesPrinted
