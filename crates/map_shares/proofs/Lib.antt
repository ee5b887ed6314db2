pub mod Ranges
pub mod Enclosure
pub mod WholeMass
