pub mod ReportPlaces
pub mod Filled
pub mod YearWords
pub mod SeasonWords
pub mod Promised
