pub mod AcceptedRange
pub mod SeasonWork
