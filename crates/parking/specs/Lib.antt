pub mod Grid
pub mod SeasonList
pub mod Walk
pub mod Carried
