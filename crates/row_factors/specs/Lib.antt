pub mod Units
pub mod Season
pub mod Seven
