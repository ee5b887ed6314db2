pub mod Computed
pub mod Telescope
pub mod Promised
pub mod Values
