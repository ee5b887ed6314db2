pub mod Most
pub mod Heat
pub mod MarkTemperatures
pub mod Rise
pub mod Runs
pub mod Curve
pub mod Permeation
pub mod SameColumns
