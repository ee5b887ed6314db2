mod Fronts
pub mod Overlong
pub mod Printing
mod Taking
