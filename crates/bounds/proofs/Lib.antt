mod Root
mod Parts
pub mod Within
pub mod Table
mod Product
mod Tail
mod Sizes
mod Exponential
mod Sums
mod Entries
mod PowerBound
mod Composition
mod ExponentialBound
mod Growth
mod Ends
mod Weights
pub mod Line
pub mod Units
mod Products
mod ThetaTable
pub mod Laws
mod ShortBound
pub mod ShortLine
mod Steepness
mod WholeExponents
