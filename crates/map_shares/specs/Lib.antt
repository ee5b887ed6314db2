pub mod Kinds
pub mod Demands
pub mod Roads
pub mod Shares
pub mod ExactShares
pub mod Range
