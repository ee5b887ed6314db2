pub mod Putting
pub mod Digits
pub mod Printed
pub mod LineLaws
pub mod LineSizes
pub mod LineEnds
pub mod Example
