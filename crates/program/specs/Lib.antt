pub mod Ends
pub mod Printed
pub mod Reads
pub mod Status
pub mod Writes
pub mod Sources
