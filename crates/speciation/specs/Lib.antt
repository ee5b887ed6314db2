pub mod Table
pub mod Split
