pub mod Rule
pub mod Check
